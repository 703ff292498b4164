-- How trees are distinguished, which a type that contracts see as trees needs.
use Rattle.std.specs.Prelude.{◌≡◌, ℕ, ℤ, List, refl}
use Rattle.std.specs.Coded.{Coded, code_by, coded×, coded_bool, coded_ℕ, coded_ℤ, coded_list, coded_option}
use base.Stored.{Gv, gnil, gnum, gcons}
use Rattle.tilt_base.specs.Expression.{coded_expression}
use Rattle.tilt_base.specs.contracts.reducer.Reducer as reducer
use Rattle.tilt_base.specs.contracts.span.Span as span
use Rattle.tilt_base.specs.declared.span.Span.{Span}
use Rattle.tilt_syntax.specs.declared.every.Every.{Every}
use Rattle.tilt_syntax.specs.Tree.{Atom, Num, Truth, Read, Reduce, ExprTree, StatementTree, Input, Let, Emit}

-- the parts of an atom, as one tree of numbers
abbrev pub stored_atom : Atom → Gv
stored_atom (Num n) = gcons gnil (coded_ℤ.code n)
stored_atom (Truth b) = gcons (gnum 1) (coded_bool.code b)
stored_atom (Read name offset) = gcons (gcons gnil gnil) (gcons ((coded_list coded_ℕ).code name) (coded_ℤ.code offset))
stored_atom (Reduce r name from to) =
    gcons (gcons gnil (gnum 1)) (gcons (reducer.the_row.coded.code r) (gcons ((coded_list coded_ℕ).code name)
    (gcons (coded_ℤ.code from) (coded_ℤ.code to))))

pub stored_atom_inj : (x y : Atom) → stored_atom x ≡ stored_atom y → x ≡ y
stored_atom_inj (Num m) (Num n) p = let e = coded_ℤ.inj m n (cc p) in cc
stored_atom_inj (Truth b) (Truth c) p = let e = coded_bool.inj b c (cc p) in cc
stored_atom_inj (Read m d) (Read n e) p =
    let i = (coded_list coded_ℕ).inj m n (cc p) in
    let j = coded_ℤ.inj d e (cc p) in
    cc
stored_atom_inj (Reduce q m d e) (Reduce r n f g) p =
    let i = reducer.the_row.coded.inj q r (cc p) in
    let j = (coded_list coded_ℕ).inj m n (cc p) in
    let k = coded_ℤ.inj d f (cc p) in
    let l = coded_ℤ.inj e g (cc p) in
    cc
stored_atom_inj x y p = absurd (cc p)

abbrev pub coded_expr : Coded ExprTree
coded_expr = coded_expression (record { code = stored_atom; inj = stored_atom_inj })

abbrev pub coded_name : Coded (List ℕ)
coded_name = coded_list coded_ℕ

abbrev pub coded_span : Coded Span
coded_span = span.the_row.coded

abbrev pub coded_every : Coded Every
coded_every = code_by (ℤ × ℤ) (coded× coded_ℤ coded_ℤ) (λ e. (e.period, e.offset)) (λ p. record { period = p.0; offset = p.1 }) (λ _. refl)

abbrev pub stored_statement : StatementTree → Gv
stored_statement (Input name) = gcons gnil (coded_name.code name)
stored_statement (Let name e over every) =
    gcons (gnum 1) (gcons (coded_name.code name) (gcons (coded_expr.code e)
    (gcons ((coded_option coded_span).code over) ((coded_option coded_every).code every))))
stored_statement (Emit e over every) =
    gcons (gcons gnil gnil) (gcons (coded_expr.code e) (gcons (coded_span.code over) ((coded_option coded_every).code every)))

pub stored_statement_inj : (x y : StatementTree) → stored_statement x ≡ stored_statement y → x ≡ y
stored_statement_inj (Input m) (Input n) p = let e = coded_name.inj m n (cc p) in cc
stored_statement_inj (Let m d o e) (Let n f q g) p =
    let i = coded_name.inj m n (cc p) in
    let j = coded_expr.inj d f (cc p) in
    let k = (coded_option coded_span).inj o q (cc p) in
    let l = (coded_option coded_every).inj e g (cc p) in
    cc
stored_statement_inj (Emit d o e) (Emit f q g) p =
    let j = coded_expr.inj d f (cc p) in
    let k = coded_span.inj o q (cc p) in
    let l = (coded_option coded_every).inj e g (cc p) in
    cc
stored_statement_inj x y p = absurd (cc p)

-- trees of queries are distinguished part by part
abbrev pub coded_query : Coded (List StatementTree)
coded_query = coded_list (record { code = stored_statement; inj = stored_statement_inj })
