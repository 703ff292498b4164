-- Reading finds the statement that the tokens are, and only it.
use Rattle.std.proofs.Common.{◌≡◌, ◌≢◌, ℤ, pos, neg_ℤ, true, List, [], ◌∷◌, ◌++◌, Option, Some, None, refl, ap, ◌∙◌, append_assoc}
use base.Stored.{Gv, gnil, gnum, gcons}
use Rattle.tilt_base.specs.Expression.{Leaf, Two}
use Rattle.tilt_base.specs.declared.operator.Op2.TheVariants as op2
use Rattle.tilt_lexer.specs.declared.key.Key.TheVariants as key
use Rattle.tilt_lexer.specs.declared.mark.Mark.TheVariants as mark
use Rattle.tilt_lexer.specs.declared.token.Tok.{Tok}
use Rattle.tilt_lexer.specs.declared.token.Tok.TheVariants.{Key as Reserved, Mark as Sign}
use Rattle.tilt_syntax.specs.Descent.{Plan, Done, Test, Found, Comes, done, met, missed, found}
use Rattle.tilt_syntax.specs.Grammar.{IsBound, from_zero, below_zero, IsSpan, over}
use Rattle.tilt_syntax.specs.Grammar.{MayBeSpan, no_span, some_span, MayBeGrid, no_grid, on_multiples, with_offset, IsStatement, input, definition, emission}
use Rattle.tilt_syntax.specs.Statements.{bound_plan, span_plan, domain_plan, from_plan, grid_plan, empty_plan, end_plan, statement_plan}
use Rattle.tilt_syntax.specs.Stored.{stored_statement, stored_statement_inj}
use Rattle.tilt_syntax.specs.Tree.{Num, Truth, ExprTree, StatementTree, Input, Let, Emit}
use Rattle.tilt_syntax.specs.declared.level.Level.TheVariants.{Choice}
use Rattle.tilt_base.specs.declared.span.Span.{Span}
use Rattle.tilt_syntax.specs.declared.every.Every.{Every}
use Rattle.tilt_syntax.proofs.Complete.{complete, met-append, Stops, stops-at}
use Rattle.tilt_syntax.proofs.Descending.{end-comes}
use Rattle.tilt_syntax.proofs.Sound.{Keeps, kept, number-keeps, name-keeps}
use Rattle.tilt_syntax.proofs.Steady.{one_answer}
use Rattle.tilt_syntax.proofs.Whole.{same_tree}

-- what the grammar has is read

bound-comes : (ts : List Tok) (b : ℤ) → IsBound ts b → (rest : List Tok) (behind : ℤ → List Tok → Plan) (r : Option Found)
    → Comes (behind b rest) r
    → Comes (bound_plan (ts ++ rest) behind) r
unfolding bound_plan
bound-comes ts b from_zero rest behind r k = missed (λ us e. cc) k
bound-comes ts b below_zero rest behind r k = met refl k

span-comes : (ts : List Tok) (span : Span) → IsSpan ts span
    → (rest : List Tok) (behind : Span → List Tok → Plan) (other : Plan) (r : Option Found)
    → Comes (behind span rest) r → Comes (Test (Reserved key.Over) (ts ++ rest) (λ us. span_plan us behind) other) r
unfolding span_plan
span-comes ts span (over {ts = us} {us = vs} {s = s} {e = e} hs he) rest behind other r k =
    met refl (met-append _ us (Sign mark.Comma ∷ (vs ++ (Sign mark.CloseBracket ∷ []))) rest (
    bound-comes us s hs _ _ r (met-append _ vs (Sign mark.CloseBracket ∷ []) rest (
    bound-comes vs e he _ _ r (met refl k)))))

domain-comes : (ts : List Tok) (o : Option Span) → MayBeSpan ts o
    → (rest : List Tok) (behind : Option Span → List Tok → Plan) (r : Option Found)
    → ((us : List Tok) → rest ≢ Reserved key.Over ∷ us) → Comes (behind o rest) r → Comes (domain_plan (ts ++ rest) behind) r
unfolding domain_plan
domain-comes ts o no_span rest behind r fails k = missed fails k
domain-comes ts o (some_span {span = span} h) rest behind r fails k = span-comes ts span h rest (λ s. behind (Some s)) _ r k

grid-comes : (ts : List Tok) (p : Option Every) → MayBeGrid ts p
    → (rest : List Tok) (behind : Option Every → List Tok → Plan) (r : Option Found)
    → ((us : List Tok) → rest ≢ Reserved key.Every ∷ us) → ((us : List Tok) → rest ≢ Reserved key.From ∷ us)
    → Comes (behind p rest) r → Comes (grid_plan (ts ++ rest) behind) r
unfolding from_plan grid_plan
grid-comes ts p no_grid rest behind r no_every no_from k = missed no_every k
grid-comes ts p on_multiples rest behind r no_every no_from k = met refl (missed no_from k)
grid-comes ts p with_offset rest behind r no_every no_from k = met refl (met refl k)

-- an expression ends before what follows it in a statement

grid-stops : (ts : List Tok) (p : Option Every) → MayBeGrid ts p → Stops 1 (ts ++ (Sign mark.Semicolon ∷ []))
grid-stops ts p no_grid = stops-at 1 _ _ refl (λ e. cc)
grid-stops ts p on_multiples = stops-at 1 _ _ refl (λ e. cc)
grid-stops ts p with_offset = stops-at 1 _ _ refl (λ e. cc)

grid-begins : (ts : List Tok) (p : Option Every) → MayBeGrid ts p → (us : List Tok)
    → ts ++ (Sign mark.Semicolon ∷ []) ≢ Reserved key.Over ∷ us
grid-begins ts p no_grid us = λ e. cc
grid-begins ts p on_multiples us = λ e. cc
grid-begins ts p with_offset us = λ e. cc

span-stops : (ts : List Tok) (span : Span) → IsSpan ts span → (rest : List Tok) → Stops 1 (ts ++ rest)
span-stops ts span (over hs he) rest = stops-at 1 _ _ refl (λ e. cc)

domain-stops : (ts us : List Tok) (o : Option Span) (p : Option Every) → MayBeSpan ts o → MayBeGrid us p
    → Stops 1 (ts ++ (us ++ (Sign mark.Semicolon ∷ [])))
domain-stops ts us o p no_span h = grid-stops us p h
domain-stops ts us o p (some_span {span = span} k) h = span-stops ts span k _

pub statement-comes : (ts : List Tok) (s : StatementTree) → IsStatement ts s → (behind : StatementTree → Plan) (r : Option Found)
    → Comes (behind s) r
    → Comes (statement_plan ts behind) r
statement-comes ts s input behind r k = met refl (end-comes _ _ r refl k)
statement-comes ts s (definition {x = x} {ts = us} {us = vs} {vs = ws} {e = e} {over = o} {every = p} he ho hp) behind r k =
    missed (λ us e. cc) (met refl (met refl (
    found (complete Choice 0 us e he refl _ (Some (record { tree = e; rest = vs ++ (ws ++ (Sign mark.Semicolon ∷ [])) })) (
    domain-stops vs ws o p ho hp) done) (
    domain-comes vs o ho _ _ r (grid-begins ws p hp) (grid-comes ws p hp _ _ r (λ us e. cc) (λ us e. cc) (end-comes _ _ r refl k))))))
statement-comes ts s (emission {ts = us} {us = vs} {vs = ws} {e = e} {over = o} {every = p} he ho hp) behind r k =
    missed (λ us e. cc) (missed (λ us e. cc) (met refl (
    found (complete Choice 0 us e he refl _ (Some (record { tree = e; rest = vs ++ (ws ++ (Sign mark.Semicolon ∷ [])) })) (
    span-stops vs o ho _) done) (
    span-comes vs o ho _ _ _ r (grid-comes ws p hp _ _ r (λ us e. cc) (λ us e. cc) (end-comes _ _ r refl k))))))

-- what is read is in the grammar

bound-keeps : (P : Found → Type 0) (ts : List Tok) (behind : ℤ → List Tok → Plan)
    → ((b : ℤ) (front rest : List Tok) → ts ≡ front ++ rest → IsBound front b → Keeps (behind b rest) P) → Keeps (bound_plan ts behind) P
unfolding bound_plan
bound-keeps P ts behind h = (
  (λ us sign. number-keeps P us (λ n. behind (neg_ℤ n)) (λ n vs at. h (neg_ℤ n) _ vs (rw (sign, at) refl) below_zero)),
  number-keeps P ts behind (λ n us at. h n _ us (rw at refl) from_zero),
)

span-keeps : (P : Found → Type 0) (ts : List Tok) (behind : Span → List Tok → Plan)
    → ((span : Span) (front rest : List Tok) → Reserved key.Over ∷ ts ≡ front ++ rest → IsSpan front span → Keeps (behind span rest) P)
    → Keeps (span_plan ts behind) P
unfolding span_plan
span-keeps P ts behind h = (
  (λ us open_at. bound-keeps P us _ (λ s front vs s_at hs. (
    (λ ws comma_at. bound-keeps P ws _ (λ e back xs e_at he. (
      (λ ys close_at.
          h _ (Reserved key.Over ∷ Sign mark.OpenParen ∷ (front ++ (Sign mark.Comma ∷ (back ++ (Sign mark.CloseBracket ∷ []))))) ys
          (rw (open_at, s_at, comma_at, e_at, close_at) (simp append_assoc)) (over hs he)),
      tt,
    ))),
    tt,
  ))),
  tt,
)

domain-keeps : (P : Found → Type 0) (ts : List Tok) (behind : Option Span → List Tok → Plan)
    → ((o : Option Span) (front rest : List Tok) → ts ≡ front ++ rest → MayBeSpan front o → Keeps (behind o rest) P)
    → Keeps (domain_plan ts behind) P
unfolding domain_plan
domain-keeps P ts behind h = (
  (λ us at. span-keeps P us (λ s. behind (Some s)) (λ span front rest is hs. h (Some span) front rest (at ∙ is) (some_span hs))),
  h None [] ts refl no_span,
)

grid-keeps : (P : Found → Type 0) (ts : List Tok) (behind : Option Every → List Tok → Plan)
    → ((p : Option Every) (front rest : List Tok) → ts ≡ front ++ rest → MayBeGrid front p → Keeps (behind p rest) P)
    → Keeps (grid_plan ts behind) P
unfolding from_plan grid_plan
grid-keeps P ts behind h = (
  (λ us at. number-keeps P us _ (λ p vs is. (
    (λ ws from_at. number-keeps P ws _ (λ o xs o_is. h (Some (record { period = p; offset = o })) _ xs (rw (at, is, from_at, o_is) refl) with_offset)),
    h (Some (record { period = p; offset = pos 0 })) _ vs (rw (at, is) refl) on_multiples,
  ))),
  h None [] ts refl no_grid,
)

empty-keeps : (P : Found → Type 0) (ts : List Tok) (plan : Plan) → (ts ≡ Sign mark.Semicolon ∷ [] → Keeps plan P)
    → (us : List Tok) → ts ≡ Sign mark.Semicolon ∷ us → Keeps (empty_plan us plan) P
empty-keeps P ts plan h [] e = h e
empty-keeps P ts plan h (u ∷ us) e = tt

end-keeps : (P : Found → Type 0) (ts : List Tok) (plan : Plan) → (ts ≡ Sign mark.Semicolon ∷ [] → Keeps plan P)
    → Keeps (end_plan ts plan) P
unfolding end_plan
end-keeps P ts plan h = (empty-keeps P ts plan h, tt)

pub statement-keeps : (P : Found → Type 0) (ts : List Tok) (behind : StatementTree → Plan)
    → ((s : StatementTree) → IsStatement ts s → Keeps (behind s) P) → Keeps (statement_plan ts behind) P
statement-keeps P ts behind h = (
  (λ us input_at. name-keeps P us _ (λ x vs name_at. end-keeps P vs _ (λ end_at. h (Input x) (
      rw (input_at, name_at, end_at) input)))),
  (
    (λ us let_at. name-keeps P us _ (λ x vs name_at. (
      (λ ws assign_at e he. domain-keeps P e.rest _ (λ o front xs o_at ho.
          grid-keeps P xs _ (λ p back ys p_at hp. end-keeps P ys _ (λ end_at.
          h (Let x e.tree o p) (rw (let_at, name_at, assign_at, he.split, o_at, p_at, end_at) (definition he.is ho hp)))))),
      tt,
    ))),
    (
      (λ us emit_at e he. (
        (λ vs over_at. span-keeps P vs _ (λ o front xs o_at ho. grid-keeps P xs _ (
            λ p back ys p_at hp. end-keeps P ys _ (λ end_at.
            h (Emit e.tree o p) (rw (emit_at, he.split, over_at, o_at, p_at, end_at) (emission he.is ho hp)))))),
        tt,
      )),
      tt,
    ),
  ),
)

-- a statement, as something that a plan may result in: its stored form, written as an expression

abbrev pub stored_tree : Gv → ExprTree
stored_tree gnil = Leaf (Truth true)
stored_tree (gnum n) = Leaf (Num (pos n))
stored_tree (gcons a b) = Two op2.Add (stored_tree a) (stored_tree b)

stored_tree-inj : (a b : Gv) → stored_tree a ≡ stored_tree b → a ≡ b
stored_tree-inj gnil gnil e = refl
stored_tree-inj (gnum m) (gnum n) e = cc
stored_tree-inj (gcons a b) (gcons c d) e =
    let left = stored_tree-inj a c (cc) in
    let right = stored_tree-inj b d (cc) in
    cc
stored_tree-inj a b e = absurd (cc)

abbrev pub told : StatementTree → Found
told s = record { tree = stored_tree (stored_statement s); rest = [] }

pub told-inj : (a b : StatementTree) → (let x : Option Found = Some (told a) in x ≡ Some (told b)) → a ≡ b
told-inj a b e = stored_statement_inj a b (stored_tree-inj _ _ (same_tree _ _ [] [] e))

abbrev pub tells : StatementTree → Plan
tells s = Done (Some (told s))

-- if reading finds nothing, the tokens are no statement
pub no-statement : (ts : List Tok) → ((behind : StatementTree → Plan) → Comes (statement_plan ts behind) None) → (s : StatementTree)
    → IsStatement ts s → ⊥
no-statement ts h s is = let none = one_answer (h tells) (statement-comes ts s is tells (Some (told s)) done) in cc

-- if it finds one, they are it
pub is-statement : (ts : List Tok) (s : StatementTree)
    → ((behind : StatementTree → Plan) (r : Option Found) → Comes (behind s) r → Comes (statement_plan ts behind) r) → IsStatement ts s
is-statement ts s h =
    let P : Found → Type 0 = λ f. (s' : StatementTree) × (f ≡ told s') × IsStatement ts s' in
    let told_of = kept (h tells (Some (told s)) done) P (statement-keeps P ts tells (λ s' is. (s', refl, is))) in
    let same : s ≡ told_of.0 = told-inj s told_of.0 (ap (λ (f : Found). Some f) told_of.1) in
    rw same told_of.2
