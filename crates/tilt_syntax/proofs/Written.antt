-- The tokens of a query's text, and that they are the query.
use Rattle.std.proofs.Common.{◌≡◌, inl, inr, ℕ, zero, suc, ◌+◌, ◌-◌, ◌≤◌, ℤ, pos, negsuc, true, false, List, [], ◌∷◌, ◌++◌, Option, Some, None, nat_lt, if◌then◌else◌, refl, sym, subst, arith}
use Rattle.std.proofs.lemmas.Bool.{cases_Bool}
use Rattle.std.proofs.lemmas.Bool.Decides.{nat_tests}
use Rattle.tilt_base.specs.Expression.{Leaf, One, Two, If}
use Rattle.tilt_base.specs.declared.operator.Op1.TheVariants as op1
use Rattle.tilt_base.specs.declared.operator.Op2.{Op2}
use Rattle.tilt_base.specs.declared.operator.Op2.TheVariants as op2
use Rattle.tilt_lexer.specs.declared.key.Key.TheVariants as key
use Rattle.tilt_lexer.specs.declared.mark.Mark.TheVariants as mark
use Rattle.tilt_lexer.specs.declared.token.Tok.{Tok}
use Rattle.tilt_lexer.specs.declared.token.Tok.TheVariants.{Word, Number, Key as Reserved, Mark as Sign}
use Rattle.tilt_syntax.specs.Grammar.{Infix, infix_of, SpellsOffset, now, later, earlier, IsExpr, tighter, choice, between, negation, minus}
use Rattle.tilt_syntax.specs.Grammar.{number, true_word, false_word, name, reading, window, is_null, if_null, enclosed}
use Rattle.tilt_syntax.specs.Grammar.{IsBound, from_zero, below_zero, IsSpan, over}
use Rattle.tilt_syntax.specs.Grammar.{MayBeSpan, no_span, some_span, MayBeGrid, no_grid, on_multiples, with_offset, IsStatement, input, definition, emission}
use Rattle.tilt_syntax.specs.Printing.{level_of, level2}
use Rattle.tilt_syntax.specs.Tree.{Atom, Num, Truth, Read, Reduce, ExprTree, StatementTree, Input, Let, Emit}
use Rattle.tilt_base.specs.declared.span.Span.{Span}
use Rattle.tilt_syntax.specs.declared.every.Every.{Every}

-- tokens in parentheses if their level is lower than the one that their place asks for
abbrev pub place_tokens : ℕ → ℕ → List Tok → List Tok
place_tokens place level ts = if nat_lt level place then Sign mark.OpenParen ∷ (ts ++ (Sign mark.CloseParen ∷ [])) else ts

abbrev pub offset_tokens : ℤ → List Tok
offset_tokens (pos zero) = Reserved key.Time ∷ []
offset_tokens (pos (suc n)) = Reserved key.Time ∷ Sign mark.Plus ∷ Number (pos (suc n)) ∷ []
offset_tokens (negsuc n) = Reserved key.Time ∷ Sign mark.Minus ∷ Number (pos (suc n)) ∷ []

abbrev pub reading_tokens : List ℕ → ℤ → List Tok
reading_tokens x (pos zero) = Word x ∷ []
reading_tokens x offset = Word x ∷ Sign mark.OpenBracket ∷ (offset_tokens offset ++ (Sign mark.CloseBracket ∷ []))

abbrev pub atom_tokens : Atom → List Tok
atom_tokens (Num n) = Number n ∷ []
atom_tokens (Truth true) = Reserved key.TrueWord ∷ []
atom_tokens (Truth false) = Reserved key.FalseWord ∷ []
atom_tokens (Read x offset) = reading_tokens x offset
atom_tokens (Reduce r x from to) =
    Reserved (key.Reducer r) ∷ Sign mark.OpenParen ∷ Word x ∷ Sign mark.OpenBracket
    ∷ (offset_tokens from ++ (Sign mark.Colon ∷ (offset_tokens to ++ (Sign mark.CloseBracket ∷ Sign mark.CloseParen ∷ []))))

abbrev pub operands_tokens : Option Infix → ℕ → List Tok → ℕ → List Tok → List Tok
operands_tokens None l a m b = Reserved key.IfNull ∷ Sign mark.OpenParen ∷ (a ++ (Sign mark.Comma ∷ (b ++ (Sign mark.CloseParen ∷ []))))
operands_tokens (Some i) l a m b = place_tokens i.left l a ++ (i.sign ∷ place_tokens i.right m b)

abbrev pub expr_tokens : ExprTree → List Tok
expr_tokens (Leaf atom) = atom_tokens atom
expr_tokens (One op1.Neg a) = Sign mark.Minus ∷ place_tokens 8 (level_of a) (expr_tokens a)
expr_tokens (One op1.Not a) = Reserved key.Not ∷ place_tokens 4 (level_of a) (expr_tokens a)
expr_tokens (One op1.IsNull a) = Reserved key.IsNull ∷ Sign mark.OpenParen ∷ (expr_tokens a ++ (Sign mark.CloseParen ∷ []))
expr_tokens (Two op a b) = operands_tokens (infix_of op) (level_of a) (expr_tokens a) (level_of b) (expr_tokens b)
expr_tokens (If c a b) = Reserved key.If ∷ (expr_tokens c ++ (Reserved key.Then ∷ (expr_tokens a ++ (Reserved key.Else ∷ expr_tokens b))))

abbrev pub bound_tokens : ℤ → List Tok
bound_tokens (pos n) = Number (pos n) ∷ []
bound_tokens (negsuc n) = Sign mark.Minus ∷ Number (pos (suc n)) ∷ []

abbrev pub span_tokens : Span → List Tok
span_tokens span =
    Reserved key.Over ∷ Sign mark.OpenParen
    ∷ (bound_tokens span.start ++ (Sign mark.Comma ∷ (bound_tokens span.end ++ (Sign mark.CloseBracket ∷ []))))

abbrev pub domain_tokens : Option Span → List Tok
domain_tokens None = []
domain_tokens (Some span) = span_tokens span

abbrev pub from_tokens : ℤ → List Tok
from_tokens (pos zero) = []
from_tokens offset = Reserved key.From ∷ Number offset ∷ []

abbrev pub grid_tokens : Option Every → List Tok
grid_tokens None = []
grid_tokens (Some every) = Reserved key.Every ∷ Number every.period ∷ from_tokens every.offset

-- the tokens of a statement before its `;`
abbrev pub body_tokens : StatementTree → List Tok
body_tokens (Input x) = Reserved key.Input ∷ Word x ∷ []
body_tokens (Let x e domain grid) =
    Reserved key.Let ∷ Word x ∷ Sign mark.Assign ∷ (expr_tokens e ++ (domain_tokens domain ++ grid_tokens grid))
body_tokens (Emit e span grid) = Reserved key.Emit ∷ (expr_tokens e ++ (span_tokens span ++ grid_tokens grid))

abbrev pub statement_tokens : StatementTree → List Tok
statement_tokens (Input x) = Reserved key.Input ∷ Word x ∷ Sign mark.Semicolon ∷ []
statement_tokens (Let x e domain grid) =
    Reserved key.Let ∷ Word x ∷ Sign mark.Assign
    ∷ (expr_tokens e ++ (domain_tokens domain ++ (grid_tokens grid ++ (Sign mark.Semicolon ∷ []))))
statement_tokens (Emit e span grid) =
    Reserved key.Emit ∷ (expr_tokens e ++ (span_tokens span ++ (grid_tokens grid ++ (Sign mark.Semicolon ∷ []))))

loosen : {ts : List Tok} {e : ExprTree} (gap level : ℕ) → IsExpr (level + gap) ts e → IsExpr level ts e
loosen {ts = ts} {e = e} zero level h = let same : level + 0 ≡ level = omega arith in subst (λ n. IsExpr n ts e) same h
loosen {ts = ts} {e = e} (suc gap) level h =
    let same : level + suc gap ≡ suc (level + gap) = omega arith in
    loosen gap level (tighter (subst (λ n. IsExpr n ts e) same h))

-- an expression may be in any place that allows a looser one
looser : {ts : List Tok} {e : ExprTree} (tight loose : ℕ) → loose ≤ tight → IsExpr tight ts e → IsExpr loose ts e
looser {ts = ts} {e = e} tight loose le h =
    let same : tight ≡ loose + (tight - loose) = omega arith in
    loosen (tight - loose) loose (subst (λ n. IsExpr n ts e) same h)

-- and in parentheses in any place
in_place_is : {ts : List Tok} {e : ExprTree} (place level : ℕ) → place ≤ 9 → IsExpr level ts e
    → IsExpr place (place_tokens place level ts) e
in_place_is place level fits h =
    elim (cases_Bool (nat_lt level place)) [
      | inl lower ↦ rw lower (looser 9 place fits (enclosed (looser level 0 (omega arith) h)))
      | inr not_lower ↦ let le : place ≤ level = grind (arith, nat_tests) in rw not_lower (looser level place le h)
    ]

-- the levels that the places of operands ask for
abbrev PlacesFit : Op2 → Option Infix → Type 0
PlacesFit op None = op ≡ op2.IfNull
PlacesFit op (Some i) = (i.left ≤ 9) × (i.right ≤ 9)

places_fit : (op : Op2) → PlacesFit op (infix_of op)
places_fit op2.IfNull = refl
places_fit op = (omega arith, omega arith)

two_is : {ts us : List Tok} {a b : ExprTree} (op : Op2) (i : Option Infix) (l m : ℕ) → infix_of op ≡ i → IsExpr l ts a → IsExpr m us b
    → IsExpr (level2 i) (operands_tokens i l ts m us) (Two op a b)
two_is {ts = ts} {us = us} {a = a} {b = b} op None l m e ha hb =
    let call : op ≡ op2.IfNull = subst (PlacesFit op) e (places_fit op) in
    subst (λ o. IsExpr 9 (operands_tokens None l ts m us) (Two o a b)) (sym call)
    (if_null (looser l 0 (omega arith) ha) (looser m 0 (omega arith) hb))
two_is op (Some i) l m e ha hb =
    let fit = subst (PlacesFit op) e (places_fit op) in
    between e (in_place_is i.left l fit.0 ha) (in_place_is i.right m fit.1 hb)

offset_is : (d : ℤ) → SpellsOffset (offset_tokens d) d
offset_is (pos zero) = now
offset_is (pos (suc n)) = later
offset_is (negsuc n) = earlier

reading_is : (x : List ℕ) (d : ℤ) → IsExpr 9 (reading_tokens x d) (Leaf (Read x d))
reading_is x (pos zero) = name
reading_is x (pos (suc n)) = reading (offset_is (pos (suc n)))
reading_is x (negsuc n) = reading (offset_is (negsuc n))

atom_is : (atom : Atom) → IsExpr 9 (atom_tokens atom) (Leaf atom)
atom_is (Num n) = number
atom_is (Truth true) = true_word
atom_is (Truth false) = false_word
atom_is (Read x d) = reading_is x d
atom_is (Reduce r x from to) = window (offset_is from) (offset_is to)

-- the tokens of an expression are the expression
expr_is : (e : ExprTree) → IsExpr (level_of e) (expr_tokens e) e
expr_is (Leaf atom) = atom_is atom
expr_is (One op1.Neg a) = minus (in_place_is 8 (level_of a) (omega arith) (expr_is a))
expr_is (One op1.Not a) = negation (in_place_is 4 (level_of a) (omega arith) (expr_is a))
expr_is (One op1.IsNull a) = is_null (looser (level_of a) 0 (omega arith) (expr_is a))
expr_is (Two op a b) = two_is op (infix_of op) (level_of a) (level_of b) refl (expr_is a) (expr_is b)
expr_is (If c a b) =
    let whole : (d : ExprTree) → IsExpr (level_of d) (expr_tokens d) d → IsExpr 0 (expr_tokens d) d = λ d h. looser (level_of d) 0 (omega arith) h in
    choice (whole c (expr_is c)) (whole a (expr_is a)) (whole b (expr_is b))

whole_is : (e : ExprTree) → IsExpr 0 (expr_tokens e) e
whole_is e = looser (level_of e) 0 (omega arith) (expr_is e)

bound_is : (n : ℤ) → IsBound (bound_tokens n) n
bound_is (pos n) = from_zero
bound_is (negsuc n) = below_zero

span_is : (span : Span) → IsSpan (span_tokens span) span
span_is span = over (bound_is span.start) (bound_is span.end)

domain_is : (domain : Option Span) → MayBeSpan (domain_tokens domain) domain
domain_is None = no_span
domain_is (Some span) = some_span (span_is span)

every_is : (p o : ℤ) → MayBeGrid (Reserved key.Every ∷ Number p ∷ from_tokens o) (Some (record { period = p; offset = o }))
every_is p (pos zero) = on_multiples
every_is p (pos (suc n)) = with_offset
every_is p (negsuc n) = with_offset

grid_is : (grid : Option Every) → MayBeGrid (grid_tokens grid) grid
grid_is None = no_grid
grid_is (Some every) = every_is every.period every.offset

-- the tokens of a statement are the statement
pub statement_is : (s : StatementTree) → IsStatement (statement_tokens s) s
statement_is (Input x) = input
statement_is (Let x e domain grid) = definition (whole_is e) (domain_is domain) (grid_is grid)
statement_is (Emit e span grid) = emission (whole_is e) (span_is span) (grid_is grid)
