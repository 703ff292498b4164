-- The tokens of a query are cut into those of its statements: only the last token of a statement is a `;`.
use Rattle.std.proofs.Common.{◌≡◌, inl, inr, ℕ, zero, suc, ℤ, pos, negsuc, Bool, true, false, List, [], ◌∷◌, ◌++◌, map, Option, Some, None, nat_lt, refl, sym, ap, ◌∙◌, append_assoc, IsTrue}
use Rattle.std.specs.List.{flat_map, list_all}
use Rattle.std.specs.Prelude.{⊤}
use Rattle.std.proofs.lemmas.Bool.{and_parts, false≢true, cases_Bool}
use Rattle.std.proofs.lemmas.List.Folds.{list_all-append}
use Rattle.tilt_base.specs.Expression.{Leaf, One, Two, If}
use Rattle.tilt_base.specs.declared.operator.Op1.TheVariants as op1
use Rattle.tilt_base.specs.declared.operator.Op2.{Op2}
use Rattle.tilt_base.specs.declared.operator.Op2.TheVariants as op2
use Rattle.tilt_lexer.specs.declared.mark.Mark.TheVariants as mark
use Rattle.tilt_lexer.specs.declared.token.Tok.{Tok}
use Rattle.tilt_lexer.specs.declared.token.Tok.TheVariants as tok
use Rattle.tilt_syntax.specs.Grammar.{Infix, infix_of}
use Rattle.tilt_syntax.specs.Printing.{level_of}
use Rattle.tilt_syntax.specs.Query.{with_first, statements}
use Rattle.tilt_syntax.specs.Tree.{Atom, Num, Truth, Read, Reduce, ExprTree, StatementTree, Input, Let, Emit}
use Rattle.tilt_base.specs.declared.span.Span.{Span}
use Rattle.tilt_syntax.specs.declared.every.Every.{Every}
use Rattle.tilt_syntax.proofs.Written.{place_tokens, offset_tokens, reading_tokens, atom_tokens, operands_tokens, expr_tokens}
use Rattle.tilt_syntax.proofs.Written.{bound_tokens, span_tokens, domain_tokens, from_tokens, grid_tokens, body_tokens, statement_tokens}

-- whether a token is no `;`
abbrev goes_on : Tok → Bool
goes_on (tok.Mark mark.Semicolon) = false
goes_on t = true

-- no `;` is among the tokens
abbrev NoneEnds : List Tok → Type 0
NoneEnds ts = IsTrue (list_all goes_on ts)

cut_first : (t : Tok) (ts : List Tok) → goes_on t ≡ true → statements (t ∷ ts) ≡ with_first t (statements ts)
cut_first (tok.Mark mark.Semicolon) ts h = absurd (false≢true h)
cut_first t ts h = refl

-- tokens are cut after their first `;`
cut : (ts rest : List Tok) → NoneEnds ts
    → statements (ts ++ (tok.Mark mark.Semicolon ∷ rest)) ≡ (ts ++ (tok.Mark mark.Semicolon ∷ [])) ∷ statements rest
cut [] rest h = refl
cut (t ∷ ts) rest h =
    let parts = and_parts (goes_on t) (list_all goes_on ts) h in
    cut_first t (ts ++ (tok.Mark mark.Semicolon ∷ rest)) parts.0 ∙ ap (with_first t) (cut ts rest parts.1)

joined : (ts us : List Tok) → NoneEnds ts → NoneEnds us → NoneEnds (ts ++ us)
joined ts us h g = rw (list_all-append goes_on ts us, h, g) refl

place_goes_on : (place level : ℕ) (ts : List Tok) → NoneEnds ts → NoneEnds (place_tokens place level ts)
place_goes_on place level ts h =
    elim (cases_Bool (nat_lt level place)) [
      | inl lower ↦ rw lower (joined ts (tok.Mark mark.CloseParen ∷ []) h refl)
      | inr not_lower ↦ rw not_lower h
    ]

offset_goes_on : (d : ℤ) → NoneEnds (offset_tokens d)
offset_goes_on (pos zero) = refl
offset_goes_on (pos (suc n)) = refl
offset_goes_on (negsuc n) = refl

reading_goes_on : (x : List ℕ) (d : ℤ) → NoneEnds (reading_tokens x d)
reading_goes_on x (pos zero) = refl
reading_goes_on x (pos (suc n)) = refl
reading_goes_on x (negsuc n) = refl

atom_goes_on : (atom : Atom) → NoneEnds (atom_tokens atom)
atom_goes_on (Num n) = refl
atom_goes_on (Truth true) = refl
atom_goes_on (Truth false) = refl
atom_goes_on (Read x d) = reading_goes_on x d
atom_goes_on (Reduce r x from to) =
    let end = tok.Mark mark.CloseBracket ∷ tok.Mark mark.CloseParen ∷ [] in
    joined (offset_tokens from) (tok.Mark mark.Colon ∷ (offset_tokens to ++ end)) (offset_goes_on from)
    (joined (offset_tokens to) end (offset_goes_on to) refl)

-- no operator is a `;`
abbrev SignGoesOn : Option Infix → Type 0
SignGoesOn None = ⊤
SignGoesOn (Some i) = IsTrue (goes_on i.sign)

sign_goes_on : (op : Op2) → SignGoesOn (infix_of op)
sign_goes_on op2.IfNull = tt
sign_goes_on op = refl

operands_go_on : (i : Option Infix) (l m : ℕ) (ts us : List Tok) → SignGoesOn i → NoneEnds ts → NoneEnds us
    → NoneEnds (operands_tokens i l ts m us)
operands_go_on None l m ts us s h g =
    joined ts (tok.Mark mark.Comma ∷ (us ++ (tok.Mark mark.CloseParen ∷ []))) h (joined us (tok.Mark mark.CloseParen ∷ []) g refl)
operands_go_on (Some i) l m ts us s h g =
    joined (place_tokens i.left l ts) (i.sign ∷ place_tokens i.right m us) (place_goes_on i.left l ts h) (rw s (place_goes_on i.right m us g))

expr_goes_on : (e : ExprTree) → NoneEnds (expr_tokens e)
expr_goes_on (Leaf atom) = atom_goes_on atom
expr_goes_on (One op1.Neg a) = place_goes_on 8 (level_of a) (expr_tokens a) (expr_goes_on a)
expr_goes_on (One op1.Not a) = place_goes_on 4 (level_of a) (expr_tokens a) (expr_goes_on a)
expr_goes_on (One op1.IsNull a) = joined (expr_tokens a) (tok.Mark mark.CloseParen ∷ []) (expr_goes_on a) refl
expr_goes_on (Two op a b) =
    operands_go_on (infix_of op) (level_of a) (level_of b) (expr_tokens a) (expr_tokens b) (sign_goes_on op) (expr_goes_on a) (expr_goes_on b)
expr_goes_on (If c a b) =
    joined (expr_tokens c) _ (expr_goes_on c) (joined (expr_tokens a) _ (expr_goes_on a) (expr_goes_on b))

bound_goes_on : (n : ℤ) → NoneEnds (bound_tokens n)
bound_goes_on (pos n) = refl
bound_goes_on (negsuc n) = refl

span_goes_on : (span : Span) → NoneEnds (span_tokens span)
span_goes_on span =
    let last = tok.Mark mark.CloseBracket ∷ [] in
    joined (bound_tokens span.start) (tok.Mark mark.Comma ∷ (bound_tokens span.end ++ last)) (bound_goes_on span.start)
    (joined (bound_tokens span.end) last (bound_goes_on span.end) refl)

domain_goes_on : (domain : Option Span) → NoneEnds (domain_tokens domain)
domain_goes_on None = refl
domain_goes_on (Some span) = span_goes_on span

from_goes_on : (o : ℤ) → NoneEnds (from_tokens o)
from_goes_on (pos zero) = refl
from_goes_on (pos (suc n)) = refl
from_goes_on (negsuc n) = refl

grid_goes_on : (grid : Option Every) → NoneEnds (grid_tokens grid)
grid_goes_on None = refl
grid_goes_on (Some every) = from_goes_on every.offset

body_goes_on : (s : StatementTree) → NoneEnds (body_tokens s)
body_goes_on (Input x) = refl
body_goes_on (Let x e domain grid) =
    joined (expr_tokens e) (domain_tokens domain ++ grid_tokens grid) (expr_goes_on e)
    (joined (domain_tokens domain) (grid_tokens grid) (domain_goes_on domain) (grid_goes_on grid))
body_goes_on (Emit e span grid) =
    joined (expr_tokens e) (span_tokens span ++ grid_tokens grid) (expr_goes_on e)
    (joined (span_tokens span) (grid_tokens grid) (span_goes_on span) (grid_goes_on grid))

body_and_end : (s : StatementTree) → statement_tokens s ≡ body_tokens s ++ (tok.Mark mark.Semicolon ∷ [])
body_and_end (Input x) = refl
body_and_end (Let x e domain grid) = simp append_assoc
body_and_end (Emit e span grid) = simp append_assoc

-- the tokens of a query are cut into those of its statements
pub query_cut : (query : List StatementTree) → statements (flat_map statement_tokens query) ≡ map statement_tokens query
query_cut [] = refl
query_cut (s ∷ query) =
    let rest = flat_map statement_tokens query in
    let body = body_tokens s in
    let end = tok.Mark mark.Semicolon ∷ [] in
    let front : statement_tokens s ++ rest ≡ body ++ (tok.Mark mark.Semicolon ∷ rest) =
    ap (λ l. l ++ rest) (body_and_end s) ∙ append_assoc body end rest in
    let first : statements (body ++ (tok.Mark mark.Semicolon ∷ rest)) ≡ (body ++ end) ∷ statements rest = cut body rest (body_goes_on s) in
    ap statements front ∙ first ∙ ap (λ l. l ∷ statements rest) (sym (body_and_end s)) ∙ ap (λ l. statement_tokens s ∷ l) (query_cut query)
