-- A statement has no fewer tokens than its printed ones.
use Rattle.std.proofs.Common.{◌≡◌, inl, inr, ℕ, zero, suc, ◌+◌, ◌≤◌, ℤ, pos, negsuc, neg_ℤ, true, false, List, [], ◌∷◌, ◌++◌, length, Option, Some, nat_lt, arith, refl, length-append}
use Rattle.std.proofs.lemmas.Bool.{cases_Bool}
use Rattle.std.proofs.lemmas.Bool.Decides.{nat_tests}
use Rattle.std.proofs.lemmas.Int.{ints}
use Rattle.tilt_lexer.specs.declared.key.Key.TheVariants as key
use Rattle.tilt_lexer.specs.declared.mark.Mark.TheVariants as mark
use Rattle.tilt_lexer.specs.declared.token.Tok.{Tok}
use Rattle.tilt_lexer.specs.declared.token.Tok.TheVariants.{Key as Reserved, Mark as Sign}
use Rattle.tilt_syntax.specs.Grammar.{Infix, infix_of, SpellsOffset, now, later, earlier, IsExpr, tighter, choice, between, negation, minus}
use Rattle.tilt_syntax.specs.Grammar.{number, true_word, false_word, name, reading, window, is_null, if_null, enclosed}
use Rattle.tilt_syntax.specs.Grammar.{IsBound, from_zero, below_zero, IsSpan, over}
use Rattle.tilt_syntax.specs.Grammar.{MayBeSpan, no_span, some_span, MayBeGrid, no_grid, on_multiples, with_offset, IsStatement, input, definition, emission}
use Rattle.tilt_syntax.specs.Printing.{level_of, level2}
use Rattle.tilt_syntax.specs.Query.{AreSound}
use Rattle.tilt_syntax.specs.Tree.{ExprTree, StatementTree}
use Rattle.tilt_base.specs.declared.span.Span.{Span}
use Rattle.tilt_syntax.specs.declared.every.Every.{Every}
use Rattle.tilt_syntax.proofs.Sounds.{sound_parts}
use Rattle.tilt_syntax.proofs.Written.{place_tokens, offset_tokens, reading_tokens, operands_tokens, expr_tokens, bound_tokens, span_tokens, domain_tokens, from_tokens, grid_tokens, statement_tokens}

-- parentheses are two tokens at most, and none if the place asks for no tighter level
place_most : (place level : ℕ) (ts : List Tok) → length (place_tokens place level ts) ≤ length ts + 2
place_most place level ts =
    elim (cases_Bool (nat_lt level place)) [
      | inl lower ↦ rw lower (omega (arith, length-append ts (Sign mark.CloseParen ∷ [])))
      | inr not_lower ↦ rw not_lower (omega arith)
    ]

place_least : (place level : ℕ) (ts : List Tok) → length ts ≤ length (place_tokens place level ts)
place_least place level ts =
    elim (cases_Bool (nat_lt level place)) [
      | inl lower ↦ rw lower (omega (arith, length-append ts (Sign mark.CloseParen ∷ [])))
      | inr not_lower ↦ rw not_lower (omega arith)
    ]

place_tight : (place level : ℕ) (ts : List Tok) → place ≤ level → place_tokens place level ts ≡ ts
place_tight place level ts le = let not_lower : nat_lt level place ≡ false = grind (arith, nat_tests) in rw not_lower refl

-- a place that asks for a tighter level takes no fewer tokens
place_tighter : (place level : ℕ) (ts : List Tok) → length (place_tokens place level ts) ≤ length (place_tokens (suc place) level ts)
place_tighter place level ts =
    elim (cases_Bool (nat_lt level place)) [
      | inl lower ↦ let lower_too : nat_lt level (suc place) ≡ true = grind (arith, nat_tests) in rw (lower, lower_too) (omega arith)
      | inr not_lower ↦ rw not_lower (place_least (suc place) level ts)
    ]

-- what is written anywhere without parentheses
bare : (place level n : ℕ) (ts : List Tok) → place ≤ level → length ts ≤ n → length (place_tokens place level ts) ≤ n
bare place level n ts le h = rw (place_tight place level ts le) h

-- and what is written when no level is asked for
whole : (level n : ℕ) (ts : List Tok) → length (place_tokens 0 level ts) ≤ n → length ts ≤ n
whole level n ts h = omega (arith, h, place_least 0 level ts)

-- what is no longer part by part is no longer
joined : (vs ws ts us : List Tok) → length vs ≤ length ts → length ws ≤ length us → length (vs ++ ws) ≤ length (ts ++ us)
joined vs ws ts us h g = omega (arith, h, g, length-append vs ws, length-append ts us)

around : (t : Tok) (vs ws ts us : List Tok) → length vs ≤ length ts → length ws ≤ length us
    → length (vs ++ (t ∷ ws)) ≤ length (ts ++ (t ∷ us))
around t vs ws ts us h g = joined vs (t ∷ ws) ts (t ∷ us) h (omega (arith, g))

offset_most : (d : ℤ) → length (offset_tokens d) ≤ 3
offset_most (pos zero) = omega arith
offset_most (pos (suc n)) = omega arith
offset_most (negsuc n) = omega arith

offset_shortest : {ts : List Tok} {d : ℤ} → SpellsOffset ts d → length (offset_tokens d) ≤ length ts
offset_shortest now = omega arith
offset_shortest (later {n = n}) = offset_most n
offset_shortest (earlier {n = n}) = offset_most (neg_ℤ n)

reading_most : (x : List ℕ) (d : ℤ) → length (reading_tokens x d) ≤ 3 + length (offset_tokens d)
reading_most x (pos zero) = omega arith
reading_most x (pos (suc n)) = omega arith
reading_most x (negsuc n) = omega arith

operands_shortest : (o : Option Infix) (i : Infix) (l m : ℕ) (vs ws ts us : List Tok) → o ≡ Some i
    → length (place_tokens i.left l vs) ≤ length ts → length (place_tokens i.right m ws) ≤ length us
    → length (place_tokens i.level (level2 o) (operands_tokens o l vs m ws)) ≤ length (ts ++ (i.sign ∷ us))
operands_shortest o i l m vs ws ts us e h g =
    let left = place_tokens i.left l vs in
    let right = place_tokens i.right m ws in
    let sum = around i.sign left right ts us h g in
    rw e (bare i.level i.level (length (ts ++ (i.sign ∷ us))) (left ++ (i.sign ∷ right)) (omega arith) sum)

pub expr_shortest : {place : ℕ} {us : List Tok} {e : ExprTree} → IsExpr place us e
    → length (place_tokens place (level_of e) (expr_tokens e)) ≤ length us
expr_shortest (tighter {level = place} {ts = us} {e = e} h) = omega (arith, place_tighter place (level_of e) (expr_tokens e), expr_shortest h)
expr_shortest (choice {ts = ts} {us = us} {vs = vs} {c = c} {a = a} {b = b} hc ha hb) =
    let first = whole (level_of c) (length ts) (expr_tokens c) (expr_shortest hc) in
    let second = whole (level_of a) (length us) (expr_tokens a) (expr_shortest ha) in
    let third = whole (level_of b) (length vs) (expr_tokens b) (expr_shortest hb) in
    let behind = around (Reserved key.Else) (expr_tokens a) (expr_tokens b) us vs second third in
    let all = around (Reserved key.Then) (expr_tokens c) (expr_tokens a ++ (Reserved key.Else ∷ expr_tokens b)) ts
    (us ++ (Reserved key.Else ∷ vs)) first behind in
    omega (arith, all)
expr_shortest (between {op = op} {i = i} {ts = ts} {us = us} {a = a} {b = b} e ha hb) =
    operands_shortest (infix_of op) i (level_of a) (level_of b) (expr_tokens a) (expr_tokens b) ts us e (expr_shortest ha) (expr_shortest hb)
expr_shortest (negation {ts = ts} {a = a} h) = let less = expr_shortest h in omega (arith, less)
expr_shortest (minus {ts = ts} {a = a} h) = let less = expr_shortest h in omega (arith, less)
expr_shortest number = omega arith
expr_shortest true_word = omega arith
expr_shortest false_word = omega arith
expr_shortest name = omega arith
expr_shortest (reading {x = x} {ts = ts} {d = d} h) =
    let less = offset_shortest h in
    omega (arith, less, reading_most x d, length-append ts (Sign mark.CloseBracket ∷ []))
expr_shortest (window {r = r} {x = x} {ts = ts} {us = us} {l = l} {h = h} from to) =
    let end = Sign mark.CloseBracket ∷ Sign mark.CloseParen ∷ [] in
    let behind = joined (offset_tokens h) end us end (offset_shortest to) (omega arith) in
    let all = around (Sign mark.Colon) (offset_tokens l) (offset_tokens h ++ end) ts (us ++ end) (offset_shortest from) behind in
    omega (arith, all)
expr_shortest (is_null {ts = ts} {a = a} h) =
    let end = Sign mark.CloseParen ∷ [] in
    let less = whole (level_of a) (length ts) (expr_tokens a) (expr_shortest h) in
    let all = joined (expr_tokens a) end ts end less (omega arith) in
    omega (arith, all)
expr_shortest (if_null {ts = ts} {us = us} {a = a} {b = b} ha hb) =
    let end = Sign mark.CloseParen ∷ [] in
    let first = whole (level_of a) (length ts) (expr_tokens a) (expr_shortest ha) in
    let second = whole (level_of b) (length us) (expr_tokens b) (expr_shortest hb) in
    let behind = joined (expr_tokens b) end us end second (omega arith) in
    let all = around (Sign mark.Comma) (expr_tokens a) (expr_tokens b ++ end) ts (us ++ end) first behind in
    omega (arith, all)
expr_shortest (enclosed {ts = ts} {e = e} h) =
    let less = whole (level_of e) (length ts) (expr_tokens e) (expr_shortest h) in
    omega (arith, less, place_most 9 (level_of e) (expr_tokens e), length-append ts (Sign mark.CloseParen ∷ []))

-- the same of a whole expression
whole_shortest : {ts : List Tok} {e : ExprTree} → IsExpr 0 ts e → length (expr_tokens e) ≤ length ts
whole_shortest {ts = ts} {e = e} h = whole (level_of e) (length ts) (expr_tokens e) (expr_shortest h)

bound_most : (n : ℤ) → length (bound_tokens n) ≤ 2
bound_most (pos n) = omega arith
bound_most (negsuc n) = omega arith

bound_shortest : {ts : List Tok} {n : ℤ} → IsBound ts n → AreSound ts → length (bound_tokens n) ≤ length ts
bound_shortest (from_zero {n = pos n}) s = omega arith
bound_shortest (from_zero {n = negsuc n}) s = absurd (omega (arith, ints, s.0.0))
bound_shortest (below_zero {n = n}) s = bound_most (neg_ℤ n)

span_shortest : {ts : List Tok} {span : Span} → IsSpan ts span → AreSound ts → length (span_tokens span) ≤ length ts
span_shortest (over {ts = ts} {us = us} {s = start} {e = end} hs he) s =
    let last = Sign mark.CloseBracket ∷ [] in
    let first = sound_parts ts (Sign mark.Comma ∷ (us ++ last)) s.1.1 in
    let second = sound_parts us last first.1.1 in
    let behind = joined (bound_tokens end) last us last (bound_shortest he second.0) (omega arith) in
    let all = around (Sign mark.Comma) (bound_tokens start) (bound_tokens end ++ last) ts (us ++ last) (bound_shortest hs first.0) behind in
    omega (arith, all)

domain_shortest : {ts : List Tok} {domain : Option Span} → MayBeSpan ts domain → AreSound ts → length (domain_tokens domain) ≤ length ts
domain_shortest no_span s = omega arith
domain_shortest (some_span h) s = span_shortest h s

from_most : (o : ℤ) → length (from_tokens o) ≤ 2
from_most (pos zero) = omega arith
from_most (pos (suc n)) = omega arith
from_most (negsuc n) = omega arith

grid_shortest : {ts : List Tok} {grid : Option Every} → MayBeGrid ts grid → length (grid_tokens grid) ≤ length ts
grid_shortest no_grid = omega arith
grid_shortest on_multiples = omega arith
grid_shortest (with_offset {p = p} {o = o}) = omega (arith, from_most o)

-- an expression, and what follows it in a statement
parts_shortest : (es ds ps ts us vs : List Tok) → length es ≤ length ts → length ds ≤ length us → length ps ≤ length vs
    → length (es ++ (ds ++ (ps ++ (Sign mark.Semicolon ∷ [])))) ≤ length (ts ++ (us ++ (vs ++ (Sign mark.Semicolon ∷ []))))
parts_shortest es ds ps ts us vs he hd hp =
    let end = Sign mark.Semicolon ∷ [] in
    joined es (ds ++ (ps ++ end)) ts (us ++ (vs ++ end)) he (joined ds (ps ++ end) us (vs ++ end) hd (joined ps end vs end hp (omega arith)))

pub statement_shortest : {us : List Tok} {s : StatementTree} → IsStatement us s → AreSound us → length (statement_tokens s) ≤ length us
statement_shortest input s = omega arith
statement_shortest (definition {ts = ts} {us = us} {vs = vs} {e = e} {over = domain} {every = grid} he hd hp) s =
    let first = sound_parts ts (us ++ (vs ++ (Sign mark.Semicolon ∷ []))) s.1.1.1 in
    let second = sound_parts us (vs ++ (Sign mark.Semicolon ∷ [])) first.1 in
    let all = parts_shortest (expr_tokens e) (domain_tokens domain) (grid_tokens grid) ts us vs
    (whole_shortest he) (domain_shortest hd second.0) (grid_shortest hp) in
    omega (arith, all)
statement_shortest (emission {ts = ts} {us = us} {vs = vs} {e = e} {over = span} {every = grid} he hs hp) s =
    let first = sound_parts ts (us ++ (vs ++ (Sign mark.Semicolon ∷ []))) s.1 in
    let second = sound_parts us (vs ++ (Sign mark.Semicolon ∷ [])) first.1 in
    let all = parts_shortest (expr_tokens e) (span_tokens span) (grid_tokens grid) ts us vs
    (whole_shortest he) (span_shortest hs second.0) (grid_shortest hp) in
    omega (arith, all)
