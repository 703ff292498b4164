-- The printed tokens of a statement are sound if some tokens of it are.
use Rattle.std.proofs.Common.{◌≡◌, inl, inr, ℕ, zero, suc, ℤ, pos, negsuc, List, [], ◌∷◌, ◌++◌, Option, Some, nat_lt, arith}
use Rattle.std.specs.List.{AllByRecursion}
use Rattle.std.proofs.lemmas.Bool.{cases_Bool}
use Rattle.std.proofs.lemmas.Int.{ints}
use Rattle.tilt_lexer.specs.declared.key.Key.TheVariants as key
use Rattle.tilt_lexer.specs.declared.mark.Mark.TheVariants as mark
use Rattle.tilt_lexer.specs.declared.token.Tok.{Tok}
use Rattle.tilt_lexer.specs.declared.token.Tok.TheVariants.{Word, Number, Key as Reserved, Mark as Sign}
use Rattle.tilt_lexer.specs.Tokens.{IsSound}
use Rattle.tilt_syntax.specs.Grammar.{Infix, infix_of, SpellsOffset, now, later, earlier, IsExpr, tighter, choice, between, negation, minus}
use Rattle.tilt_syntax.specs.Grammar.{number, true_word, false_word, name, reading, window, is_null, if_null, enclosed}
use Rattle.tilt_syntax.specs.Grammar.{IsBound, from_zero, below_zero, IsSpan, over}
use Rattle.tilt_syntax.specs.Grammar.{MayBeSpan, no_span, some_span, MayBeGrid, no_grid, on_multiples, with_offset, IsStatement, input, definition, emission}
use Rattle.tilt_syntax.specs.Printing.{level_of}
use Rattle.tilt_syntax.specs.Query.{AreSound, with_first, statements}
use Rattle.tilt_syntax.specs.Tree.{ExprTree, StatementTree}
use Rattle.tilt_base.specs.declared.span.Span.{Span}
use Rattle.tilt_syntax.specs.declared.every.Every.{Every}
use Rattle.tilt_syntax.proofs.Written.{place_tokens, offset_tokens, reading_tokens, operands_tokens, expr_tokens, bound_tokens, span_tokens, domain_tokens, from_tokens, grid_tokens, statement_tokens}

-- tokens one after another are sound if both are
pub sound_parts : (ts us : List Tok) → AreSound (ts ++ us) → AreSound ts × AreSound us
sound_parts [] us s = (tt, s)
sound_parts (t ∷ ts) us s = let parts = sound_parts ts us s.1 in ((s.0, parts.0), parts.1)

pub both : (ts us : List Tok) → AreSound ts → AreSound us → AreSound (ts ++ us)
both [] us h g = g
both (t ∷ ts) us h g = (h.0, both ts us h.1 g)

-- the tokens of each statement are sound
abbrev pub EachSound : List (List Tok) → Type 0
EachSound ss = AllByRecursion AreSound ss

first_sound : (t : Tok) (ss : List (List Tok)) → IsSound t → EachSound ss → EachSound (with_first t ss)
first_sound t [] h each = ((h, tt), tt)
first_sound t (s ∷ ss) h each = ((h, each.0), each.1)

pub statements_sound : (ts : List Tok) → AreSound ts → EachSound (statements ts)
statements_sound [] s = tt
statements_sound (Sign mark.Semicolon ∷ ts) s = ((tt, tt), statements_sound ts s.1)
statements_sound (t ∷ ts) s = first_sound t (statements ts) s.0 (statements_sound ts s.1)

place_sound : (place level : ℕ) (ts : List Tok) → AreSound ts → AreSound (place_tokens place level ts)
place_sound place level ts h =
    elim (cases_Bool (nat_lt level place)) [
      | inl lower ↦ rw lower (tt, both ts (Sign mark.CloseParen ∷ []) h (tt, tt))
      | inr not_lower ↦ rw not_lower h
    ]

offset_sound : {ts : List Tok} {d : ℤ} → SpellsOffset ts d → AreSound ts → AreSound (offset_tokens d)
offset_sound now s = s
offset_sound (later {n = pos zero}) s = (tt, tt)
offset_sound (later {n = pos (suc n)}) s = s
offset_sound (later {n = negsuc n}) s = absurd (omega (arith, ints, s.1.1.0.0))
offset_sound (earlier {n = pos zero}) s = (tt, tt)
offset_sound (earlier {n = pos (suc n)}) s = s
offset_sound (earlier {n = negsuc n}) s = absurd (omega (arith, ints, s.1.1.0.0))

reading_sound : (x : List ℕ) (d : ℤ) → IsSound (Word x) → AreSound (offset_tokens d) → AreSound (reading_tokens x d)
reading_sound x (pos zero) w s = (w, tt)
reading_sound x (pos (suc n)) w s = (w, (tt, both (offset_tokens (pos (suc n))) (Sign mark.CloseBracket ∷ []) s (tt, tt)))
reading_sound x (negsuc n) w s = (w, (tt, both (offset_tokens (negsuc n)) (Sign mark.CloseBracket ∷ []) s (tt, tt)))

operands_sound : (o : Option Infix) (i : Infix) (l m : ℕ) (ts us : List Tok) → o ≡ Some i → IsSound i.sign → AreSound ts → AreSound us
    → AreSound (operands_tokens o l ts m us)
operands_sound o i l m ts us e s h g =
    rw e (both (place_tokens i.left l ts) (i.sign ∷ place_tokens i.right m us) (place_sound i.left l ts h) (s, place_sound i.right m us g))

pub expr_sound : {level : ℕ} {ts : List Tok} {e : ExprTree} → IsExpr level ts e → AreSound ts → AreSound (expr_tokens e)
expr_sound (tighter h) s = expr_sound h s
expr_sound (choice {ts = ts} {us = us} {vs = vs} {c = c} {a = a} {b = b} hc ha hb) s =
    let first = sound_parts ts _ s.1 in
    let second = sound_parts us _ first.1.1 in
    (tt, both (expr_tokens c) _ (expr_sound hc first.0) (tt, both (expr_tokens a) _ (expr_sound ha second.0) (tt, expr_sound hb second.1.1)))
expr_sound (between {op = op} {i = i} {ts = ts} {us = us} {a = a} {b = b} e ha hb) s =
    let parts = sound_parts ts (i.sign ∷ us) s in
    operands_sound (infix_of op) i (level_of a) (level_of b) (expr_tokens a) (expr_tokens b) e parts.1.0
    (expr_sound ha parts.0) (expr_sound hb parts.1.1)
expr_sound (negation {a = a} h) s = (tt, place_sound 4 (level_of a) (expr_tokens a) (expr_sound h s.1))
expr_sound (minus {a = a} h) s = (tt, place_sound 8 (level_of a) (expr_tokens a) (expr_sound h s.1))
expr_sound number s = s
expr_sound true_word s = s
expr_sound false_word s = s
expr_sound name s = s
expr_sound (reading {x = x} {ts = ts} {d = d} h) s = reading_sound x d s.0 (offset_sound h (sound_parts ts _ s.1.1).0)
expr_sound (window {r = r} {x = x} {ts = ts} {us = us} {l = l} {h = h} from to) s =
    let first = sound_parts ts _ s.1.1.1.1 in
    let second = sound_parts us _ first.1.1 in
    let end = Sign mark.CloseBracket ∷ Sign mark.CloseParen ∷ [] in
    let behind : AreSound (Sign mark.Colon ∷ (offset_tokens h ++ end)) = (tt, both (offset_tokens h) _ (offset_sound to second.0) (tt, (tt, tt))) in
    (tt, (tt, (s.1.1.0, (tt, both (offset_tokens l) _ (offset_sound from first.0) behind))))
expr_sound (is_null {ts = ts} {a = a} h) s = (tt, (tt, both (expr_tokens a) _ (expr_sound h (sound_parts ts _ s.1.1).0) (tt, tt)))
expr_sound (if_null {ts = ts} {us = us} {a = a} {b = b} ha hb) s =
    let first = sound_parts ts _ s.1.1 in
    let second = sound_parts us _ first.1.1 in
    (tt, (tt, both (expr_tokens a) _ (expr_sound ha first.0) (tt, both (expr_tokens b) _ (expr_sound hb second.0) (tt, tt))))
expr_sound (enclosed {ts = ts} h) s = expr_sound h (sound_parts ts _ s.1).0

bound_sound : {ts : List Tok} {n : ℤ} → IsBound ts n → AreSound ts → AreSound (bound_tokens n)
bound_sound (from_zero {n = pos n}) s = s
bound_sound (from_zero {n = negsuc n}) s = absurd (omega (arith, ints, s.0.0))
bound_sound (below_zero {n = pos zero}) s = s.1
bound_sound (below_zero {n = pos (suc n)}) s = s
bound_sound (below_zero {n = negsuc n}) s = absurd (omega (arith, ints, s.1.0.0))

span_sound : {ts : List Tok} {span : Span} → IsSpan ts span → AreSound ts → AreSound (span_tokens span)
span_sound (over {ts = ts} {us = us} {s = start} {e = end} hs he) s =
    let first = sound_parts ts _ s.1.1 in
    let second = sound_parts us _ first.1.1 in
    (tt, (tt, both (bound_tokens start) _ (bound_sound hs first.0) (tt, both (bound_tokens end) _ (bound_sound he second.0) (tt, tt))))

domain_sound : {ts : List Tok} {domain : Option Span} → MayBeSpan ts domain → AreSound ts → AreSound (domain_tokens domain)
domain_sound no_span s = s
domain_sound (some_span h) s = span_sound h s

from_sound : (o : ℤ) → AreSound (Reserved key.From ∷ Number o ∷ []) → AreSound (from_tokens o)
from_sound (pos zero) s = tt
from_sound (pos (suc n)) s = s
from_sound (negsuc n) s = s

grid_sound : {ts : List Tok} {grid : Option Every} → MayBeGrid ts grid → AreSound ts → AreSound (grid_tokens grid)
grid_sound no_grid s = s
grid_sound on_multiples s = s
grid_sound (with_offset {p = p} {o = o}) s = (tt, (s.1.0, from_sound o s.1.1))

pub statement_sound : {ts : List Tok} {s : StatementTree} → IsStatement ts s → AreSound ts → AreSound (statement_tokens s)
statement_sound input s = s
statement_sound (definition {ts = ts} {us = us} {vs = vs} {e = e} {over = domain} {every = grid} he hd hp) s =
    let first = sound_parts ts _ s.1.1.1 in
    let second = sound_parts us _ first.1 in
    let third = sound_parts vs _ second.1 in
    let end = both (grid_tokens grid) (Sign mark.Semicolon ∷ []) (grid_sound hp third.0) (tt, tt) in
    (tt, (s.1.0, (tt, both (expr_tokens e) _ (expr_sound he first.0) (both (domain_tokens domain) _ (domain_sound hd second.0) end))))
statement_sound (emission {ts = ts} {us = us} {vs = vs} {e = e} {over = span} {every = grid} he hs hp) s =
    let first = sound_parts ts _ s.1 in
    let second = sound_parts us _ first.1 in
    let third = sound_parts vs _ second.1 in
    let end = both (grid_tokens grid) (Sign mark.Semicolon ∷ []) (grid_sound hp third.0) (tt, tt) in
    (tt, both (expr_tokens e) _ (expr_sound he first.0) (both (span_tokens span) _ (span_sound hs second.0) end))
