-- The query of a pipeline is that of some tokens: those of its steps, with other names.
use Rattle.std.proofs.Common.{◌≡◌, ◌<◌, ◌≤◌, ◌^◌, ◌%◌, ℕ, zero, suc, ◌+◌, ℤ, pos, negsuc, neg_ℤ, ◌≤ℤ◌, Bool, true, false, ◌&&◌, List, [], ◌∷◌, ◌++◌, length, map, codes, get_or}
use Rattle.std.proofs.Common.{decimal, Option, Some, None, if◌then◌else◌, refl, sym, ap, subst, arith, length-append}
use Rattle.std.specs.Char.{is_ascii_digit}
use Rattle.std.specs.List.{AllByRecursion, list_all, flat_map}
use Rattle.std.specs.Prelude.{⊤}
use Rattle.std.specs.Str.{bytes_eq}
use Rattle.std.proofs.lemmas.Bool.{and_parts, false≢true, or_right}
use Rattle.std.proofs.lemmas.Bool.Decides.{nat_tests}
use Rattle.std.proofs.lemmas.Fmt.{decimal_by_steps}
use Rattle.std.proofs.lemmas.Int.{ints}
use Rattle.std.proofs.lemmas.List.{length-map, map-append}
use Rattle.std.proofs.lemmas.List.Folds.{list_all-append}
use Rattle.tilt_base.proofs.Lists.{all-append}
use Rattle.tilt_base.specs.Expression.{Two}
use Rattle.tilt_base.specs.declared.operator.Op1.TheVariants as op1
use Rattle.tilt_base.specs.declared.operator.Op2.{Op2}
use Rattle.tilt_base.specs.declared.operator.Op2.TheVariants as op2
use Rattle.tilt_base.specs.declared.span.Span.{Span}
use Rattle.tilt_base.specs.Reduce.{reducer_word}
use Rattle.tilt_base.specs.declared.reducer.Reducer.{Reducer}
use Rattle.tilt_base.specs.declared.reducer.Reducer.TheVariants as reducer
use Rattle.tilt_lexer.specs.Tokens.{IsSound, greatest_number}
use Rattle.tilt_lexer.specs.Word.{IsName, begins_word, goes_on_word, key_text}
use Rattle.tilt_lexer.specs.declared.key.Key.{Key}
use Rattle.tilt_lexer.specs.declared.key.Key.TheVariants as key
use Rattle.tilt_lexer.specs.declared.mark.Mark.TheVariants as mark
use Rattle.tilt_lexer.specs.declared.token.Tok.{Tok}
use Rattle.tilt_lexer.specs.declared.token.Tok.TheVariants.{Word, Number, Key as Reserved, Mark as Sign}
use Rattle.tilt_syntax.proofs.Cuts.{query_cut}
use Rattle.tilt_syntax.proofs.Shortest.{statement_shortest}
use Rattle.tilt_syntax.proofs.Sounds.{EachSound, both, sound_parts, statement_sound, statements_sound}
use Rattle.tilt_syntax.proofs.Written.{statement_is, statement_tokens}
use Rattle.tilt_syntax.specs.Grammar.{Infix, infix_of, SpellsOffset, now, later, earlier, IsExpr, tighter, choice, between, negation, minus}
use Rattle.tilt_syntax.specs.Grammar.{number, true_word, false_word, name, reading as reading_at, window, is_null, if_null, enclosed}
use Rattle.tilt_syntax.specs.Grammar.{IsBound, from_zero, below_zero, no_span, no_grid, IsStatement, input, definition, emission}
use Rattle.tilt_syntax.specs.Query.{AreGood, AreSound, IsQuery, statements}
use Rattle.tilt_syntax.specs.Tree.{ExprTree, StatementTree, Input, Let, Emit}
use Rattle.tilt_operators.specs.Desugared.{over_sources, query_of, reading, some_value, source_for, source_name, step_definitions, step_expr}
use Rattle.tilt_operators.specs.Flow.{StepTree, Select, Keep, Shift, Window, Join, FlowTree}
use Rattle.tilt_operators.specs.Inputs.{inputs_of, with_name, with_steps}
use Rattle.tilt_operators.specs.Steps.{AreFlow, AreSteps, IsFlow, IsStep, is_over, step_of}
use Rattle.tilt_operators.specs.declared.operands.Operands.{Operands}
use Rattle.tilt_operators.specs.declared.operands.Operands.TheVariants.{Value, Both}
use Rattle.tilt_operators.proofs.Known.{IsKnownFlow, flow-known, with_steps-few}
use Rattle.tilt_operators.proofs.Names.{is_among}

-- names of definitions

digit_goes_on : (n : ℕ) → n < 10 → goes_on_word (48 + n) ≡ true
digit_goes_on n small = or_right (begins_word (48 + n)) (is_ascii_digit (48 + n)) (grind (arith, nat_tests))

pub decimal_goes_on : (n : ℕ) → n < 2 ^ 64 → list_all goes_on_word (decimal n) ≡ true
decimal_goes_on n small =
    decimal_by_steps (λ n ds. list_all goes_on_word ds ≡ true)
    (λ n one. rw (digit_goes_on n one) refl)
    (λ n ds more h. rw (list_all-append goes_on_word ds ((48 + n % 10) ∷ []), h, digit_goes_on (n % 10) (omega arith)) refl)
    n small

not_reducer : (ds : List ℕ) (r : Reducer) → reducer_word r ≡ codes "_" ++ ds → ⊥
not_reducer ds reducer.Sum e = absurd (omega (arith, ap (λ (text : List ℕ). get_or text 0 0) e))
not_reducer ds r e = absurd (omega (arith, ap (λ (text : List ℕ). get_or text 0 0) e))

not_reserved : (ds : List ℕ) (k : Key) → key_text k ≡ codes "_" ++ ds → ⊥
not_reserved ds key.Input e = absurd (omega (arith, ap (λ (text : List ℕ). get_or text 0 0) e))
not_reserved ds (key.Reducer r) e = not_reducer ds r e
not_reserved ds k e = absurd (omega (arith, ap (λ (text : List ℕ). get_or text 0 0) e))

numbered-is_name : (first : List ℕ) (n : ℕ) → IsName first → n < 2 ^ 64 → IsName (source_name first n)
numbered-is_name first zero h small = h
numbered-is_name first (suc n) h small = (decimal_goes_on (suc n) small, λ reserved. not_reserved (decimal (suc n)) reserved.0 reserved.1)

-- expressions with other names
module _ (p q : List ℕ) where
  abbrev renamed : Tok → Tok
  renamed (Word x) = Word (source_for p q x)
  renamed (Number n) = Number n
  renamed (Reserved k) = Reserved k
  renamed (Sign m) = Sign m

  abbrev SignStays : Option Infix → Type 0
  SignStays None = ⊤
  SignStays (Some i) = renamed i.sign ≡ i.sign

  sign_stays : (op : Op2) → SignStays (infix_of op)
  sign_stays op2.IfNull = tt
  sign_stays op = refl

  spells_same : {ts : List Tok} {d : ℤ} → SpellsOffset ts d → SpellsOffset (map renamed ts) d
  spells_same now = now
  spells_same later = later
  spells_same earlier = earlier

  between_same : {ts us : List Tok} {a b : ExprTree} (op : Op2) (i : Infix) → infix_of op ≡ Some i → IsExpr i.left ts a → IsExpr i.right us b
      → IsExpr i.level (ts ++ (renamed i.sign ∷ us)) (Two op a b)
  between_same {ts = ts} {us = us} {a = a} {b = b} op i e ha hb =
      let same : renamed i.sign ≡ i.sign = subst SignStays e (sign_stays op) in
      subst (λ (t : Tok). IsExpr i.level (ts ++ (t ∷ us)) (Two op a b)) (sym same) (between e ha hb)

  expr_renamed : (operands : Operands) {level : ℕ} {ts : List Tok} {e : ExprTree} → IsExpr level ts e → is_over operands e ≡ true
      → IsExpr level (map renamed ts) (over_sources p q e)
  expr_renamed operands (tighter h) over = tighter (expr_renamed operands h over)
  expr_renamed operands (choice {c = c} {a = a} {b = b} hc ha hb) over =
      let parts = and_parts (is_over operands c && is_over operands a) (is_over operands b) over in
      let more = and_parts (is_over operands c) (is_over operands a) parts.0 in
      simp map-append (choice (expr_renamed operands hc more.0) (expr_renamed operands ha more.1) (expr_renamed operands hb parts.1))
  expr_renamed operands (between {op = op} {i = i} {a = a} {b = b} e ha hb) over =
      let parts = and_parts (is_over operands a) (is_over operands b) over in
      simp map-append (between_same op i e (expr_renamed operands ha parts.0) (expr_renamed operands hb parts.1))
  expr_renamed operands (negation h) over = negation (expr_renamed operands h over)
  expr_renamed operands (minus h) over = minus (expr_renamed operands h over)
  expr_renamed operands number over = number
  expr_renamed operands true_word over = true_word
  expr_renamed operands false_word over = false_word
  expr_renamed operands name over = name
  expr_renamed operands (reading_at h) over = simp map-append (reading_at (spells_same h))
  expr_renamed operands (window from to) over = absurd (false≢true over)
  expr_renamed operands (is_null h) over = simp map-append (is_null (expr_renamed operands h over))
  expr_renamed operands (if_null {a = a} {b = b} ha hb) over =
      let parts = and_parts (is_over operands a) (is_over operands b) over in
      simp map-append (if_null (expr_renamed operands ha parts.0) (expr_renamed operands hb parts.1))
  expr_renamed operands (enclosed h) over = simp map-append (enclosed (expr_renamed operands h over))

  module _ (is_p : IsName p) (is_q : IsName q) where
    name-by : (is_v : Bool) → IsName (if is_v then p else q)
    name-by true = is_p
    name-by false = is_q

    token_sound : (t : Tok) → IsSound t → IsSound (renamed t)
    token_sound (Word x) h = name-by (bytes_eq x (codes "v"))
    token_sound (Number n) h = h
    token_sound (Reserved k) h = h
    token_sound (Sign m) h = h

    renamed_sound : (ts : List Tok) → AreSound ts → AreSound (map renamed ts)
    renamed_sound [] h = tt
    renamed_sound (t ∷ ts) h = (token_sound t h.0, renamed_sound ts h.1)

-- a statement of few tokens of a text
record IsWritable (s : StatementTree) : Type 0 where
  tokens : List Tok
  sound : AreSound tokens
  parsed : IsStatement tokens s
  short : length tokens ≤ 256

-- an expression of some tokens, at each level
abbrev some_tokens : List ℕ → List Tok
some_tokens x = Reserved key.Not ∷ Reserved key.IsNull ∷ Sign mark.OpenParen ∷ Word x ∷ Sign mark.CloseParen ∷ []

to_zero : {ts : List Tok} {e : ExprTree} → IsExpr 9 ts e → IsExpr 0 ts e
to_zero h = tighter (tighter (tighter (tighter (tighter (tighter (tighter (tighter (tighter h))))))))

to_one : {ts : List Tok} {e : ExprTree} → IsExpr 9 ts e → IsExpr 1 ts e
to_one h = tighter (tighter (tighter (tighter (tighter (tighter (tighter (tighter h)))))))

to_two : {ts : List Tok} {e : ExprTree} → IsExpr 9 ts e → IsExpr 2 ts e
to_two h = tighter (tighter (tighter (tighter (tighter (tighter (tighter h))))))

some_is : (x : List ℕ) → IsExpr 4 (some_tokens x) (some_value x)
some_is x = negation (tighter (tighter (tighter (tighter (tighter (is_null (to_zero name)))))))

-- a definition of these tokens
let_is : (x : List ℕ) (ts : List Tok) (e : ExprTree) → IsExpr 0 ts e → IsName x → AreSound ts → length ts ≤ 252 → IsWritable (Let x e None None)
let_is x ts e h named sound few = record {
  tokens = Reserved key.Let ∷ Word x ∷ Sign mark.Assign ∷ (ts ++ (Sign mark.Semicolon ∷ []));
  sound = (tt, (named, (tt, both ts (Sign mark.Semicolon ∷ []) sound (tt, tt))));
  parsed = definition h no_span no_grid;
  short = omega (arith, length-append ts (Sign mark.Semicolon ∷ []));
}

-- in parentheses
abbrev closed : List Tok → List Tok
closed ts = Sign mark.OpenParen ∷ (ts ++ (Sign mark.CloseParen ∷ []))

closed_sound : (ts : List Tok) → AreSound ts → AreSound (closed ts)
closed_sound ts h = (tt, both ts (Sign mark.CloseParen ∷ []) h (tt, tt))

some_sound : (x : List ℕ) → IsName x → AreSound (some_tokens x)
some_sound x h = (tt, (tt, (tt, (h, (tt, tt)))))

-- a bound of a text has 64 bits, and its negative too
pub bound-within : {ts : List Tok} {n : ℤ} → IsBound ts n → AreSound ts → (neg_ℤ greatest_number ≤ℤ n) × (n ≤ℤ greatest_number)
bound-within from_zero s = (omega (arith, ints, s.0.0, s.0.1), s.0.1)
bound-within below_zero s = (omega (arith, ints, s.1.0.0, s.1.0.1), omega (arith, ints, s.1.0.0, s.1.0.1))

shift_is : (x before : List ℕ) (by : ℤ) → IsName x → IsName before → neg_ℤ greatest_number ≤ℤ by → by ≤ℤ greatest_number
    → IsWritable (Let x (step_expr before (Shift by)) None None)
shift_is x before (pos n) named is low high =
    let_is x (Word before ∷ Sign mark.OpenBracket ∷ Reserved key.Time ∷ Sign mark.Minus ∷ Number (pos n) ∷ Sign mark.CloseBracket ∷ [])
    (step_expr before (Shift (pos n))) (to_zero (reading_at earlier)) named
    (is, (tt, (tt, (tt, ((omega (arith, ints), high), (tt, tt)))))) (omega arith)
shift_is x before (negsuc n) named is low high =
    let_is x (Word before ∷ Sign mark.OpenBracket ∷ Reserved key.Time ∷ Sign mark.Plus ∷ Number (pos (suc n)) ∷ Sign mark.CloseBracket ∷ [])
    (step_expr before (Shift (negsuc n))) (to_zero (reading_at later)) named
    (is, (tt, (tt, (tt, ((omega (arith, ints), omega (arith, ints)), (tt, tt)))))) (omega arith)

-- what is between a step's word and its end
pub inside-sound : (word : List ℕ) (inside : List Tok) → AreSound (step_of word inside) → AreSound inside
inside-sound word inside h = (sound_parts inside (Sign mark.Semicolon ∷ []) h.1).0

inside-few : (word : List ℕ) (inside : List Tok) → length (step_of word inside) ≤ 200 → length inside ≤ 198
inside-few word inside h = omega (arith, length-append inside (Sign mark.Semicolon ∷ []))

step_is : (x before : List ℕ) (ts : List Tok) (s : StepTree) → IsName x → IsName before → IsStep ts s → AreSound ts → length ts ≤ 200
    → IsWritable (Let x (step_expr before s) None None)
step_is x before ts (Select e) named is h sound few =
    let inner : AreSound h.inside = inside-sound h.word h.inside (rw h.whole at sound) in
    let short : length h.inside ≤ 198 = inside-few h.word h.inside (rw h.whole at few) in
    let over = expr_renamed before before Value h.is.1.parsed h.is.1.over in
    let us = map (renamed before before) h.inside in
    let_is x (closed us ++ (Reserved key.When ∷ some_tokens before)) (step_expr before (Select e))
    (tighter (between refl (to_one (enclosed over)) (tighter (tighter (some_is before)))))
    named (both (closed us) (Reserved key.When ∷ some_tokens before) (closed_sound us (renamed_sound before before is is h.inside inner)) (tt, some_sound before is))
    (omega (arith, length-append (closed us) (Reserved key.When ∷ some_tokens before), length-append us (Sign mark.CloseParen ∷ []), length-map h.inside (renamed before before)))
step_is x before ts (Keep e) named is h sound few =
    let inner : AreSound h.inside = inside-sound h.word h.inside (rw h.whole at sound) in
    let short : length h.inside ≤ 198 = inside-few h.word h.inside (rw h.whole at few) in
    let over = expr_renamed before before Value h.is.1.parsed h.is.1.over in
    let us = map (renamed before before) h.inside in
    let_is x (Word before ∷ Reserved key.When ∷ closed us) (step_expr before (Keep e))
    (tighter (between {ts = Word before ∷ []} refl (to_one name) (to_two (enclosed over))))
    named (is, (tt, closed_sound us (renamed_sound before before is is h.inside inner)))
    (omega (arith, length-append us (Sign mark.CloseParen ∷ []), length-map h.inside (renamed before before)))
step_is x before ts (Shift by) named is h sound few =
    let inner : AreSound h.inside = inside-sound h.word h.inside (rw h.whole at sound) in
    let within = bound-within h.is.1 inner in
    shift_is x before by named is within.0 within.1
step_is x before ts (Window r width) named is h sound few =
    let inner : AreSound h.inside = inside-sound h.word h.inside (rw h.whole at sound) in
    let numbers : AreSound (Reserved (key.Reducer r) ∷ Number width ∷ []) = rw h.is.1 at inner in
    let_is x (Reserved (key.Reducer r) ∷ Sign mark.OpenParen ∷ Word before ∷ Sign mark.OpenBracket ∷ Reserved key.Time ∷ Sign mark.Minus
    ∷ Number width ∷ Sign mark.Colon ∷ Reserved key.Time ∷ Sign mark.CloseBracket ∷ Sign mark.CloseParen ∷ [])
    (step_expr before (Window r width)) (to_zero (window earlier now)) named
    (tt, (tt, (is, (tt, (tt, (tt, (numbers.1.0, (tt, (tt, (tt, (tt, tt))))))))))) (omega arith)
step_is x before ts (Join other e) named is h sound few =
    let inner : AreSound h.inside = inside-sound h.word h.inside (rw h.whole at sound) in
    let short : length h.inside ≤ 198 = inside-few h.word h.inside (rw h.whole at few) in
    let rest = h.is.1 in
    let parts : AreSound (Word other ∷ rest) = rw h.is.2 at inner in
    let count = ap length h.is.2 in
    let over = expr_renamed before other Both h.is.4.parsed h.is.4.over in
    let us = map (renamed before other) rest in
    let test = some_tokens before ++ (Reserved key.And ∷ some_tokens other) in
    let_is x (closed us ++ (Reserved key.When ∷ test)) (step_expr before (Join other e))
    (tighter (between refl (to_one (enclosed over)) (tighter (between refl (tighter (some_is before)) (some_is other)))))
    named (both (closed us) (Reserved key.When ∷ test) (closed_sound us (renamed_sound before other is parts.0 rest parts.1))
    (tt, both (some_tokens before) (Reserved key.And ∷ some_tokens other) (some_sound before is) (tt, some_sound other parts.0)))
    (omega (arith, length-append (closed us) (Reserved key.When ∷ test), length-append us (Sign mark.CloseParen ∷ []), length-map rest (renamed before other)))

-- the tokens of a pipeline's steps are sound
lets_are : (first : List ℕ) (n k : ℕ) (ss : List (List Tok)) (steps : List StepTree) (domain : Span) → AreSteps k ss steps domain → EachSound ss
    → IsName first → suc (n + length steps) < 2 ^ 64 → AllByRecursion IsWritable (step_definitions first n steps)
lets_are first n k [] steps domain h sound named few = absurd h
lets_are first n k (ts ∷ []) [] domain h sound named few = tt
lets_are first n k (ts ∷ []) (s ∷ steps) domain h sound named few = absurd h
lets_are first n k (ts ∷ next ∷ rest) [] domain h sound named few = absurd h
lets_are first n k (ts ∷ next ∷ rest) (s ∷ steps) domain h sound named few = (
  step_is (source_name first (suc n)) (source_name first n) ts s (numbered-is_name first (suc n) named (omega arith))
      (numbered-is_name first n named (omega arith)) h.1 sound.0 h.0.short,
  lets_are first (suc n) (k + 1) (next ∷ rest) steps domain h.2 sound.1 named (omega arith),
)

emit_is : (x : List ℕ) (k : ℕ) (ss : List (List Tok)) (steps : List StepTree) (domain : Span) → AreSteps k ss steps domain → EachSound ss
    → IsName x → IsWritable (Emit (reading x) domain None)
emit_is x k [] steps domain h sound named = absurd h
emit_is x k (ts ∷ []) [] domain h sound named =
    let inside = h.1.0 in
    let all : AreSound (Reserved key.Emit ∷ (inside ++ (Sign mark.Semicolon ∷ []))) = rw h.1.1 at sound.0 in
    let short : length (Reserved key.Emit ∷ (inside ++ (Sign mark.Semicolon ∷ []))) ≤ 200 = rw h.1.1 at h.0.short in
    record {
      tokens = Reserved key.Emit ∷ Word x ∷ (inside ++ (Sign mark.Semicolon ∷ []));
      sound = (tt, (named, all.1));
      parsed = emission {ts = Word x ∷ []} {vs = []} (to_zero name) h.1.2 no_grid;
      short = omega arith;
    }
emit_is x k (ts ∷ []) (s ∷ steps) domain h sound named = absurd h
emit_is x k (ts ∷ next ∷ rest) [] domain h sound named = absurd h
emit_is x k (ts ∷ next ∷ rest) (s ∷ steps) domain h sound named = emit_is x (k + 1) (next ∷ rest) steps domain h.2 sound.1 named

-- the names of inputs
with_name-named : (names : List (List ℕ)) (x : List ℕ) (is : Bool) → AllByRecursion IsName names → IsName x
    → AllByRecursion IsName (if is then names else names ++ x ∷ [])
with_name-named names x true h new = h
with_name-named names x false h new = all-append IsName names (x ∷ []) h (new, tt)

inputs_named : (names : List (List ℕ)) (k : ℕ) (ss : List (List Tok)) (steps : List StepTree) (domain : Span) → AreSteps k ss steps domain
    → EachSound ss → AllByRecursion IsName names → AllByRecursion IsName (with_steps names steps)
inputs_named names k [] steps domain h sound named = absurd h
inputs_named names k (ts ∷ []) [] domain h sound named = named
inputs_named names k (ts ∷ []) (s ∷ steps) domain h sound named = absurd h
inputs_named names k (ts ∷ next ∷ rest) [] domain h sound named = absurd h
inputs_named names k (ts ∷ next ∷ rest) (Join x e ∷ steps) domain h sound named =
    let inner : AreSound h.1.inside = inside-sound h.1.word h.1.inside (rw h.1.whole at sound.0) in
    let parts : AreSound (Word x ∷ h.1.is.1) = rw h.1.is.2 at inner in
    inputs_named (with_name names x) (k + 1) (next ∷ rest) steps domain h.2 sound.1 (with_name-named names x (is_among names x) named parts.0)
inputs_named names k (ts ∷ next ∷ rest) (Select e ∷ steps) domain h sound named =
    inputs_named names (k + 1) (next ∷ rest) steps domain h.2 sound.1 named
inputs_named names k (ts ∷ next ∷ rest) (Keep e ∷ steps) domain h sound named =
    inputs_named names (k + 1) (next ∷ rest) steps domain h.2 sound.1 named
inputs_named names k (ts ∷ next ∷ rest) (Shift by ∷ steps) domain h sound named =
    inputs_named names (k + 1) (next ∷ rest) steps domain h.2 sound.1 named
inputs_named names k (ts ∷ next ∷ rest) (Window r width ∷ steps) domain h sound named =
    inputs_named names (k + 1) (next ∷ rest) steps domain h.2 sound.1 named

inputs_are : (names : List (List ℕ)) → AllByRecursion IsName names → AllByRecursion IsWritable (map Input names)
inputs_are [] h = tt
inputs_are (x ∷ names) h = (
  record { tokens = Reserved key.Input ∷ Word x ∷ Sign mark.Semicolon ∷ []; sound = (tt, (h.0, (tt, tt))); parsed = input; short = omega arith },
  inputs_are names h.1,
)

-- the last statement is an `emit`, and no other
abbrev IsEnding : List StatementTree → Type 0
IsEnding [] = ⊥
IsEnding (Input x ∷ []) = ⊥
IsEnding (Let x e over every ∷ []) = ⊥
IsEnding (Emit e over every ∷ []) = ⊤
IsEnding (Input x ∷ next ∷ query) = IsEnding (next ∷ query)
IsEnding (Let x e over every ∷ next ∷ query) = IsEnding (next ∷ query)
IsEnding (Emit e over every ∷ next ∷ query) = ⊥

steps-end : (first : List ℕ) (n : ℕ) (steps : List StepTree) (e : ExprTree) (domain : Span)
    → IsEnding (step_definitions first n steps ++ Emit e domain None ∷ [])
steps-end first n [] e domain = tt
steps-end first n (s ∷ []) e domain = tt
steps-end first n (s ∷ next ∷ steps) e domain = steps-end first (suc n) (next ∷ steps) e domain

inputs-end : (names : List (List ℕ)) (query : List StatementTree) → IsEnding query → IsEnding (map Input names ++ query)
inputs-end [] query h = h
inputs-end (x ∷ []) [] h = absurd h
inputs-end (x ∷ []) (s ∷ query) h = h
inputs-end (x ∷ y ∷ names) query h = inputs-end (y ∷ names) query h

good-short : (s : StatementTree) → IsWritable s → length (statement_tokens s) ≤ 256
good-short s w = omega (arith, statement_shortest w.parsed w.sound, w.short)

all-good : (query : List StatementTree) → AllByRecursion IsWritable query → IsEnding query → AreGood (map statement_tokens query) query
all-good [] h end = absurd end
all-good (Input x ∷ []) h end = absurd end
all-good (Let x e over every ∷ []) h end = absurd end
all-good (Emit e over every ∷ []) h end =
    (record { short = good-short (Emit e over every) h.0; parsed = statement_is (Emit e over every); in_place = tt }, tt)
all-good (Input x ∷ next ∷ query) h end =
    (record { short = good-short (Input x) h.0; parsed = statement_is (Input x); in_place = tt }, all-good (next ∷ query) h.1 end)
all-good (Let x e over every ∷ next ∷ query) h end =
    (record { short = good-short (Let x e over every) h.0; parsed = statement_is (Let x e over every); in_place = tt }, all-good (next ∷ query) h.1 end)
all-good (Emit e over every ∷ next ∷ query) h end = absurd end

all-sound : (query : List StatementTree) → AllByRecursion IsWritable query → AreSound (flat_map statement_tokens query)
all-sound [] h = tt
all-sound (s ∷ query) h =
    both (statement_tokens s) (flat_map statement_tokens query) (statement_sound h.0.parsed h.0.sound) (all-sound query h.1)

query_is : (query : List StatementTree) → AllByRecursion IsWritable query → IsEnding query → 0 < length query → length query ≤ 256 → IsQuery query
query_is query h end some few =
    let cut = query_cut query in
    let count : length (statements (flat_map statement_tokens query)) ≡ length query = rw cut (length-map query statement_tokens) in
    record {
      tokens = flat_map statement_tokens query;
      sound = all-sound query h;
      parsed = record { some = omega arith; few = omega arith; good = rw cut (all-good query h end) };
    }

definitions-length : (first : List ℕ) (n : ℕ) (steps : List StepTree) → length (step_definitions first n steps) ≡ length steps
definitions-length first n [] = refl
definitions-length first n (s ∷ steps) = ap suc (definitions-length first (suc n) steps)

written_by : (ss : List (List Tok)) (flow : FlowTree) → AreFlow ss flow → EachSound ss → IsKnownFlow flow → IsQuery (query_of flow)
written_by [] flow h sound known = absurd h
written_by (ts ∷ rest) flow h sound known =
    let few = known.few in
    let first : IsName flow.first = (rw h.1.0 at sound.0).1.0 in
    let last = Emit (reading (source_name flow.first (length flow.steps))) flow.domain None in
    let lets = step_definitions flow.first 0 flow.steps in
    let inputs = inputs_named (flow.first ∷ []) 2 rest flow.steps flow.domain h.2 sound.1 (first, tt) in
    let defs = lets_are flow.first 0 2 rest flow.steps flow.domain h.2 sound.1 first (omega arith) in
    let emits = emit_is (source_name flow.first (length flow.steps)) 2 rest flow.steps flow.domain h.2 sound.1
    (numbered-is_name flow.first (length flow.steps) first (omega arith)) in
    let count = with_steps-few (flow.first ∷ []) flow.steps in
    query_is (query_of flow)
    (all-append IsWritable (map Input (inputs_of flow)) (lets ++ last ∷ []) (inputs_are (inputs_of flow) inputs)
    (all-append IsWritable lets (last ∷ []) defs (emits, tt)))
    (inputs-end (inputs_of flow) (lets ++ last ∷ []) (steps-end flow.first 0 flow.steps _ flow.domain))
    (omega (arith, length-append (map Input (inputs_of flow)) (lets ++ last ∷ []), length-append lets (last ∷ [])))
    (omega (
      arith,
      length-append (map Input (inputs_of flow)) (lets ++ last ∷ []),
      length-append lets (last ∷ []),
      length-map (inputs_of flow) Input,
      definitions-length flow.first 0 flow.steps,
    ))

-- the query of a pipeline is one that some text reads as
pub written : (flow : FlowTree) → IsFlow flow → IsQuery (query_of flow)
written flow is = written_by (statements is.tokens) flow is.read.steps (statements_sound is.tokens is.sound) (flow-known flow is)
