-- A text without points is the query that it is to `tilt`, if the scale of each input is 1.
use Rattle.std.proofs.Common.{◌≡◌, ℕ, zero, suc, ◌+◌, ◌≤◌, ◌<◌, ◌^◌, ℤ, pos, negsuc, neg_ℤ, ◌≤ℤ◌, nat_lt, Bool, true, false, not, cond, if◌then◌else◌, List, [], ◌∷◌, ◌++◌, length}
use Rattle.std.proofs.Common.{map, Option, Some, None, Result, Ok, refl, sym, ap, ◌∙◌, subst, arith}
use Rattle.std.specs.List.{AllByRecursion, slice_get}
use Rattle.std.proofs.lemmas.Bool.Decides.{nat_tests}
use Rattle.std.proofs.lemmas.Int.{ints}
use Rattle.std.proofs.lemmas.List.{append_assoc}
use Rattle.tilt_base.specs.Expression.{Leaf, One, Two, If}
use Rattle.tilt_base.specs.Number.{within_64_bits}
use Rattle.tilt_base.specs.declared.span.Span.{Span}
use Rattle.tilt_core.specs.Core.{CoreParts}
use Rattle.tilt_core.specs.CoreTree.{Definition, nodes}
use Rattle.tilt_input_scales.specs.Scales.{ScalesValue}
use Rattle.tilt_lexer.specs.Tokens.{AreTokens, IsSound}
use Rattle.tilt_lexer.specs.Word.{AreDistinct}
use Rattle.tilt_lexer.specs.declared.token.Tok.{Tok}
use Rattle.tilt_lexer.specs.declared.token.Tok.TheVariants.{Word, Number, Key as Reserved, Mark as Sign}
use Rattle.tilt_lexer.specs.declared.token.Token.{Token}
use Rattle.tilt_lexer.proofs.Sound.{sound}
use Rattle.tilt_syntax.proofs.Parsing.{sound-kinds}
use Rattle.tilt_syntax.proofs.Sounds.{statements_sound}
use Rattle.tilt_syntax.specs.Query.{AreSound, IsQuery, IsQueryOf, kinds, statements}
use Rattle.tilt_syntax.specs.Text.{IsQueryText}
use Rattle.tilt_syntax.specs.Tree.{ExprTree, StatementTree, Num, Truth, Read, Reduce, Input, Let, Emit}
use Rattle.tilt_syntax.specs.declared.every.Every.{Every}
use Rattle.tilt_types.proofs.CheckedCore.{checked-core}
use Rattle.tilt_types.proofs.Distinct.{source_names-distinct}
use Rattle.tilt_types.proofs.Texts.{IsOfText, query-of_text, sources-few}
use Rattle.tilt_types.specs.Checked.{checked, core_of, definitions, input_names, let_names, numbered, place_of, source_names}
use Rattle.tilt_types.specs.WellFormed.{first_fault}
use Rattle.tilt_units.specs.Translation.{ScaledQuery, UnitDefinition, input_quantities, translated}
use Rattle.tilt_units.specs.declared.quantity.Quantity.{Quantity}
use Rattle.tilt_units.specs.declared.quantity.Quantity.TheVariants as quantity
use Rattle.tilt_unit_text.proofs.Numbered.{counted_with}
use Rattle.tilt_unit_text.proofs.Ones.{AreWhole, HaveTypes}
use Rattle.tilt_unit_text.proofs.PlacedQueries.{query_before}
use Rattle.tilt_unit_text.proofs.Names.{LastEmits, last_emits, long_is, no_check, place_front}
use Rattle.tilt_unit_text.proofs.Unchanged.{none_long, statements_same}
use Rattle.tilt_unit_text.proofs.WholeQueries.{Done, IsSmall, all_done}
use Rattle.tilt_unit_text.specs.Numbers.{Progress, more_noted, noted, number_in}
use Rattle.tilt_unit_text.specs.Places.{counted, decimals_of, digits_at, digits_of, expression_fault, grid_fault, number_at, query_fault, query_with, span_fault, statement_fault}
use Rattle.tilt_unit_text.specs.Places.{ticks_fault, whole_fault}
use Rattle.tilt_unit_text.specs.Points.{is_point, points_after, points_of, without_points}
use Rattle.tilt_unit_text.specs.Reading as reading
use Rattle.tilt_unit_text.specs.Reading.{Reads}
use Rattle.tilt_unit_text.specs.Units.{HaveScaleOne, UnitParts, large_fault, query_in_units, scales_for, unit_definitions}
use Rattle.tilt_unit_text.specs.declared.fault.UnitFault.{UnitFault}
use Rattle.tilt_unit_text.specs.declared.written.Written.{Written}

-- a text without points is itself without them
plain_by : (is : Bool) (b before : ℕ) (points more : List ℕ) (text rest : List ℕ) → (if is then before ∷ points else more) ≡ [] → (more ≡ [] → rest ≡ text)
    → cond (not is) (b ∷ rest) rest ≡ b ∷ text
plain_by true b before points more text rest h go = absurd (cc h)
plain_by false b before points more text rest h go = ap (λ r. b ∷ r) (go h)

plain_is : (before : ℕ) (text : List ℕ) → points_after before text ≡ [] → without_points text ≡ text
plain_is before [] h = refl
plain_is before (b ∷ text) h =
    plain_by (is_point b) b before (points_after before text) (points_after (before + 1) text) text (without_points text) h (plain_is (before + 1) text)

-- a number without a point, which 64 bits hold
record IsWhole (w : Written) : Type 0 where
  whole : w.decimals ≡ 0
  positive : pos 0 ≤ℤ w.digits
  small : w.digits ≤ℤ pos 9223372036854775807

all_append : (xs ys : List Written) → AllByRecursion IsWhole xs → AllByRecursion IsWhole ys → AllByRecursion IsWhole (xs ++ ys)
all_append [] ys h g = g
all_append (x ∷ xs) ys h g = (h.0, all_append xs ys h.1 g)

whole_in : (t : Tok) (at : ℕ) → IsSound t → AllByRecursion IsWhole (number_in t 0 at)
whole_in (Number n) at s = (record { whole = refl; positive = s.0; small = s.1 }, tt)
whole_in (Word x) at s = tt
whole_in (Reserved k) at s = tt
whole_in (Sign m) at s = tt

record NotedWhole (so_far : Progress) (ts : List Token) : Type 0 where
  all : Progress
  is : more_noted [] so_far ts ≡ Ok all
  whole : AllByRecursion IsWhole all.numbers

noted_whole : (so_far : Progress) (ts : List Token) → AllByRecursion IsWhole so_far.numbers → AreSound (kinds ts) → NotedWhole so_far ts
noted_whole so_far [] w s = record { all = so_far; is = refl; whole = w }
noted_whole so_far (t ∷ ts) w s =
    let new = number_in t.kind 0 (t.start + so_far.taken) in
    let next : Progress = record { numbers = so_far.numbers ++ new; taken = so_far.taken } in
    let more = noted_whole next ts (all_append so_far.numbers new w (whole_in t.kind (t.start + so_far.taken) s.0)) s.1 in
    record { all = more.all; is = more.is; whole = more.whole }

record WholeAt (o : Option Written) : Type 0 where
  whole : decimals_of o ≡ 0
  positive : pos 0 ≤ℤ digits_of o
  small : digits_of o ≤ℤ pos 9223372036854775807

whole_at : (numbers : List Written) (k : ℕ) → AllByRecursion IsWhole numbers → WholeAt (slice_get numbers k)
whole_at [] k h = record { whole = refl; positive = omega (arith, ints); small = omega (arith, ints) }
whole_at (w ∷ numbers) zero h = record { whole = h.0.whole; positive = h.0.positive; small = h.0.small }
whole_at (w ∷ numbers) (suc k) h = whole_at numbers k h.1

within_is : (z : ℤ) → neg_ℤ (pos 9223372036854775807) ≤ℤ z → z ≤ℤ pos 9223372036854775807 → within_64_bits z ≡ Some z
within_is (pos n) low high =
    let small : nat_lt n (2 ^ 63) ≡ true = (let few : n < 9223372036854775808 = omega (arith, ints) in grind (arith, nat_tests)) in rw small refl
within_is (negsuc n) low high =
    let small : nat_lt n (2 ^ 63) ≡ true = (let few : n < 9223372036854775808 = omega (arith, ints) in grind (arith, nat_tests)) in rw small refl

module _ (numbers : List Written) (all : AllByRecursion IsWhole numbers) where
  at : (place : ℤ) → WholeAt (number_at numbers place)
  at (pos zero) = record { whole = refl; positive = omega (arith, ints); small = omega (arith, ints) }
  at (pos (suc n)) = whole_at numbers n all
  at (negsuc n) = whole_at numbers n all

  fit_at : (place : ℤ) → within_64_bits (digits_at numbers place) ≡ Some (digits_at numbers place)
  fit_at (pos n) =
      let w = at (pos n) in
      let p = w.positive in
      let s = w.small in
      within_is (digits_of (number_at numbers (pos n))) (omega (arith, ints)) s
  fit_at (negsuc n) =
      let w = at (negsuc n) in
      let p = w.positive in
      let s = w.small in
      within_is (neg_ℤ (digits_of (number_at numbers (negsuc n)))) (omega (arith, ints)) (omega (arith, ints))

  are_whole : AreWhole numbers
  are_whole = record { whole = λ place. (at place).whole; fit = fit_at }

  -- no number of ticks has a point
  no_point : (o : Option Written) → decimals_of o ≡ 0 → whole_fault o ≡ None
  no_point None h = refl
  no_point (Some w) h = rw h refl

  no_ticks : (place : ℤ) → ticks_fault numbers place ≡ None
  no_ticks place = no_point (number_at numbers place) (at place).whole

  no_expression : (e : ExprTree) → expression_fault numbers e ≡ None
  no_expression (Leaf (Num n)) = refl
  no_expression (Leaf (Truth holds)) = refl
  no_expression (Leaf (Read x d)) = no_ticks d
  no_expression (Leaf (Reduce r x l h)) = rw (no_ticks l, no_ticks h) refl
  no_expression (One op a) = no_expression a
  no_expression (Two op a b) = rw (no_expression a, no_expression b) refl
  no_expression (If c a b) = rw (no_expression c, no_expression a, no_expression b) refl

  no_span : (o : Option Span) → span_fault numbers o ≡ None
  no_span None = refl
  no_span (Some span) = rw (no_ticks span.start, no_ticks span.end) refl

  no_grid : (g : Option Every) → grid_fault numbers g ≡ None
  no_grid None = refl
  no_grid (Some every) = rw (no_ticks every.period, no_ticks every.offset) refl

  no_statement : (s : StatementTree) → statement_fault numbers s ≡ None
  no_statement (Input x) = refl
  no_statement (Let x e o g) = rw (no_expression e, no_span o, no_grid g) refl
  no_statement (Emit e o g) = rw (no_expression e, no_span (Some o), no_grid g) refl

  no_query : (places : List StatementTree) → query_fault numbers places ≡ None
  no_query [] = refl
  no_query (s ∷ places) = rw (no_statement s, no_query places) refl

-- scales
abbrev ones : List (List ℕ) → List ℕ
ones names = map (λ name. 1) names

scales_ones : (scales : ScalesValue) (names : List (List ℕ)) → HaveScaleOne scales names → scales_for scales names ≡ ones names
scales_ones scales [] h = refl
scales_ones scales (x ∷ names) h = let first = h.0 in rw first (ap (λ xs. 1 ∷ xs) (scales_ones scales names h.1))

length_ones : (names : List (List ℕ)) → length (ones names) ≡ length names
length_ones [] = refl
length_ones (x ∷ names) = ap suc (length_ones names)

get_ones : (names : List (List ℕ)) (k : ℕ) → k < length names → slice_get (input_quantities (ones names)) k ≡ Some (quantity.Number 1)
get_ones [] k h = absurd (omega arith)
get_ones (x ∷ names) zero h = refl
get_ones (x ∷ names) (suc k) h = get_ones names k (omega arith)

inputs_ones : (front inputs lets : List (List ℕ)) (all : List (List ℕ)) → all ≡ front ++ inputs
    → AllByRecursion (λ x. slice_get (input_quantities (ones all)) (place_of (all ++ lets) x) ≡ Some (quantity.Number 1)) inputs
inputs_ones front [] lets all e = tt
inputs_ones front (x ∷ inputs) lets all e =
    let whole : all ++ lets ≡ front ++ x ∷ (inputs ++ lets) = ap (λ xs. xs ++ lets) e ∙ append_assoc front (x ∷ inputs) lets in
    let below : place_of (all ++ lets) x < suc (length front) =
    subst (λ (xs : List (List ℕ)). place_of xs x < suc (length front)) (sym whole) (place_front front x (inputs ++ lets)) in
    let long : length all ≡ length front + suc (length inputs) = ap length e ∙ long_is front x inputs in (
      get_ones all (place_of (all ++ lets) x) (omega arith),
      inputs_ones (front ++ x ∷ []) inputs lets all (e ∙ sym (append_assoc front (x ∷ []) inputs)),
    )

-- what a text keeps of its query
small_query : (query : List StatementTree) → AllByRecursion IsOfText query → AllByRecursion IsSmall query
small_query [] h = tt
small_query (Input x ∷ query) h = (tt, small_query query h.1)
small_query (Let x e o g ∷ query) h = (h.0.0, small_query query h.1)
small_query (Emit e o g ∷ query) h = (h.0, small_query query h.1)

nodes_numbered : (names : List (List ℕ)) (e : ExprTree) → nodes (numbered names e) ≡ nodes e
nodes_numbered names (Leaf (Num n)) = refl
nodes_numbered names (Leaf (Truth b)) = refl
nodes_numbered names (Leaf (Read x offset)) = refl
nodes_numbered names (Leaf (Reduce r x from to)) = refl
nodes_numbered names (One op a) = omega (arith, nodes_numbered names a)
nodes_numbered names (Two op a b) = omega (arith, nodes_numbered names a, nodes_numbered names b)
nodes_numbered names (If c a b) = omega (arith, nodes_numbered names c, nodes_numbered names a, nodes_numbered names b)

not_large : (names : List (List ℕ)) (e : ExprTree) → nodes e ≤ 256 → nat_lt 256 (nodes (numbered names e)) ≡ false
not_large names e h = let n = nodes_numbered names e in grind (arith, nat_tests)

none_large : (names : List (List ℕ)) (query places : List StatementTree) (number : ℕ) → AllByRecursion IsSmall query
    → large_fault places number (definitions names query) ≡ None
none_large names [] places number h = refl
none_large names (Input x ∷ query) places number h = none_large names query places number h.1
none_large names (Let x e o g ∷ query) places number h = rw (not_large names e h.0) (none_large names query places (number + 1) h.1)
none_large names (Emit e o g ∷ query) places number h = rw (not_large names e h.0) (none_large names query places (number + 1) h.1)

units_length : (names : List (List ℕ)) (numbers : List Written) (places : List StatementTree) (defs : List Definition)
    → length (unit_definitions names numbers places defs) ≤ length defs
units_length names numbers [] defs = omega arith
units_length names numbers (Input x ∷ places) defs = units_length names numbers places defs
units_length names numbers (Let x e o g ∷ places) [] = omega arith
units_length names numbers (Let x e o g ∷ places) (def ∷ defs) = let n = units_length names numbers places defs in omega arith
units_length names numbers (Emit e o g ∷ places) [] = omega arith
units_length names numbers (Emit e o g ∷ places) (def ∷ defs) = let n = units_length names numbers places defs in omega arith

record Translation (query : List StatementTree) (units : List UnitDefinition) : Type 0 where
  quantities : List Quantity
  is : translated (ones (input_names query)) units ≡ Ok (record { defs = definitions (source_names query) query; quantities = quantities })

not_many : (m n : ℕ) → m + n ≤ 256 → nat_lt 256 (m + n) ≡ false
not_many m n h = grind (arith, nat_tests)

translated_ones : (numbers : List Written) → AllByRecursion IsWhole numbers → (query places : List StatementTree) → query_with numbers places ≡ query
    → IsQuery query → first_fault 1 [] query ≡ None
    → Translation query (unit_definitions (source_names query) numbers places (definitions (source_names query) query))
translated_ones numbers all query places same is none =
    let inputs = input_names query in
    let names = source_names query in
    let start : ScaledQuery = record { defs = []; quantities = input_quantities (ones inputs) } in
    let types : HaveTypes names [] start.quantities = record { each = λ x a h. absurd (cc h) } in
    let last = last_emits (statements is.tokens) query is.parsed.good in
    let small = small_query query (query-of_text query is) in
    let many : length inputs ≡ length start.quantities = sym (length_quantities (ones inputs) ∙ length_ones inputs) in
    let of = λ (q : List StatementTree). Done start (unit_definitions names numbers places (definitions names q)) (definitions names q) in
    let done : of query = done_by numbers (are_whole numbers all) names places query same (source_names-distinct query none) inputs start none types
    (inputs_ones [] inputs (let_names query) inputs refl) refl many last small in
    let units = unit_definitions names numbers places (definitions names query) in
    let long = units_length names numbers places (definitions names query) in
    let few = sources-few query is in
    let count = length_ones inputs in
    let enough : nat_lt 256 (length (ones inputs) + length units) ≡ false = not_many (length (ones inputs)) (length units) (omega arith) in
    record { quantities = done.quantities; is = rw enough done.is }
  where
    length_quantities : (xs : List ℕ) → length (input_quantities xs) ≡ length xs
    length_quantities [] = refl
    length_quantities (x ∷ xs) = ap suc (length_quantities xs)

    done_by : (numbers : List Written) → AreWhole numbers → (names : List (List ℕ)) (places query : List StatementTree) → query_with numbers places ≡ query
        → AreDistinct names → (front : List (List ℕ)) (start : ScaledQuery) → first_fault 1 [] query ≡ None → HaveTypes names [] start.quantities
        → AllByRecursion (λ x. slice_get start.quantities (place_of names x) ≡ Some (quantity.Number 1)) (input_names query)
        → names ≡ front ++ let_names query → length front ≡ length start.quantities → LastEmits query → AllByRecursion IsSmall query
        → Done start (unit_definitions names numbers places (definitions names query)) (definitions names query)
    done_by numbers whole names places query same distinct front start none types inputs is many last small =
        let P = λ (q : List StatementTree). first_fault 1 [] q ≡ None
        → AllByRecursion (λ x. slice_get start.quantities (place_of names x) ≡ Some (quantity.Number 1)) (input_names q)
        → names ≡ front ++ let_names q → LastEmits q → AllByRecursion IsSmall q
        → Done start (unit_definitions names numbers places (definitions names q)) (definitions names q) in
        let all : P (query_with numbers places) = λ n i e l s. all_done names numbers whole distinct places 1 [] start front n types i e many l s in
        subst P same all none inputs is last small

-- the answer for its tokens
answer_ones : (scales : ScalesValue) (numbers : List Written) → AllByRecursion IsWhole numbers → (query places : List StatementTree)
    → query_with numbers places ≡ query → IsQuery query → checked query ≡ Ok (core_of query) → HaveScaleOne scales (input_names query)
    → (quantities : List Quantity) × (query_in_units scales numbers query places ≡ Ok (record { query = query; core = core_of query; quantities = quantities }))
answer_ones scales numbers all query places same is check one =
    let none = no_check (first_fault 1 [] query) (core_of query) (core_of query) check in
    let t = translated_ones numbers all query places same is none in
    let small = small_query query (query-of_text query is) in
    let names = source_names query in
    let long = none_long (statements is.tokens) query 1 is.parsed.good (statements_sound is.tokens is.sound) in (
      t.quantities,
      rw (
        no_query numbers all places,
        check,
        scales_ones scales (input_names query) one,
        t.is,
        none_large names query query 0 small,
        statements_same names query,
        long,
      ) refl,
    )

pub whole_text : (scales : ScalesValue) (text : List ℕ) (q : List StatementTree) (core : CoreParts) → points_of text ≡ [] → IsQueryText text q
    → checked q ≡ Ok core → HaveScaleOne scales core.inputs
    → (quantities : List Quantity) × Reads scales text (Ok (record { query = q; core = core; quantities = quantities }))
whole_text scales text q core none is check one =
    let plain = plain_is 0 text none in
    let lexed : AreTokens 0 (without_points text) is.tokens = subst (λ (t : List ℕ). AreTokens 0 t is.tokens) (sym plain) is.lexed in
    let sounds : AreSound (kinds is.tokens) = sound-kinds is.tokens (sound is.lexed) in
    let n = noted_whole (record { numbers = []; taken = 0 }) is.tokens tt sounds in
    let numbers = n.all.numbers in
    let known : noted [] is.tokens ≡ Ok numbers = rw n.is refl in
    let there : noted (points_of text) is.tokens ≡ Ok numbers = rw none known in
    let same = counted_with [] is.tokens numbers known in
    let before = query_before numbers (counted 0 (kinds is.tokens)) q (subst (λ (ts : List Tok). IsQueryOf ts q) (sym same) is.parsed) in
    let read : IsQuery q = record { tokens = kinds is.tokens; sound = sounds; parsed = is.parsed } in
    let core_is = checked-core q core check in
    let whole : checked q ≡ Ok (core_of q) = check ∙ ap (λ (c : CoreParts). Ok c) (sym core_is) in
    let scale : HaveScaleOne scales (input_names q) = subst (λ (c : CoreParts). HaveScaleOne scales c.inputs) (sym core_is) one in
    let a = answer_ones scales numbers n.whole q before.places before.same read whole scale in
    let answer : Reads scales text (query_in_units scales numbers q before.places) =
    reading.tokens is.tokens lexed (reading.query numbers q before.places there is.parsed before.is) in (
      a.0,
      subst (λ (c : CoreParts). Reads scales text (Ok (record { query = q; core = c; quantities = a.0 }))) core_is
          (subst (λ (r : Result UnitParts UnitFault). Reads scales text r) a.1 answer),
    )
