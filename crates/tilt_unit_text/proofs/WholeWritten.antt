-- What is given of a query over whole numbers: some text reads as it, and it is well formed.
use Rattle.std.proofs.Common.{◌≡◌, ℕ, zero, suc, ◌+◌, ◌≤◌, ◌<◌, nat_lt, ℤ, pos, negsuc, Bool, true, false, if◌then◌else◌, List, [], ◌∷◌, ◌++◌, length, Option, Some, None}
use Rattle.std.proofs.Common.{Ok, refl, sym, ap, ◌∙◌, subst, arith}
use Rattle.std.specs.List.{AllByRecursion, slice_get}
use Rattle.std.specs.Option.{option_or}
use Rattle.std.proofs.lemmas.Bool.Decides.{nat_tests}
use Rattle.std.proofs.lemmas.List.{length-map}
use Rattle.tilt_core.specs.Core.{CoreParts}
use Rattle.tilt_input_scales.proofs.Named.{named_is}
use Rattle.tilt_input_scales.specs.Scales.{AreScales, IsInputScale, ScalesValue, scale_named}
use Rattle.tilt_lexer.proofs.Sound.{sound}
use Rattle.tilt_syntax.proofs.Parsing.{sound-kinds}
use Rattle.tilt_syntax.specs.Query.{AreSound, IsQuery, kinds, statements}
use Rattle.tilt_syntax.specs.Tree.{StatementTree}
use Rattle.tilt_types.proofs.CheckedCore.{checked-core}
use Rattle.tilt_types.specs.Checked.{checked, core_of, source_names}
use Rattle.tilt_types.specs.WellFormed.{first_fault}
use Rattle.tilt_units.specs.Scale.{IsScale}
use Rattle.tilt_units.specs.Translation.{ScaledQuery, translated}
use Rattle.tilt_unit_text.proofs.Answers.{one_reading, placed_same}
use Rattle.tilt_unit_text.proofs.BesideQueries.{AreBeside, whole_checked, whole_is_query}
use Rattle.tilt_unit_text.proofs.Names.{last_emits, no_check}
use Rattle.tilt_unit_text.proofs.Numbered.{noted_written}
use Rattle.tilt_unit_text.proofs.QueriesBeside.{translation_beside}
use Rattle.tilt_unit_text.proofs.SaidKept.{is_said, made_from}
use Rattle.tilt_unit_text.proofs.ScaledBeside.{HaveFew}
use Rattle.tilt_unit_text.specs.Named.{whole_statements}
use Rattle.tilt_unit_text.specs.Numbers.{IsWritten}
use Rattle.tilt_unit_text.specs.Places.{decimals_of, number_at, query_with}
use Rattle.tilt_unit_text.specs.Points.{points_of}
use Rattle.tilt_unit_text.specs.Reading.{Reads, query, tokens}
use Rattle.tilt_unit_text.specs.Size.{AreShort, long_fault, statement_size}
use Rattle.tilt_unit_text.specs.Units.{UnitParts, large_fault, query_in_units, scales_for, unit_definitions}
use Rattle.tilt_unit_text.specs.declared.fault.UnitFault.{UnitFault}
use Rattle.tilt_unit_text.specs.declared.written.Written.{Written}

-- no statement is too long
short_by : (is : Bool) (k : ℕ) (f : UnitFault) (rest : Option UnitFault) → nat_lt 256 k ≡ is → (if is then Some f else rest) ≡ None → (k ≤ 256) × (rest ≡ None)
short_by true k f rest e h = absurd (cc h)
short_by false k f rest e h = let few : k ≤ 256 = grind (arith, nat_tests) in (few, h)

pub none_long : (n : ℕ) (q : List StatementTree) → long_fault n q ≡ None → AreShort q
none_long n [] h = tt
none_long n (s ∷ q) h =
    let p = short_by (nat_lt 256 (statement_size s)) (statement_size s) _ (long_fault (n + 1) q) refl h in
    (p.0, none_long (n + 1) q p.1)

pub neither_fault : (f g : Option UnitFault) → option_or f g ≡ None → (f ≡ None) × (g ≡ None)
neither_fault None g h = (refl, h)
neither_fault (Some f) g h = absurd (cc h)

pub short_whole : (q whole : List StatementTree) (f : Option UnitFault) → option_or f (long_fault 1 whole) ≡ None → AreShort whole
short_whole q whole f h = none_long 1 whole (neither_fault f (long_fault 1 whole) h).1

-- at most 18 digits come after each point
few_at : (numbers : List Written) (k : ℕ) → AllByRecursion IsWritten numbers → decimals_of (slice_get numbers k) ≤ 18
few_at [] k h = omega arith
few_at (w ∷ numbers) zero h = h.0.few
few_at (w ∷ numbers) (suc k) h = few_at numbers k h.1

have_few : (numbers : List Written) → AllByRecursion IsWritten numbers → HaveFew numbers
have_few numbers h = record { few = few h }
  where
    few : AllByRecursion IsWritten numbers → (place : ℤ) → decimals_of (number_at numbers place) ≤ 18
    few h (pos zero) = omega arith
    few h (pos (suc n)) = few_at numbers n h
    few h (negsuc n) = few_at numbers n h

-- the scales of inputs
pub scales_length : (scales : ScalesValue) (names : List (List ℕ)) → length (scales_for scales names) ≡ length names
scales_length scales names = length-map names (scale_named scales)

is_scale : (scale : ℕ) → IsInputScale scale → IsScale scale
is_scale scale h = let small = h.small in record { positive = h.positive; small = omega arith }

scales_are : (scales : ScalesValue) (names : List (List ℕ)) → AreScales scales → AllByRecursion IsScale (scales_for scales names)
scales_are scales [] h = tt
scales_are scales (name ∷ names) h = (is_scale (scale_named scales name) (named_is scales name h), scales_are scales names h)

small_scales : (parts : List ℕ) → AllByRecursion IsScale parts → AllByRecursion (λ s. s < 9223372036854775808) parts
small_scales [] h = tt
small_scales (s ∷ parts) h = let small = h.0.small in (omega (arith, small), small_scales parts h.1)

-- the definitions of a query are beside those over whole numbers
pub whole_beside : (numbers : List Written) (q places : List StatementTree) (core : CoreParts) (parts : List ℕ) (final : ScaledQuery)
    → AllByRecursion IsWritten numbers → query_with numbers places ≡ q → checked q ≡ Ok core → AllByRecursion IsScale parts → length parts ≡ length core.inputs
    → translated parts (unit_definitions (core.inputs ++ core.names) numbers places core.defs) ≡ Ok final → IsQuery q
    → AreBeside (source_names q) [] q final.defs
whole_beside numbers q places core parts final written placed check scales many made is =
    subst (λ (p : List StatementTree). checked p ≡ Ok core → IsQuery p → AreBeside (source_names p) [] p final.defs) placed base check is
  where
    base : checked (query_with numbers places) ≡ Ok core → IsQuery (query_with numbers places)
        → AreBeside (source_names (query_with numbers places)) [] (query_with numbers places) final.defs
    base check is =
        let p = query_with numbers places in
        let same : core ≡ core_of p = sym (checked-core p core check) in
        let none = no_check (first_fault 1 [] p) (core_of p) core check in
        let known = subst (λ (c : CoreParts). translated parts (unit_definitions (c.inputs ++ c.names) numbers places c.defs) ≡ Ok final) same made in
        translation_beside numbers places parts final (have_few numbers written) none (last_emits (statements is.tokens) p is.parsed.good)
        (small_scales parts scales) (many ∙ ap (λ (c : CoreParts). length c.inputs) same) known

pub whole_written : (numbers : List Written) (q places : List StatementTree) (core : CoreParts) (parts : List ℕ) (final : ScaledQuery)
    → AllByRecursion IsWritten numbers → query_with numbers places ≡ q → checked q ≡ Ok core → AllByRecursion IsScale parts → length parts ≡ length core.inputs
    → translated parts (unit_definitions (core.inputs ++ core.names) numbers places core.defs) ≡ Ok final → IsQuery q → AreShort (whole_statements q final.defs)
    → IsQuery (whole_statements q final.defs)
whole_written numbers q places core parts final written placed check scales many made is short =
    let b = whole_beside numbers q places core parts final written placed check scales many made is in
    whole_is_query (source_names q) q final.defs is b short

-- what a text is over whole numbers
pub whole_law : (scales : ScalesValue) (text : List ℕ) (parts : UnitParts) → AreScales scales
    → Reads scales text (Ok parts) → IsQuery parts.query × (checked parts.query ≡ Ok parts.core)
whole_law scales text parts all r =
    let s = (is_said scales text parts r).1 in
    let answer : Reads scales text (query_in_units scales s.numbers s.query s.places) =
    tokens s.tokens s.are (query s.numbers s.query s.places s.written s.parsed s.placed) in
    let m = made_from scales s.numbers s.query s.places parts (one_reading answer r) in
    let sounds : AreSound (kinds s.tokens) = sound-kinds s.tokens (sound s.are) in
    let written = noted_written (points_of text) s.tokens s.numbers sounds s.written in
    let same = placed_same (points_of text) s.tokens s.numbers s.query s.places s.written s.parsed s.placed in
    let is : IsQuery s.query = record { tokens = kinds s.tokens; sound = sounds; parsed = s.parsed } in
    let given = scales_for scales m.core.inputs in
    let many = scales_length scales m.core.inputs in
    let b = whole_beside s.numbers s.query s.places m.core given m.made written same m.well_formed (scales_are scales m.core.inputs all) many m.is is in
    let short = short_whole s.query (whole_statements s.query m.made.defs) (large_fault s.query 0 m.made.defs) m.clear in
    let none = no_check (first_fault 1 [] s.query) (core_of s.query) m.core m.well_formed in
    let core = checked-core s.query m.core m.well_formed in
    let check = whole_checked s.query m.made.defs b none
    ∙ ap (λ (c : CoreParts). Ok (record { inputs = c.inputs; names = c.names; defs = m.made.defs })) core in
    subst (λ (p : UnitParts). IsQuery p.query × (checked p.query ≡ Ok p.core)) m.parts_are
    (whole_is_query (source_names s.query) s.query m.made.defs is b short, check)
