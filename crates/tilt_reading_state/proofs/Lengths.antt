-- There are no more inputs and places than bytes.
use Rattle.std.proofs.Common.{◌≡◌, ℕ, ◌<◌, ◌≤◌, ◌^◌, List, [], ◌∷◌, ◌++◌, length, Option, Some, None, ap, subst, arith, length-append, flat_map}
use Rattle.std.specs.Prelude.{codes}
use Rattle.std.specs.Fmt.{decimal, signed_decimal}
use Rattle.std.specs.Option.{ForSome}
use Rattle.std.proofs.lemmas.Option.{none-some, same_Some}
use Rattle.tilt_conventions.specs.Steps.{Kept}
use Rattle.tilt_live_state.specs.Spelling.{field, flag_text, line}
use Rattle.tilt_reading_lines.specs.Rules.{Layout, Values, Named, OfInputs}
use Rattle.tilt_reading_state.proofs.Again.{AreFew, FewPlaces}
use Rattle.tilt_reading_state.specs.Spelling.{edge_fields, header_lines, input_line, latest_fields, layout_lines, place_line, readings_lines, spelled_kept, values_lines}
use Rattle.tilt_reading_text.specs.Kept.{BareText}

many_fewer : {A : Type 0} (item : A → List ℕ) → ((x : A) → 1 ≤ length (item x)) → (xs : List A) → length xs ≤ length (flat_map item xs)
many_fewer item some [] = omega arith
many_fewer item some (x ∷ xs) = omega (arith, some x, many_fewer item some xs, length-append (item x) (flat_map item xs))

field_some : (mark : ℕ) (word text : List ℕ) → 1 ≤ length (field mark word text)
field_some mark word text = omega (arith, length-append word (32 ∷ (text ++ mark ∷ [])))

place_some : (place : ℕ) → 1 ≤ length (place_line place)
place_some place = field_some 10 (codes "place") (decimal place)

input_some : (kept : Kept) → 1 ≤ length (input_line kept)
input_some kept =
    let mark = field 32 (codes "mark") (signed_decimal kept.mark) in
    let behind = latest_fields kept.latest ++ line (codes "skipped") (decimal kept.skipped) in
    omega (arith, length-append (edge_fields kept.edge) (mark ++ behind), length-append mark behind, field_some 32 (codes "mark") (signed_decimal kept.mark))

inputs_fewer : (kept : BareText) → length kept.readings.inputs ≤ length (spelled_kept kept)
inputs_fewer kept =
    let inputs = kept.readings.inputs in
    let finished = line (codes "finished") (flag_text kept.readings.finished) in
    let count = line (codes "inputs") (decimal (length inputs)) in
    let lines = flat_map input_line inputs in
    omega (
      arith,
      many_fewer input_line input_some inputs,
      length-append (header_lines kept.layout) (readings_lines kept.readings),
      length-append finished (count ++ lines),
      length-append count lines,
    )

values_few : (values : Values) → length (values_lines values) < 2 ^ 63 → FewPlaces values
values_few (Named name value) small = tt
values_few (OfInputs places) small =
    let lines = flat_map place_line places in
    omega (arith, many_fewer place_line place_some places, length-append (line (codes "places") (decimal (length places))) lines)

layout_few : (layout : Layout) → length (layout_lines layout) < 2 ^ 63 → FewPlaces layout.values
layout_few layout small =
    let time = field 32 (codes "time") (decimal layout.time) in
    let values = values_lines layout.values in
    values_few layout.values (omega (arith, length-append (field 32 (codes "columns") (decimal layout.count)) (time ++ values), length-append time values))

header_few : (o : Option Layout) → length (header_lines o) < 2 ^ 63 → ForSome o (λ layout. FewPlaces layout.values)
header_few None small = λ layout e. absurd (none-some layout e)
header_few (Some layout) small = λ other e. subst (λ (l : Layout). FewPlaces l.values) (same_Some layout other e) (layout_few layout small)

pub are_few : (kept : BareText) (bytes rest : List ℕ) → bytes ≡ spelled_kept kept ++ rest → length bytes < 2 ^ 63 → AreFew kept
are_few kept bytes rest e small =
    let split = length-append (spelled_kept kept) rest in
    let same = ap (λ (t : List ℕ). length t) e in
    record {
      places = header_few kept.layout (omega (arith, split, same, length-append (header_lines kept.layout) (readings_lines kept.readings)));
      inputs = omega (arith, split, same, inputs_fewer kept);
    }
