-- What is read of a spelling is what is spelled, whatever comes after it.
use Rattle.std.proofs.Common.{◌≡◌, ℕ, suc, List, [], ◌∷◌, ◌++◌, length, Option, Some, None, refl, sym, ap, ◌∙◌, arith, append-nil, append_assoc, flat_map}
use Rattle.std.specs.Prelude.{codes, ⊤}
use Rattle.std.specs.Fmt.{decimal, signed_decimal}
use Rattle.std.specs.List.{AllByRecursion}
use Rattle.std.specs.Option.{ForSome}
use Rattle.tilt_checkpoint.proofs.Words.{count-again as number-again}
use Rattle.tilt_checkpoint.specs.Reading.{Read, times}
use Rattle.tilt_checkpoint.specs.Spelling.{time_text}
use Rattle.tilt_checkpoint.specs.Valid.{IsCell}
use Rattle.tilt_conventions.specs.Steps.{Kept}
use Rattle.tilt_conventions.specs.declared.turn.Reading.{Reading}
use Rattle.tilt_feed.specs.declared.edge.Edge.{Edge}
use Rattle.tilt_feed.specs.declared.open_row.OpenRow.{OpenRow}
use Rattle.tilt_live_state.proofs.Fields.{after_two, after_three, after_four, count-again, field-again, field_shape, flag-again, given-again}
use Rattle.tilt_live_state.specs.Reading.{count_field, edge_at, open_row_of}
use Rattle.tilt_live_state.specs.Spelling.{field, flag_text, line, open_start, open_value}
use Rattle.tilt_live_state.specs.Valid.{IsCount, IsEdge, IsOpenRow}
use Rattle.tilt_reading_feed.specs.Kept.{BareKept}
use Rattle.tilt_reading_lines.specs.Rules.{Layout, Values, Named, OfInputs}
use Rattle.tilt_reading_state.specs.Reading.{header_at, header_by, input_at, kept_at, latest_at, latest_of, many_at, readings_at, values_at, values_by, with_one}
use Rattle.tilt_reading_state.specs.Spelling.{edge_fields, header_lines, input_line, latest_fields, latest_tick, latest_value, layout_lines, place_line, readings_lines, spelled_kept, values_lines}
use Rattle.tilt_reading_state.specs.Valid.{ArePlaces, HasNumbers, IsInRange, IsLayout, IsReading}
use Rattle.tilt_reading_text.specs.Kept.{BareText}
use Rattle.tilt_text.proofs.Lacks.{Lacks}
use Rattle.tilt_text.proofs.Words.{until-front}
use Rattle.tilt_text.specs.Cut.{until_at}
use Rattle.tilt_text.specs.Step.{◌>>=◌}

-- items, one after another

module _ {A : Type 0} (one : List ℕ → Read A) (item : A → List ℕ) (P : A → Type 0)
    (each : (x : A) → P x → (rest : List ℕ) → one (item x ++ rest) ≡ Some (x, rest)) where
  more-again : (xs before : List A) (rest : List ℕ) → AllByRecursion P xs
      → times (with_one one) (length xs) (before, flat_map item xs ++ rest) ≡ Some (before ++ xs, rest)
  more-again [] before rest are = ap (λ (b : List A). Some (b, rest)) (sym (append-nil before))
  more-again (x ∷ xs) before rest are =
      ap (λ (t : List ℕ). times (with_one one) (suc (length xs)) (before, t)) (append_assoc (item x) (flat_map item xs) rest)
      ∙ ap (λ o. (o >>= λ v. Some (before ++ v.0 ∷ [], v.1)) >>= times (with_one one) (length xs)) (each x are.0 (flat_map item xs ++ rest))
      ∙ more-again xs (before ++ x ∷ []) rest are.1
      ∙ ap (λ (b : List A). Some (b, rest)) (append_assoc before (x ∷ []) xs)

  pub many-again : (xs : List A) (rest : List ℕ) → AllByRecursion P xs → many_at one (length xs) (flat_map item xs ++ rest) ≡ Some (xs, rest)
  many-again xs rest are = more-again xs [] rest are

-- what follows a word

word-again : {A : Type 0} (next : List ℕ → List ℕ → Read A) (mark : ℕ) (word text rest : List ℕ) → Lacks 32 word
    → (until_at 32 (field mark word text ++ rest) >>= λ w. next w.0 w.1) ≡ next word (text ++ mark ∷ rest)
word-again next mark word text rest plain =
    ap (λ (t : List ℕ). until_at 32 t >>= λ w. next w.0 w.1) (field_shape mark word text rest)
    ∙ ap (λ o. o >>= λ w. next w.0 w.1) (until-front 32 word (text ++ mark ∷ rest) plain)

-- columns

place-again : (place : ℕ) → IsCount place → (rest : List ℕ) → count_field 10 (place_line place ++ rest) ≡ Some (place, rest)
place-again place few rest = count-again 10 (omega arith) (codes "place") refl place few rest

-- there are fewer places than 2 ^ 63
abbrev pub FewPlaces : Values → Type 0
FewPlaces (Named name value) = ⊤
FewPlaces (OfInputs places) = IsCount (length places)

values-again : (values : Values) → ArePlaces values → FewPlaces values → (rest : List ℕ)
    → values_at (values_lines values ++ rest) ≡ Some (values, rest)
values-again (Named name value) are few rest =
    let behind = line (codes "value") (decimal value) in
    ap values_at (after_two (field 32 (codes "named") (decimal name)) behind rest)
    ∙ word-again values_by 32 (codes "named") (decimal name) (behind ++ rest) refl
    ∙ rw (
      number-again 32 (omega arith) name are.0 (behind ++ rest),
      count-again 10 (omega arith) (codes "value") refl value are.1 rest,
    ) refl
values-again (OfInputs places) are few rest =
    let behind = flat_map place_line places in
    ap values_at (after_two (line (codes "places") (decimal (length places))) behind rest)
    ∙ word-again values_by 10 (codes "places") (decimal (length places)) (behind ++ rest) refl
    ∙ rw (
      number-again 10 (omega arith) (length places) few (behind ++ rest),
      many-again (count_field 10) place_line IsCount place-again places rest are,
    ) refl

layout-again : (layout : Layout) → IsLayout layout → FewPlaces layout.values → (rest : List ℕ)
    → header_at (layout_lines layout ++ rest) ≡ Some (Some layout, rest)
layout-again layout is few rest =
    let time = field 32 (codes "time") (decimal layout.time) in
    let values = values_lines layout.values in
    ap header_at (after_three (field 32 (codes "columns") (decimal layout.count)) time values rest)
    ∙ word-again header_by 32 (codes "columns") (decimal layout.count) (time ++ (values ++ rest)) refl
    ∙ rw (
      number-again 32 (omega arith) layout.count is.count (time ++ (values ++ rest)),
      count-again 32 (omega arith) (codes "time") refl layout.time is.time (values ++ rest),
      values-again layout.values is.values few rest,
    ) refl

header-again : (o : Option Layout) → ForSome o IsLayout → ForSome o (λ layout. FewPlaces layout.values) → (rest : List ℕ)
    → header_at (header_lines o ++ rest) ≡ Some (o, rest)
header-again None is few rest = refl
header-again (Some layout) is few rest = layout-again layout (is layout refl) (few layout refl) rest

-- inputs

start_fits : (o : Option OpenRow) → ForSome o IsOpenRow → IsCell (open_start o)
start_fits None is = tt
start_fits (Some row) is = (is row refl).start

value_fits : (o : Option OpenRow) → ForSome o IsOpenRow → IsCell (open_value o)
value_fits None is = tt
value_fits (Some row) is = (is row refl).value

open_again : (o : Option OpenRow) → open_row_of (open_start o) (open_value o) ≡ o
open_again None = refl
open_again (Some row) = refl

edge-again : (edge : Edge) → IsEdge edge → (rest : List ℕ) → edge_at (edge_fields edge ++ rest) ≡ Some (edge, rest)
edge-again edge is rest =
    let watermark = field 32 (codes "watermark") (signed_decimal edge.watermark) in
    let start = field 32 (codes "open") (time_text (open_start edge.open_row)) in
    let value = field 32 (codes "value") (time_text (open_value edge.open_row)) in
    ap edge_at (after_three watermark start value rest)
    ∙ rw (
      given-again 32 (omega arith) (codes "watermark") refl edge.watermark is.watermark (start ++ (value ++ rest)),
      field-again 32 (omega arith) (codes "open") refl (open_start edge.open_row) (start_fits edge.open_row is.open_row) (value ++ rest),
      field-again 32 (omega arith) (codes "value") refl (open_value edge.open_row) (value_fits edge.open_row is.open_row) rest,
      open_again edge.open_row,
    ) refl

tick_fits : (o : Option Reading) → ForSome o IsReading → IsCell (latest_tick o)
tick_fits None is = tt
tick_fits (Some reading) is = (is reading refl).tick

reading_fits : (o : Option Reading) → ForSome o IsReading → IsCell (latest_value o)
reading_fits None is = tt
reading_fits (Some reading) is = (is reading refl).value

reading_again : (o : Option Reading) → latest_of (latest_tick o) (latest_value o) ≡ o
reading_again None = refl
reading_again (Some reading) = refl

latest-again : (o : Option Reading) → ForSome o IsReading → (rest : List ℕ) → latest_at (latest_fields o ++ rest) ≡ Some (o, rest)
latest-again o is rest =
    let tick = field 32 (codes "latest") (time_text (latest_tick o)) in
    let value = field 32 (codes "reading") (time_text (latest_value o)) in
    ap latest_at (after_two tick value rest)
    ∙ rw (
      field-again 32 (omega arith) (codes "latest") refl (latest_tick o) (tick_fits o is) (value ++ rest),
      field-again 32 (omega arith) (codes "reading") refl (latest_value o) (reading_fits o is) rest,
      reading_again o,
    ) refl

input-again : (kept : Kept) → HasNumbers kept → (rest : List ℕ) → input_at (input_line kept ++ rest) ≡ Some (kept, rest)
input-again kept is rest =
    let edge = edge_fields kept.edge in
    let mark = field 32 (codes "mark") (signed_decimal kept.mark) in
    let latest = latest_fields kept.latest in
    let skipped = line (codes "skipped") (decimal kept.skipped) in
    ap input_at (after_four edge mark latest skipped rest)
    ∙ rw (
      edge-again kept.edge is.edge (mark ++ (latest ++ (skipped ++ rest))),
      given-again 32 (omega arith) (codes "mark") refl kept.mark is.mark (latest ++ (skipped ++ rest)),
      latest-again kept.latest is.latest (skipped ++ rest),
      count-again 10 (omega arith) (codes "skipped") refl kept.skipped is.skipped rest,
    ) refl

readings-again : (readings : BareKept) → AllByRecursion HasNumbers readings.inputs → IsCount (length readings.inputs) → (rest : List ℕ)
    → readings_at (readings_lines readings ++ rest) ≡ Some (readings, rest)
readings-again readings are few rest =
    let finished = line (codes "finished") (flag_text readings.finished) in
    let count = line (codes "inputs") (decimal (length readings.inputs)) in
    let inputs = flat_map input_line readings.inputs in
    ap readings_at (after_three finished count inputs rest)
    ∙ rw (
      flag-again readings.finished (count ++ (inputs ++ rest)),
      count-again 10 (omega arith) (codes "inputs") refl (length readings.inputs) few (inputs ++ rest),
      many-again input_at input_line HasNumbers input-again readings.inputs rest are,
    ) refl

-- the whole

-- there are fewer inputs and places than 2 ^ 63
pub record AreFew (kept : BareText) : Type 0 where
  pub places : ForSome kept.layout (λ layout. FewPlaces layout.values)
  pub inputs : IsCount (length kept.readings.inputs)

pub kept-again : (kept : BareText) → IsInRange kept → AreFew kept → (rest : List ℕ) → kept_at (spelled_kept kept ++ rest) ≡ Some (kept, rest)
kept-again kept is few rest =
    ap kept_at (after_two (header_lines kept.layout) (readings_lines kept.readings) rest)
    ∙ rw (
      header-again kept.layout is.layout few.places (readings_lines kept.readings ++ rest),
      readings-again kept.readings is.inputs few.inputs rest,
    ) refl
