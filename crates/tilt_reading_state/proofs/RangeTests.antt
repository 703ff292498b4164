-- Tests of the numbers of what is kept, from a test to its fact and back.
use Rattle.std.proofs.Common.{◌≡◌, ℕ, ◌^◌, ℤ, pos, negsuc, Bool, true, ◌&&◌, List, [], ◌∷◌, Option, None, Some, FitsSigned, w64, refl}
use Rattle.std.specs.List.{AllByRecursion, list_all}
use Rattle.std.specs.Option.{ForSome}
use Rattle.std.proofs.lemmas.Bool.{and_parts, and_from}
use Rattle.std.proofs.lemmas.Bool.Decides.{Decides-ltb}
use Rattle.tilt_checkpoint.specs.Valid.{IsCell}
use Rattle.tilt_conventions.specs.Steps.{Kept}
use Rattle.tilt_conventions.specs.declared.turn.Reading.{Reading}
use Rattle.tilt_feed.specs.declared.open_row.OpenRow.{OpenRow}
use Rattle.tilt_live_state.specs.Valid.{IsCount, IsOpenRow}
use Rattle.tilt_reading_lines.specs.Rules.{Layout, Values, Named, OfInputs}
use Rattle.tilt_reading_state.proofs.Ranges.{for_none, for_some}
use Rattle.tilt_reading_state.specs.Range.{are_places, has_numbers, is_cell, is_count, is_header, is_in_range, is_layout, is_number, is_open, is_reading}
use Rattle.tilt_reading_state.specs.Valid.{ArePlaces, HasNumbers, IsInRange, IsLayout, IsReading}
use Rattle.tilt_reading_text.specs.Kept.{BareText}

-- a test and its fact
abbrev Tests : Bool → Type 0 → Type 0
Tests b A = (b ≡ true → A) × (A → b ≡ true)

both : (a b : Bool) (A B : Type 0) → Tests a A → Tests b B → Tests (a && b) (A × B)
both a b A B x y = (λ h. let p = and_parts a b h in (x.0 p.0, y.0 p.1), λ p. and_from a b (x.1 p.0) (y.1 p.1))

all_tests : {X : Type 0} (p : X → Bool) (P : X → Type 0) (xs : List X) → ((x : X) → Tests (p x) (P x)) → Tests (list_all p xs) (AllByRecursion P xs)
all_tests p P [] each = (λ h. tt, λ h. refl)
all_tests p P (x ∷ xs) each = both (p x) (list_all p xs) (P x) (AllByRecursion P xs) (each x) (all_tests p P xs each)

number-tests : (z : ℤ) → Tests (is_number z) (FitsSigned w64 z)
number-tests (pos n) = (λ h. record { sfits = (Decides-ltb n (2 ^ 63)).0 h }, λ is. (Decides-ltb n (2 ^ 63)).1 is.sfits)
number-tests (negsuc n) = (λ h. record { sfits = (Decides-ltb n (2 ^ 63)).0 h }, λ is. (Decides-ltb n (2 ^ 63)).1 is.sfits)

cell-tests : (v : Option ℤ) → Tests (is_cell v) (IsCell v)
cell-tests None = (λ h. tt, λ h. refl)
cell-tests (Some z) = number-tests z

count-tests : (n : ℕ) → Tests (is_count n) (IsCount n)
count-tests n = ((Decides-ltb n (2 ^ 63)).0, (Decides-ltb n (2 ^ 63)).1)

places-tests : (values : Values) → Tests (are_places values) (ArePlaces values)
places-tests (Named name value) = both (is_count name) (is_count value) (IsCount name) (IsCount value) (count-tests name) (count-tests value)
places-tests (OfInputs places) = all_tests is_count IsCount places count-tests

layout-tests : (layout : Layout) → Tests (is_layout layout) (IsLayout layout)
layout-tests layout =
    let a = both _ _ _ _ (count-tests layout.count) (count-tests layout.time) in
    let t = both _ _ _ _ a (places-tests layout.values) in (
      λ h. let p = t.0 h in record { count = p.0.0; time = p.0.1; values = p.1 },
      λ is. t.1 ((is.count, is.time), is.values),
    )

header-tests : (o : Option Layout) → Tests (is_header o) (ForSome o IsLayout)
header-tests None = (λ h. for_none IsLayout, λ h. refl)
header-tests (Some layout) = (λ h. for_some IsLayout layout ((layout-tests layout).0 h), λ is. (layout-tests layout).1 (is layout refl))

open-tests : (row : Option OpenRow) → Tests (is_open row) (ForSome row IsOpenRow)
open-tests None = (λ h. for_none IsOpenRow, λ h. refl)
open-tests (Some row) =
    let t = both _ _ _ _ (number-tests row.start) (number-tests row.value) in (
      λ h. for_some IsOpenRow row (let p = t.0 h in record { start = p.0; value = p.1 }),
      λ is. let it = is row refl in t.1 (it.start, it.value),
    )

reading-tests : (latest : Option Reading) → Tests (is_reading latest) (ForSome latest IsReading)
reading-tests None = (λ h. for_none IsReading, λ h. refl)
reading-tests (Some reading) =
    let t = both _ _ _ _ (number-tests reading.tick) (cell-tests reading.value) in (
      λ h. for_some IsReading reading (let p = t.0 h in record { tick = p.0; value = p.1 }),
      λ is. let it = is reading refl in t.1 (it.tick, it.value),
    )

input-tests : (kept : Kept) → Tests (has_numbers kept) (HasNumbers kept)
input-tests kept =
    let a = both _ _ _ _ (number-tests kept.edge.watermark) (open-tests kept.edge.open_row) in
    let b = both _ _ _ _ a (number-tests kept.mark) in
    let c = both _ _ _ _ b (reading-tests kept.latest) in
    let t = both _ _ _ _ c (count-tests kept.skipped) in (
      λ h. let p = t.0 h in
          record { edge = record { watermark = p.0.0.0.0; open_row = p.0.0.0.1 }; mark = p.0.0.1; latest = p.0.1; skipped = p.1 },
      λ is. t.1 ((((is.edge.watermark, is.edge.open_row), is.mark), is.latest), is.skipped),
    )

pub range-tests : (kept : BareText) → Tests (is_in_range kept) (IsInRange kept)
range-tests kept =
    let t = both _ _ _ _ (header-tests kept.layout) (all_tests has_numbers HasNumbers kept.readings.inputs input-tests) in
    (λ h. let p = t.0 h in record { layout = p.0; inputs = p.1 }, λ is. t.1 (is.layout, is.inputs))
