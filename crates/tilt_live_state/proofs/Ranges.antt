-- Tests of the numbers of a state, from a test to its fact and back.
use Rattle.std.proofs.Common.{◌≡◌, ℕ, ◌^◌, ℤ, pos, negsuc, nat_lt, Bool, true, ◌&&◌, List, [], ◌∷◌, Option, None, Some, FitsSigned, w64, refl, subst}
use Rattle.std.specs.List.{AllByRecursion, list_all}
use Rattle.std.specs.Option.{ForSome}
use Rattle.std.proofs.lemmas.Bool.{and_parts, and_from}
use Rattle.std.proofs.lemmas.Bool.Decides.{Decides-ltb}
use Rattle.std.proofs.lemmas.Option.{none-some, same_Some}
use Rattle.tilt_checkpoint.specs.Valid.{IsCell}
use Rattle.tilt_feed.specs.declared.open_row.OpenRow.{OpenRow}
use Rattle.tilt_feed.specs.declared.update.Update.{Update}
use Rattle.tilt_feed.specs.declared.update.Update.TheVariants.{Row, Value, NoValue, KnownUpTo}
use Rattle.tilt_live_state.specs.Range.{has_counts, has_numbers, is_cell, is_in_range, is_number, is_open, is_ticks, is_update}
use Rattle.tilt_live_state.specs.State.{InputParts, LiveStateParts}
use Rattle.tilt_live_state.specs.Valid.{HasNumbers, IsCount, IsInRange, IsOpenRow, IsProgress, IsUpdate}
use Rattle.tilt_live_state.specs.declared.progress.Progress.{Progress}
use Rattle.tilt_stream.specs.Snap.{Snapshot}

-- a test and its fact
abbrev Tests : Bool → Type 0 → Type 0
Tests b A = (b ≡ true → A) × (A → b ≡ true)

both : (a b : Bool) (A B : Type 0) → Tests a A → Tests b B → Tests (a && b) (A × B)
both a b A B x y = (λ h. let p = and_parts a b h in (x.0 p.0, y.0 p.1), λ p. and_from a b (x.1 p.0) (y.1 p.1))

all_tests : {X : Type 0} (p : X → Bool) (P : X → Type 0) (xs : List X) → ((x : X) → Tests (p x) (P x)) → Tests (list_all p xs) (AllByRecursion P xs)
all_tests p P [] each = (λ h. tt, λ h. refl)
all_tests p P (x ∷ xs) each = both (p x) (list_all p xs) (P x) (AllByRecursion P xs) (each x) (all_tests p P xs each)

pub number-tests : (z : ℤ) → Tests (is_number z) (FitsSigned w64 z)
number-tests (pos n) = (λ h. record { sfits = (Decides-ltb n (2 ^ 63)).0 h }, λ is. (Decides-ltb n (2 ^ 63)).1 is.sfits)
number-tests (negsuc n) = (λ h. record { sfits = (Decides-ltb n (2 ^ 63)).0 h }, λ is. (Decides-ltb n (2 ^ 63)).1 is.sfits)

cell-tests : (v : Option ℤ) → Tests (is_cell v) (IsCell v)
cell-tests None = (λ h. tt, λ h. refl)
cell-tests (Some z) = number-tests z

count-tests : (n : ℕ) → Tests (nat_lt n (2 ^ 63)) (IsCount n)
count-tests n = ((Decides-ltb n (2 ^ 63)).0, (Decides-ltb n (2 ^ 63)).1)

ticks-tests : (t : Option ℕ) → Tests (is_ticks t) (ForSome t IsCount)
ticks-tests None = (λ h n is. absurd (none-some n is), λ h. refl)
ticks-tests (Some n) = (λ h m is. subst IsCount (same_Some n m is) ((count-tests n).0 h), λ h. (count-tests n).1 (h n refl))

open-tests : (row : Option OpenRow) → Tests (is_open row) (ForSome row IsOpenRow)
open-tests None = (λ h r is. absurd (none-some r is), λ h. refl)
open-tests (Some row) = (
  λ h r is. subst IsOpenRow (same_Some row r is) (let p = and_parts (is_number row.start) (is_number row.value) h in
      record { start = (number-tests row.start).0 p.0; value = (number-tests row.value).0 p.1 }),
  λ h. and_from (is_number row.start) (is_number row.value) ((number-tests row.start).1 (h row refl).start) ((number-tests row.value).1 (h row refl).value),
)

update-tests : (u : Update) → Tests (is_update u) (IsUpdate u)
update-tests (Row start end value) =
    let t = both (is_number start && is_number end) (is_cell value) (FitsSigned w64 start × FitsSigned w64 end) (IsCell value)
    (both (is_number start) (is_number end) (FitsSigned w64 start) (FitsSigned w64 end) (number-tests start) (number-tests end)) (cell-tests value) in
    (λ h. let p = t.0 h in (p.0.0, p.0.1, p.1), λ p. t.1 ((p.0, p.1), p.2))
update-tests (Value start value) =
    both (is_number start) (is_number value) (FitsSigned w64 start) (FitsSigned w64 value) (number-tests start) (number-tests value)
update-tests (NoValue start) = number-tests start
update-tests (KnownUpTo watermark) = number-tests watermark

-- of an input
input-tests : (input : InputParts) → Tests (has_numbers input) (HasNumbers input)
input-tests input =
    let rows = all_tests (λ (row : Snapshot). is_cell row.value) (λ row. IsCell row.value) input.rows (λ row. cell-tests row.value) in
    let mark = number-tests input.edge.watermark in
    let row = open-tests input.edge.open_row in
    let held = all_tests is_update IsUpdate input.held update-tests in
    let a = both _ _ _ _ rows mark in
    let b = both _ _ _ _ a row in
    let t = both _ _ _ _ b held in (
      λ h. let p = t.0 h in record { rows = p.0.0.0; edge = record { watermark = p.0.0.1; open_row = p.0.1 }; held = p.1 },
      λ is. t.1 (((is.rows, is.edge.watermark), is.edge.open_row), is.held),
    )

-- of what is known of a run's progress
progress-tests : (p : Progress) → Tests (has_counts p) (IsProgress p)
progress-tests p =
    let a = both _ _ _ _ (ticks-tests p.options.lateness) (ticks-tests p.options.idle) in
    let b = both _ _ _ _ a (ticks-tests p.options.ahead) in
    let c = both _ _ _ _ b (count-tests p.bytes) in
    let d = both _ _ _ _ c (count-tests p.lines) in
    let e = both _ _ _ _ d (count-tests p.written) in
    let f = both _ _ _ _ e (number-tests p.from) in
    let g = both _ _ _ _ f (cell-tests p.shown) in
    let h = both _ _ _ _ g (cell-tests p.greatest) in
    let t = both _ _ _ _ h (cell-tests p.latest) in (
      λ is. let q = t.0 is in
          let counts = q.0.0.0.0 in record {
            lateness = counts.0.0.0.0.0;
            idle = counts.0.0.0.0.1;
            ahead = counts.0.0.0.1;
            bytes = counts.0.0.1;
            lines = counts.0.1;
            written = counts.1;
            from = q.0.0.0.1;
            shown = q.0.0.1;
            greatest = q.0.1;
            latest = q.1;
          },
      λ is. t.1 (((((((((is.lateness, is.idle), is.ahead), is.bytes), is.lines), is.written), is.from), is.shown), is.greatest), is.latest),
    )

-- of a state
pub range-tests : (s : LiveStateParts) → Tests (is_in_range s) (IsInRange s)
range-tests s =
    let t = both _ _ _ _ (progress-tests s.progress) (all_tests has_numbers HasNumbers s.inputs input-tests) in
    (λ h. let p = t.0 h in record { progress = p.0; inputs = p.1 }, λ is. t.1 (is.progress, is.inputs))
