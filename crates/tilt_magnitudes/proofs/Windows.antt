-- The numbers that a window meets are within the interval of its source, and not more than the window has ticks.
use Rattle.std.proofs.Common.{◌≡◌, ℕ, zero, suc, ◌≤◌, ℤ, pos, ◌+ℤ◌, Bool, true, false, ◌||◌, if◌then◌else◌, List, [], ◌∷◌, length, Option, Some, None, sym, ◌∙◌, arith}
use Rattle.std.specs.Int.{int_gap}
use Rattle.std.specs.List.{AllByRecursion}
use Rattle.std.proofs.lemmas.Int.{ints, by_lt_z}
use Rattle.tilt_base.specs.Reduce.{numbers}
use Rattle.tilt_magnitudes.proofs.Sums.{AllWithin}
use Rattle.tilt_magnitudes.specs.Interval.{Interval, BoundsCell}
use Rattle.tilt_magnitudes.specs.Law.{BoundsStream}
use Rattle.tilt_stream.proofs.Cut.{int_gap_is, int_gap_none}
use Rattle.tilt_stream.specs.Stream.{Stream}
use Rattle.tilt_stream.specs.Window.{met, met_behind}

one_met : (i : Interval) (here : Bool) (c : Option ℤ) (cells : List (Option ℤ)) → BoundsCell i c → AllByRecursion (BoundsCell i) cells
    → AllByRecursion (BoundsCell i) (if here then c ∷ cells else cells)
one_met i true c cells f g = (f, g)
one_met i false c cells f g = g

met_within : (i : Interval) (x : Stream) → BoundsStream i x → (begins : Bool) (tick : ℤ) (n : ℕ)
    → AllByRecursion (BoundsCell i) (met_behind x begins tick n)
met_within i x h begins tick zero = tt
met_within i x h begins tick (suc n) =
    one_met i (begins || x.mark (tick +ℤ pos 1)) (x.cell (tick +ℤ pos 1)) (met_behind x false (tick +ℤ pos 1) n)
    (h (tick +ℤ pos 1)) (met_within i x h false (tick +ℤ pos 1) n)

one_more : (here : Bool) (c : Option ℤ) (cells : List (Option ℤ)) (n : ℕ) → length cells ≤ n → length (if here then c ∷ cells else cells) ≤ suc n
one_more true c cells n h = omega (arith, h)
one_more false c cells n h = omega (arith, h)

pub few_met : (x : Stream) (begins : Bool) (tick : ℤ) (n : ℕ) → length (met_behind x begins tick n) ≤ n
few_met x begins tick zero = omega arith
few_met x begins tick (suc n) =
    one_more (begins || x.mark (tick +ℤ pos 1)) (x.cell (tick +ℤ pos 1)) (met_behind x false (tick +ℤ pos 1) n) n
    (few_met x false (tick +ℤ pos 1) n)

numbers_within : (i : Interval) (cells : List (Option ℤ)) → AllByRecursion (BoundsCell i) cells → AllWithin i (numbers cells)
numbers_within i [] h = tt
numbers_within i (None ∷ cells) h = numbers_within i cells h.1
numbers_within i (Some n ∷ cells) h = (h.0, numbers_within i cells h.1)

-- a window has as many ticks wherever it is
pub same_gap : (tick from to : ℤ) → int_gap (tick +ℤ from) (tick +ℤ to) ≡ int_gap from to
same_gap tick from to =
    by_lt_z from to
    (λ some.
    let a = int_gap_is from to (omega (arith, ints)) in
    let b = int_gap_is (tick +ℤ from) (tick +ℤ to) (omega (arith, ints)) in
    omega (arith, ints))
    (λ none. int_gap_none (tick +ℤ from) (tick +ℤ to) (omega (arith, ints)) ∙ sym (int_gap_none from to none))

pub numbers_met : (i : Interval) (x : Stream) → BoundsStream i x → (lo hi : ℤ) → AllWithin i (numbers (met x lo hi))
numbers_met i x h lo hi = numbers_within i (met x lo hi) (met_within i x h true lo (int_gap lo hi))
