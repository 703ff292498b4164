-- What two streams that agree on a stretch are made into agrees too, on a stretch that the window, the shift or the grid leaves of it.
use Rattle.std.proofs.Common.{◌≡◌, ℕ, zero, suc, ℤ, pos, ◌+ℤ◌, ◌-ℤ◌, ◌≤ℤ◌, ◌<ℤ◌, Bool, true, false, List, Option, ◌⊎◌, inl, inr, refl, ap, arith}
use Rattle.std.specs.Int.{int_gap}
use Rattle.std.specs.Prelude.{unsigned_abs}
use Rattle.std.proofs.lemmas.Int.{ints, by_lt_z}
use Rattle.tilt_base.proofs.Comparisons.{unsigned_abs_is}
use Rattle.tilt_base.specs.Grid.{GridPoints, ceil}
use Rattle.tilt_base.proofs.GridPoints.{ceil-low, ceil-high}
use Rattle.tilt_base.specs.Reduce.{numbers, reduce}
use Rattle.tilt_base.specs.Scalar.{apply1}
use Rattle.tilt_base.specs.declared.operator.Op1.{Op1}
use Rattle.tilt_base.specs.declared.operator.Op2.{Op2}
use Rattle.tilt_base.specs.declared.reducer.Reducer.{Reducer}
use Rattle.tilt_stream.proofs.Cut.{int_gap_is, int_gap_none}
use Rattle.tilt_stream.specs.Agreement.{Agree}
use Rattle.tilt_stream.specs.Domain.{some_mark, on_grid, restricted}
use Rattle.tilt_stream.specs.Pointwise.{shifted, lifted1, lifted2, branched}
use Rattle.tilt_stream.specs.Stream.{Stream}
use Rattle.tilt_stream.specs.Window.{met_behind, met, windowed}

-- a stream agrees with itself
pub same-agrees : (x : Stream) (lo hi : ℤ) → Agree x x lo hi
same-agrees x lo hi = record { cells = λ tick low high. refl; marks = λ tick low high. refl }

-- streams agree on each stretch within one on which they agree
pub narrower-agrees : (x y : Stream) (lo hi from to : ℤ) → Agree x y lo hi → lo ≤ℤ from → to ≤ℤ hi → Agree x y from to
narrower-agrees x y lo hi from to h low high = record {
  cells = λ tick above below. h.cells tick (omega (arith, ints)) (omega (arith, ints));
  marks = λ tick above below. h.marks tick (omega (arith, ints)) (omega (arith, ints));
}

pub lifted1-agrees : (op : Op1) (x y : Stream) (lo hi : ℤ) → Agree x y lo hi → Agree (lifted1 op x) (lifted1 op y) lo hi
lifted1-agrees op x y lo hi h = record {
  cells = λ tick above below. ap (λ (c : Option ℤ). apply1 op c) (h.cells tick above below);
  marks = λ tick above below. h.marks tick above below;
}

pub lifted2-agrees : (op : Op2) (x y v w : Stream) (lo hi : ℤ) → Agree x y lo hi → Agree v w lo hi → Agree (lifted2 op x v) (lifted2 op y w) lo hi
lifted2-agrees op x y v w lo hi g h = record {
  cells = λ tick above below. rw (g.cells tick above below, h.cells tick above below) refl;
  marks = λ tick above below. rw (g.marks tick above below, h.marks tick above below) refl;
}

pub branched-agrees : (c d x y v w : Stream) (lo hi : ℤ) → Agree c d lo hi → Agree x y lo hi → Agree v w lo hi → Agree (branched c x v) (branched d y w) lo hi
branched-agrees c d x y v w lo hi f g h = record {
  cells = λ tick above below. rw (f.cells tick above below, g.cells tick above below, h.cells tick above below) refl;
  marks = λ tick above below. rw (f.marks tick above below, g.marks tick above below, h.marks tick above below) refl;
}

pub shifted-agrees : (x y : Stream) (offset lo hi : ℤ) → Agree x y (lo +ℤ offset) (hi +ℤ offset) → Agree (shifted x offset) (shifted y offset) lo hi
shifted-agrees x y offset lo hi h = record {
  cells = λ tick above below. h.cells (tick +ℤ offset) (omega (arith, ints)) (omega (arith, ints));
  marks = λ tick above below. h.marks (tick +ℤ offset) (omega (arith, ints)) (omega (arith, ints));
}

-- where cells and marks agree from a tick on, the same cells are met after it
met_behind-agrees : (x y : Stream) (begins : Bool) (lo hi tick : ℤ) (n : ℕ) → Agree x y lo hi → ((lo <ℤ tick) ⊎ ((lo ≡ tick) × (begins ≡ true))) → (tick +ℤ pos n) ≤ℤ hi
    → met_behind x begins tick n ≡ met_behind y begins tick n
met_behind-agrees x y begins lo hi tick zero h low high = refl
met_behind-agrees x y true lo hi tick (suc n) h low high =
    let above : lo <ℤ (tick +ℤ pos 1) = elim low [ inl l ↦ omega (arith, ints) | inr e ↦ (let is = e.0 in omega (arith, ints)) ] in
    rw (h.cells (tick +ℤ pos 1) above (omega (arith, ints)), met_behind-agrees x y false lo hi (tick +ℤ pos 1) n h (inl above) (omega (arith, ints))) refl
met_behind-agrees x y false lo hi tick (suc n) h (inl above) high =
    let mark = h.marks (tick +ℤ pos 1) (omega (arith, ints)) (omega (arith, ints)) in
    let cell = h.cells (tick +ℤ pos 1) (omega (arith, ints)) (omega (arith, ints)) in
    rw (mark, cell, met_behind-agrees x y false lo hi (tick +ℤ pos 1) n h (inl (omega (arith, ints))) (omega (arith, ints))) refl
met_behind-agrees x y false lo hi tick (suc n) h (inr e) high = absurd (cc e.1)

-- a window within the stretch meets the same cells: its first tick always counts
pub met-agrees : (x y : Stream) (lo hi from to : ℤ) → Agree x y lo hi → lo ≤ℤ from → to ≤ℤ hi → met x from to ≡ met y from to
met-agrees x y lo hi from to h low high =
    by_lt_z from to
    (λ some. met_behind-agrees x y true from hi from (int_gap from to) (narrower-agrees x y lo hi from hi h low (omega (arith, ints)))
    (inr (refl, refl)) (let e = int_gap_is from to (omega (arith, ints)) in omega (arith, ints)))
    (λ none. rw (int_gap_none from to none) refl)

-- what a window makes of them agrees where it ends after its start
pub windowed-agrees : (reducer : Reducer) (from to : ℤ) (x y : Stream) (lo hi : ℤ) → from <ℤ to → Agree x y (lo +ℤ from +ℤ pos 1) (hi +ℤ to)
    → Agree (windowed reducer from to x) (windowed reducer from to y) lo hi
windowed-agrees reducer from to x y lo hi ends h = record {
  cells = λ tick above below.
      ap (λ (cells : List (Option ℤ)). reduce reducer (numbers cells)) (met-agrees x y (lo +ℤ from +ℤ pos 1) (hi +ℤ to) (tick +ℤ from) (tick +ℤ to) h (omega (arith, ints)) (omega (arith, ints)));
  marks = λ tick above below.
      rw (h.marks (tick +ℤ to) (omega (arith, ints)) (omega (arith, ints)), h.marks (tick +ℤ from +ℤ pos 1) (omega (arith, ints)) (omega (arith, ints))) refl;
}

some_mark-agrees : (x y : Stream) (lo hi tick : ℤ) (n : ℕ) → Agree x y lo hi → lo <ℤ tick → (tick +ℤ pos n) ≤ℤ hi → some_mark x tick n ≡ some_mark y tick n
some_mark-agrees x y lo hi tick zero h low high = refl
some_mark-agrees x y lo hi tick (suc n) h low high =
    rw (h.marks (tick +ℤ pos 1) (omega (arith, ints)) (omega (arith, ints)), some_mark-agrees x y lo hi (tick +ℤ pos 1) n h (omega (arith, ints)) (omega (arith, ints))) refl

-- on a grid, the stretch has to go on up to the next point
pub on_grid-agrees : (grid : GridPoints) (x y : Stream) (lo hi : ℤ) → pos 1 ≤ℤ grid.period → Agree x y lo (hi +ℤ grid.period -ℤ pos 1) → Agree (on_grid grid x) (on_grid grid y) lo hi
on_grid-agrees grid x y lo hi valid h = record {
  cells = λ tick above below.
      let low = ceil-low grid tick valid in
      let high = ceil-high grid tick valid in
      h.cells (ceil grid tick) (omega (arith, ints)) (omega (arith, ints));
  marks = λ tick above below.
      let width = unsigned_abs_is grid.period valid in
      rw (some_mark-agrees x y lo (hi +ℤ grid.period -ℤ pos 1) (tick -ℤ pos 1) (unsigned_abs grid.period) h (omega (arith, ints)) (omega (arith, ints))) refl;
}

pub restricted-agrees : (start end : ℤ) (x y : Stream) (lo hi : ℤ) → Agree x y lo hi → Agree (restricted start end x) (restricted start end y) lo hi
restricted-agrees start end x y lo hi h = record {
  cells = λ tick above below. rw (h.cells tick above below) refl;
  marks = λ tick above below. rw (h.marks tick above below) refl;
}
