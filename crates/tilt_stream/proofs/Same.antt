-- Streams that are the same, and windows on them.
use Rattle.std.proofs.Common.{◌≡◌, ℕ, zero, suc, ℤ, pos, ◌+ℤ◌, ◌-ℤ◌, Bool, true, false, List, ◌∷◌, map, Option, if◌then◌else◌, refl, sym, ap, ◌∙◌, arith}
use Rattle.std.specs.Prelude.{◌||◌}
use Rattle.std.specs.Int.{int_gap}
use Rattle.std.proofs.Math.Bool.{or-false}
use Rattle.std.proofs.lemmas.Int.{ints, by_lt_z}
use Rattle.std.proofs.lemmas.List.{map-id}
use Rattle.tilt_base.proofs.GridPoints.{is_point-Decides, ceil-low, ceil-high}
use Rattle.tilt_base.specs.Grid.{GridPoints, is_point, ceil}
use Rattle.tilt_base.specs.Reduce.{numbers, reduce}
use Rattle.tilt_base.specs.Scalar.{apply1, apply2, choose}
use Rattle.tilt_base.specs.declared.operator.Op1.{Op1}
use Rattle.tilt_base.specs.declared.operator.Op2.{Op2}
use Rattle.tilt_base.specs.declared.reducer.Reducer.{Reducer}
use Rattle.tilt_stream.proofs.Cut.{int_gap_is, int_gap_none}
use Rattle.tilt_stream.specs.Domain.{on_grid}
use Rattle.tilt_stream.specs.Pointwise.{shifted, lifted1, lifted2, branched}
use Rattle.tilt_stream.specs.Stream.{Stream, SameStream}
use Rattle.tilt_stream.specs.Window.{met_behind, met, windowed, windowed_by}

pub same-refl : (x : Stream) → SameStream x x
same-refl x = record { cells = λ tick. refl; marks = λ tick. refl }

pub same-sym : (x y : Stream) → SameStream x y → SameStream y x
same-sym x y h = record { cells = λ tick. sym (h.cells tick); marks = λ tick. sym (h.marks tick) }

pub same-trans : (x y z : Stream) → SameStream x y → SameStream y z → SameStream x z
same-trans x y z g h = record { cells = λ tick. g.cells tick ∙ h.cells tick; marks = λ tick. g.marks tick ∙ h.marks tick }

-- streams that are the same at every tick are one
pub same_is : (x y : Stream) → SameStream x y → x ≡ y
same_is x y same = λ i. record { cell = λ tick. same.cells tick i; mark = λ tick. same.marks tick i }

pub shifted-same : (x y : Stream) (by : ℤ) → SameStream x y → SameStream (shifted x by) (shifted y by)
shifted-same x y by h = record { cells = λ tick. h.cells (tick +ℤ by); marks = λ tick. h.marks (tick +ℤ by) }

pub lifted1-same : (op : Op1) (x y : Stream) → SameStream x y → SameStream (lifted1 op x) (lifted1 op y)
lifted1-same op x y h = record { cells = λ tick. ap (apply1 op) (h.cells tick); marks = λ tick. h.marks tick }

pub lifted2-same : (op : Op2) (x y v w : Stream) → SameStream x y → SameStream v w → SameStream (lifted2 op x v) (lifted2 op y w)
lifted2-same op x y v w g h = record {
  cells = λ tick. (λ i. apply2 op (g.cells tick i) (h.cells tick i));
  marks = λ tick. (λ i. g.marks tick i || h.marks tick i);
}

pub branched-same : (c d x y v w : Stream) → SameStream c d → SameStream x y → SameStream v w → SameStream (branched c x v) (branched d y w)
branched-same c d x y v w f g h = record {
  cells = λ tick. (λ i. choose (f.cells tick i) (g.cells tick i) (h.cells tick i));
  marks = λ tick. (λ i. f.marks tick i || g.marks tick i || h.marks tick i);
}

-- at both ends moved, a stretch has as many ticks
gap-moved : (by lo hi : ℤ) → int_gap (lo +ℤ by) (hi +ℤ by) ≡ int_gap lo hi
gap-moved by lo hi =
    by_lt_z lo hi
    (λ some.
    let here = int_gap_is lo hi (omega (arith, ints)) in
    let there = int_gap_is (lo +ℤ by) (hi +ℤ by) (omega (arith, ints)) in
    omega (arith, ints))
    (λ none. int_gap_none (lo +ℤ by) (hi +ℤ by) (omega (arith, ints)) ∙ sym (int_gap_none lo hi none))

met_if : (f : Option ℤ → Option ℤ) (cell : Option ℤ) (xs : List (Option ℤ)) (some : Bool) → (if some then f cell ∷ map f xs else map f xs) ≡ map f (if some then cell ∷ xs else xs)
met_if f cell xs true = refl
met_if f cell xs false = refl

-- One stream gives at each tick what a map gives on the cell of another a number of ticks later, and has its marks. Then its windows meet what the map
-- gives on what the other's windows meet that many ticks later.
module _ (f : Option ℤ → Option ℤ) (x y : Stream) (by : ℤ) (cells : (tick : ℤ) → y.cell tick ≡ f (x.cell (tick +ℤ by))) (marks : (tick : ℤ) → y.mark tick ≡ x.mark (tick +ℤ by)) where
  met_behind-moved : (begins : Bool) (tick : ℤ) (n : ℕ) → met_behind y begins tick n ≡ map f (met_behind x begins (tick +ℤ by) n)
  met_behind-moved begins tick zero = refl
  met_behind-moved begins tick (suc n) =
      let at : tick +ℤ pos 1 +ℤ by ≡ tick +ℤ by +ℤ pos 1 = omega (arith, ints) in
      let cell = cells (tick +ℤ pos 1) ∙ ap (λ (t : ℤ). f (x.cell t)) at in
      let mark = marks (tick +ℤ pos 1) ∙ ap (λ (t : ℤ). x.mark t) at in
      let rest = met_behind-moved false (tick +ℤ pos 1) n ∙ ap (λ (t : ℤ). map f (met_behind x false t n)) at in
      (λ i. if begins || mark i then cell i ∷ rest i else rest i)
      ∙ met_if f (x.cell (tick +ℤ by +ℤ pos 1)) (met_behind x false (tick +ℤ by +ℤ pos 1) n) (begins || x.mark (tick +ℤ by +ℤ pos 1))

  met-moved : (lo hi : ℤ) → met y lo hi ≡ map f (met x (lo +ℤ by) (hi +ℤ by))
  met-moved lo hi = met_behind-moved true lo (int_gap lo hi) ∙ ap (λ (n : ℕ). map f (met_behind x true (lo +ℤ by) n)) (sym (gap-moved by lo hi))

  -- so a window on it is one on the other by the map, with both ends moved
  pub window-moved : (reducer : Reducer) (from to : ℤ) → SameStream (windowed_by f reducer (from +ℤ by) (to +ℤ by) x) (windowed reducer from to y)
  window-moved reducer from to = record {
    cells = λ tick.
        let first : tick +ℤ (from +ℤ by) ≡ tick +ℤ from +ℤ by = omega (arith, ints) in
        let last : tick +ℤ (to +ℤ by) ≡ tick +ℤ to +ℤ by = omega (arith, ints) in
        ap (λ (met_cells : List (Option ℤ)). reduce reducer (numbers met_cells))
        ((λ i. map f (met x (first i) (last i))) ∙ sym (met-moved (tick +ℤ from) (tick +ℤ to)));
    marks = λ tick.
        let first : tick +ℤ (from +ℤ by) +ℤ pos 1 ≡ tick +ℤ from +ℤ pos 1 +ℤ by = omega (arith, ints) in
        let last : tick +ℤ (to +ℤ by) ≡ tick +ℤ to +ℤ by = omega (arith, ints) in
        (λ i. x.mark (last i) || x.mark (first i)) ∙ sym (λ i. marks (tick +ℤ to) i || marks (tick +ℤ from +ℤ pos 1) i);
  }

-- a window by no map is one by the map that gives the cell itself
windowed-itself : (reducer : Reducer) (from to : ℤ) (x : Stream) → SameStream (windowed reducer from to x) (windowed_by (λ cell. cell) reducer from to x)
windowed-itself reducer from to x = record {
  cells = λ tick. ap (λ (cells : List (Option ℤ)). reduce reducer (numbers cells)) (sym (map-id (met x (tick +ℤ from) (tick +ℤ to))));
  marks = λ tick. refl;
}

pub window-later : (x y : Stream) (by : ℤ) → ((tick : ℤ) → y.cell tick ≡ x.cell (tick +ℤ by)) → ((tick : ℤ) → y.mark tick ≡ x.mark (tick +ℤ by))
    → (reducer : Reducer) (from to : ℤ) → SameStream (windowed reducer (from +ℤ by) (to +ℤ by) x) (windowed reducer from to y)
window-later x y by cells marks reducer from to =
    same-trans (windowed reducer (from +ℤ by) (to +ℤ by) x) (windowed_by (λ cell. cell) reducer (from +ℤ by) (to +ℤ by) x) (windowed reducer from to y)
    (windowed-itself reducer (from +ℤ by) (to +ℤ by) x) (window-moved (λ cell. cell) x y by cells marks reducer from to)

-- a grid of which each tick is a point changes nothing
module _ (offset : ℤ) (x : Stream) where
  abbrev grid : GridPoints
  grid = record { period = pos 1; offset = offset }

  ceil-itself : (tick : ℤ) → ceil grid tick ≡ tick
  ceil-itself tick =
      let low = ceil-low grid tick (omega (arith, ints)) in
      let high = ceil-high grid tick (omega (arith, ints)) in
      omega (arith, ints)

  each-point : (tick : ℤ) → is_point grid tick ≡ true
  each-point tick = (is_point-Decides grid tick (omega (arith, ints))).1 (tick -ℤ offset, omega (arith, ints))

  on_each_tick : SameStream (on_grid grid x) x
  on_each_tick = record {
    cells = λ tick. ap (λ (t : ℤ). x.cell t) (ceil-itself tick);
    marks = λ tick.
        let at : tick -ℤ pos 1 +ℤ pos 1 ≡ tick = omega (arith, ints) in
        rw (each-point (tick -ℤ pos 1)) (or-false (x.mark (tick -ℤ pos 1 +ℤ pos 1)) ∙ ap (λ (t : ℤ). x.mark t) at);
  }

pub period-one : (grid : GridPoints) (x : Stream) → grid.period ≡ pos 1 → SameStream (on_grid grid x) x
period-one grid x is = rw is (on_each_tick grid.offset x)
