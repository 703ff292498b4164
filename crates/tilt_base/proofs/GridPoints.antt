-- Where the points of a grid lie.
use Rattle.std.proofs.Common.{◌≡◌, ◌≢◌, ℤ, pos, negsuc, neg_ℤ, ◌+ℤ◌, ◌-ℤ◌, ◌*ℤ◌, ◌≤ℤ◌, ◌<ℤ◌, true, false, sym, subst, ◌∙◌, arith, Decides}
use Rattle.std.specs.Int.{int_rem_euclid}
use Rattle.std.proofs.lemmas.Bool.{false≢true}
use Rattle.std.proofs.lemmas.Bool.Decides.{Decides-int_eq}
use Rattle.std.proofs.lemmas.Int.{ints}
use Rattle.tilt_base.specs.Grid.{GridPoints, IsGrid, IsPoint, IsCeil, IsFloor, is_grid, is_point, ceil, floor}
use Rattle.tilt_base.proofs.Multiples.{mul_add, mul_neg, mul_before, mul_above, IsLeft, rem_euclid-left, rem_euclid_same}

-- the test for a grid is passed by grids alone
pub tested-IsGrid : (grid : GridPoints) → is_grid grid ≡ true → IsGrid grid
tested-IsGrid grid h = record {
  period_low = grind (arith, ints);
  period_high = grind (arith, ints);
  offset_low = grind (arith, ints);
  offset_high = grind (arith, ints);
}

-- and each grid passes it
pub IsGrid-tested : (grid : GridPoints) → IsGrid grid → is_grid grid ≡ true
IsGrid-tested grid h =
    let period_low = h.period_low in
    let period_high = h.period_high in
    let offset_low = h.offset_low in
    let offset_high = h.offset_high in
    grind (arith, ints)

-- what is left from a tick up to the offset, by what is left from the offset up to the tick. If that is nothing, it is
-- nothing; otherwise it is the rest of a period
up_none : (offset tick d : ℤ) → IsLeft (tick -ℤ offset) d (pos 0) → IsLeft (offset -ℤ tick) d (pos 0)
up_none offset tick d is =
    let neg = mul_neg is.multiple d in
    let e = is.same in let low = is.low in let high = is.high in
    record { multiple = neg_ℤ is.multiple; same = omega (arith, ints); low = low; high = high }

up_some : (offset tick d left : ℤ) → IsLeft (tick -ℤ offset) d left → left ≢ pos 0 → IsLeft (offset -ℤ tick) d (d -ℤ left)
up_some offset tick d left is some =
    let neg = mul_neg is.multiple d in
    let before = mul_before (neg_ℤ is.multiple) d in
    let e = is.same in let low = is.low in let high = is.high in
    record { multiple = neg_ℤ is.multiple +ℤ negsuc 0; same = omega (arith, ints); low = omega (arith, ints); high = omega (arith, ints) }

-- the same from the next tick
up_next : (offset tick d left : ℤ) → IsLeft (tick -ℤ offset) d left → IsLeft (offset -ℤ (tick +ℤ pos 1)) d (d -ℤ left -ℤ pos 1)
up_next offset tick d left is =
    let neg = mul_neg is.multiple d in
    let before = mul_before (neg_ℤ is.multiple) d in
    let e = is.same in let low = is.low in let high = is.high in
    record { multiple = neg_ℤ is.multiple +ℤ negsuc 0; same = omega (arith, ints); low = omega (arith, ints); high = omega (arith, ints) }

-- the least point above a tick is one period above the greatest point not above it
pub ceil-next : (grid : GridPoints) (tick : ℤ) → pos 1 ≤ℤ grid.period → ceil grid (tick +ℤ pos 1) ≡ floor grid tick +ℤ grid.period
ceil-next grid tick h =
    let left = rem_euclid-left (tick -ℤ grid.offset) grid.period h in
    let next = rem_euclid_same (grid.offset -ℤ (tick +ℤ pos 1)) grid.period _ h (up_next grid.offset tick grid.period _ left) in
    omega (arith, ints)

-- the test of a point is right
pub is_point-Decides : (grid : GridPoints) (tick : ℤ) → pos 1 ≤ℤ grid.period → Decides (is_point grid tick) (IsPoint grid tick)
is_point-Decides grid tick h =
    let left = rem_euclid-left (tick -ℤ grid.offset) grid.period h in
    let e = left.same in
    let test = Decides-int_eq (int_rem_euclid (tick -ℤ grid.offset) grid.period) (pos 0) in (
      λ t. (let none = test.0 t in (left.multiple, omega (arith, ints))),
      λ at. (let f = at.1 in
          test.1 (rem_euclid_same (tick -ℤ grid.offset) grid.period (pos 0) h
          (record { multiple = at.0; same = omega (arith, ints); low = omega (arith, ints); high = omega (arith, ints) }))),
    )

-- at a point the point that isn't below is that tick, and the one above it comes a period later
pub ceil-point : (grid : GridPoints) (tick : ℤ) → pos 1 ≤ℤ grid.period → is_point grid tick ≡ true → (ceil grid tick ≡ tick) × (ceil grid (tick +ℤ pos 1) ≡ tick +ℤ grid.period)
ceil-point grid tick h at =
    let test = Decides-int_eq (int_rem_euclid (tick -ℤ grid.offset) grid.period) (pos 0) in
    let none = test.0 at in
    let left = subst (IsLeft (tick -ℤ grid.offset) grid.period) none (rem_euclid-left (tick -ℤ grid.offset) grid.period h) in
    let up = rem_euclid_same (grid.offset -ℤ tick) grid.period (pos 0) h (up_none grid.offset tick grid.period left) in
    let next = ceil-next grid tick h in
    (omega (arith, ints), omega (arith, ints))

-- between two points the next tick has the same point that isn't below
pub ceil-between : (grid : GridPoints) (tick : ℤ) → pos 1 ≤ℤ grid.period → is_point grid tick ≡ false → ceil grid (tick +ℤ pos 1) ≡ ceil grid tick
ceil-between grid tick h off =
    let test = Decides-int_eq (int_rem_euclid (tick -ℤ grid.offset) grid.period) (pos 0) in
    let some : int_rem_euclid (tick -ℤ grid.offset) grid.period ≢ pos 0 = λ none. absurd (false≢true (sym off ∙ test.1 none)) in
    let left = rem_euclid-left (tick -ℤ grid.offset) grid.period h in
    let up = rem_euclid_same (grid.offset -ℤ tick) grid.period _ h (up_some grid.offset tick grid.period _ left some) in
    let next = ceil-next grid tick h in
    omega (arith, ints)

-- the point that isn't below lies less than a period above
pub ceil-low : (grid : GridPoints) (tick : ℤ) → pos 1 ≤ℤ grid.period → tick ≤ℤ ceil grid tick
ceil-low grid tick h =
    let left = rem_euclid-left (grid.offset -ℤ tick) grid.period h in
    let low = left.low in
    omega (arith, ints)

pub ceil-high : (grid : GridPoints) (tick : ℤ) → pos 1 ≤ℤ grid.period → ceil grid tick <ℤ (tick +ℤ grid.period)
ceil-high grid tick h =
    let left = rem_euclid-left (grid.offset -ℤ tick) grid.period h in
    let high = left.high in
    omega (arith, ints)

-- the point that isn't above lies less than a period below
pub floor-high : (grid : GridPoints) (tick : ℤ) → pos 1 ≤ℤ grid.period → floor grid tick ≤ℤ tick
floor-high grid tick h =
    let left = rem_euclid-left (tick -ℤ grid.offset) grid.period h in
    let low = left.low in
    omega (arith, ints)

pub floor-low : (grid : GridPoints) (tick : ℤ) → pos 1 ≤ℤ grid.period → tick <ℤ (floor grid tick +ℤ grid.period)
floor-low grid tick h =
    let left = rem_euclid-left (tick -ℤ grid.offset) grid.period h in
    let high = left.high in
    omega (arith, ints)

-- how far two points are apart, where the one lies less than a period below the other
not_between : (offset d k m from to : ℤ) → pos 1 ≤ℤ d → from ≡ offset +ℤ k *ℤ d → to ≡ offset +ℤ m *ℤ d → from <ℤ (to +ℤ d) → from ≤ℤ to
not_between offset d k m from to h e f near =
    let add = mul_add m (neg_ℤ k) d in
    let neg = mul_neg k d in
    let above = mul_above (m +ℤ neg_ℤ k) d h (omega (arith, ints)) in
    omega (arith, ints)

-- `ceil` is the least point that isn't below a tick
pub ceil-IsCeil : (grid : GridPoints) (tick : ℤ) → pos 1 ≤ℤ grid.period → IsCeil grid tick (ceil grid tick)
ceil-IsCeil grid tick h =
    let left = rem_euclid-left (grid.offset -ℤ tick) grid.period h in
    let e = left.same in
    let neg = mul_neg left.multiple grid.period in
    let at : ceil grid tick ≡ grid.offset +ℤ neg_ℤ left.multiple *ℤ grid.period = omega (arith, ints) in
    record {
      on_grid = (neg_ℤ left.multiple, at);
      not_below = ceil-low grid tick h;
      least = λ other is above.
          (let high = ceil-high grid tick h in not_between grid.offset grid.period (neg_ℤ left.multiple) is.0 (ceil grid tick) other h at is.1 (omega (arith, ints)));
    }

-- `floor` is the greatest point that isn't above a tick
pub floor-IsFloor : (grid : GridPoints) (tick : ℤ) → pos 1 ≤ℤ grid.period → IsFloor grid tick (floor grid tick)
floor-IsFloor grid tick h =
    let left = rem_euclid-left (tick -ℤ grid.offset) grid.period h in
    let e = left.same in
    let at : floor grid tick ≡ grid.offset +ℤ left.multiple *ℤ grid.period = omega (arith, ints) in
    record {
      on_grid = (left.multiple, at);
      not_above = floor-high grid tick h;
      greatest = λ other is below.
          (let low = floor-low grid tick h in not_between grid.offset grid.period is.0 left.multiple other (floor grid tick) h is.1 at (omega (arith, ints)));
    }
