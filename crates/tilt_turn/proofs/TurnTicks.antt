-- The ticks of a turn.
use Rattle.std.proofs.Common.{◌≡◌, w64, to_z, of_z, ℤ, pos, ◌+ℤ◌, ◌≤ℤ◌, ◌<ℤ◌, arith}
use Rattle.std.proofs.lemmas.Int.{ints}
use Rattle.tilt_base.proofs.GridPoints.{ceil-low, ceil-high}
use Rattle.tilt_base.specs.Grid.{GridPoints, IsGrid, ceil}
use Rattle.tilt_base.specs.Offset.{IsOffset}
use Rattle.tilt_code.specs.Grammar.{IsStretch}
use Rattle.tilt_turn.specs.Ready.{IsBodyTick}

-- the grid point of a turn is near
pub point-near : (grid : GridPoints) (lo hi start : ℤ) → IsGrid grid → IsStretch lo hi → lo ≤ℤ start → start <ℤ hi
    → IsBodyTick (ceil grid (start +ℤ pos 1))
point-near grid lo hi start valid stretch from to =
    let low = ceil-low grid (start +ℤ pos 1) valid.period_low in
    let high = ceil-high grid (start +ℤ pos 1) valid.period_low in
    let first = stretch.low in
    let last = stretch.high in
    let period = valid.period_high in
    record { low = omega (arith, ints); high = omega (arith, ints) }

-- a grid point is one of the machine's numbers
pub point-fits : (point : ℤ) → IsBodyTick point → to_z w64 (of_z w64 point) ≡ point
point-fits point near = let low = near.low in let high = near.high in omega (arith, ints)

-- and so is an offset
pub offset-fits : (offset : ℤ) → IsOffset offset → to_z w64 (of_z w64 offset) ≡ offset
offset-fits offset within = let low = within.0 in let high = within.1 in omega (arith, ints)

-- and so is a tick that is read at a grid point
pub tick-fits : (point offset : ℤ) → IsBodyTick point → IsOffset offset
    → to_z w64 (of_z w64 (to_z w64 (of_z w64 point) +ℤ to_z w64 (of_z w64 offset))) ≡ point +ℤ offset
tick-fits point offset near within =
    let first = near.low in
    let last = near.high in
    let low = within.0 in
    let high = within.1 in
    omega (arith, ints)

-- and so is the one after it
pub next-fits : (point offset : ℤ) → IsBodyTick point → IsOffset offset
    → to_z w64 (of_z w64 (to_z w64 (of_z w64 (to_z w64 (of_z w64 point) +ℤ to_z w64 (of_z w64 offset))) +ℤ pos 1)) ≡ point +ℤ offset +ℤ pos 1
next-fits point offset near within =
    let first = near.low in
    let last = near.high in
    let low = within.0 in
    let high = within.1 in
    omega (arith, ints)
