-- Where a stream is taken and where it holds: grids and stretches of time (the TiLT paper's precision and time domain; marks are our own
-- rule).
use Rattle.std.specs.Prelude.{ℕ, zero, suc, ℤ, pos, ◌+ℤ◌, ◌-ℤ◌, Bool, false, ◌&&◌, ◌||◌, if◌then◌else◌, None, int_lt, int_le, unsigned_abs}
use Rattle.std.specs.Ordering.{int_eq}
use Rattle.tilt_base.specs.Grid.{GridPoints, is_point, ceil}
use Rattle.tilt_stream.specs.Stream.{Stream}

-- whether one of so many ticks after `tick` has a mark
abbrev pub some_mark : Stream → ℤ → ℕ → Bool
some_mark x tick zero = false
some_mark x tick (suc more) = x.mark (tick +ℤ pos 1) || some_mark x (tick +ℤ pos 1) more

-- `every`: at each tick the cell of the smallest grid point that isn't below it. A mark is after a grid point if one of the ticks up to
-- the next one had a mark.
abbrev pub on_grid : GridPoints → Stream → Stream
on_grid grid x = record {
  cell = λ tick. x.cell (ceil grid tick);
  mark = λ tick. is_point grid (tick -ℤ pos 1) && some_mark x (tick -ℤ pos 1) (unsigned_abs grid.period);
}

-- whether a tick lies in `(lo, hi]`
abbrev pub lies_in : ℤ → ℤ → ℤ → Bool
lies_in lo hi tick = int_lt lo tick && int_le tick hi

-- `over (lo, hi]`: null outside; marks at `lo + 1` and `hi + 1`, those from before at `lo + 2` to `hi`, and no others
abbrev pub restricted : ℤ → ℤ → Stream → Stream
restricted lo hi x = record {
  cell = λ tick. if lies_in lo hi tick then x.cell tick else None;
  mark = λ tick. int_eq tick (lo +ℤ pos 1) || int_eq tick (hi +ℤ pos 1) || (lies_in lo hi tick && x.mark tick);
}
