-- Grids: the ticks at which an expression is taken (the TiLT paper's precision; the offset is our own rule).
use Rattle.std.specs.Prelude.{◌≡◌, ℤ, pos, ◌+ℤ◌, ◌-ℤ◌, ◌*ℤ◌, ◌≤ℤ◌, ◌<ℤ◌, Bool, ◌&&◌, int_le, int_lt}
use Rattle.std.specs.Int.{int_rem_euclid}
use Rattle.std.specs.Ordering.{int_eq}
use Rattle.tilt_base.specs.declared.limits.TheConstants.{PERIOD}

-- a period and an offset, in ticks
pub record GridPoints : Type 0 where
  pub period : ℤ
  pub offset : ℤ

-- what bounds a grid
pub record IsGrid (grid : GridPoints) : Type 0 where
  pub period_low : pos 1 ≤ℤ grid.period
  pub period_high : grid.period ≤ℤ PERIOD
  pub offset_low : pos 0 ≤ℤ grid.offset
  pub offset_high : grid.offset <ℤ grid.period

-- whether a period is one that a grid may have, and an offset is below it
abbrev pub is_grid : GridPoints → Bool
is_grid grid = int_le (pos 1) grid.period && int_le grid.period PERIOD && int_le (pos 0) grid.offset && int_lt grid.offset grid.period

-- a grid point: a tick that lies a multiple of the period from the offset
abbrev pub IsPoint : GridPoints → ℤ → Type 0
IsPoint grid tick = (multiple : ℤ) × (tick ≡ grid.offset +ℤ multiple *ℤ grid.period)

-- the least grid point that isn't below a tick
pub record IsCeil (grid : GridPoints) (tick point : ℤ) : Type 0 where
  pub on_grid : IsPoint grid point
  pub not_below : tick ≤ℤ point
  pub least : (other : ℤ) → IsPoint grid other → tick ≤ℤ other → point ≤ℤ other

-- the greatest grid point that isn't above a tick
pub record IsFloor (grid : GridPoints) (tick point : ℤ) : Type 0 where
  pub on_grid : IsPoint grid point
  pub not_above : point ≤ℤ tick
  pub greatest : (other : ℤ) → IsPoint grid other → other ≤ℤ tick → other ≤ℤ point

-- whether a tick is a grid point
abbrev pub is_point : GridPoints → ℤ → Bool
is_point grid tick = int_eq (int_rem_euclid (tick -ℤ grid.offset) grid.period) (pos 0)

-- the least grid point that isn't below a tick
abbrev pub ceil : GridPoints → ℤ → ℤ
ceil grid tick = tick +ℤ int_rem_euclid (grid.offset -ℤ tick) grid.period

-- the greatest grid point that isn't above a tick
abbrev pub floor : GridPoints → ℤ → ℤ
floor grid tick = tick -ℤ int_rem_euclid (tick -ℤ grid.offset) grid.period
