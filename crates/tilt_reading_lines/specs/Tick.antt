-- The tick of a moment, by a division.
use Rattle.std.specs.Prelude.{ℤ, pos, neg_ℤ, ◌+ℤ◌, ◌-ℤ◌, ℕ, ◌&&◌, if◌then◌else◌, int_le, int_lt, Option, Some, None}
use Rattle.std.specs.Int.{int_div_euclid}
use Rattle.tilt_base.specs.declared.limits.TheConstants.{T}
use Rattle.tilt_readings.specs.declared.tick.Clock.{Clock}
use Rattle.tilt_readings.specs.declared.tick.Closed.{Closed}
use Rattle.tilt_readings.specs.declared.tick.Closed.TheVariants.{Left, Right}

-- how many whole ticks of a length end up to so long after the origin; with ticks that are closed on the right, up to just before it
abbrev pub whole_ticks : Closed → ℤ → ℕ → ℤ
whole_ticks Left since length = int_div_euclid since (pos length)
whole_ticks Right since length = int_div_euclid (since -ℤ pos 1) (pos length)

-- a tick, if it can be that of a reading
abbrev pub in_reach : ℤ → Option ℤ
in_reach tick = if int_lt (neg_ℤ T) tick && int_le tick T then Some tick else None

-- the tick that a moment lies in
abbrev pub tick_at : Clock → ℤ → Option ℤ
tick_at clock moment = in_reach (whole_ticks clock.closed (moment -ℤ clock.origin) clock.length +ℤ pos 1)
