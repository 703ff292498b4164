-- Ticks: stretches of time of one length, of which one end belongs to them.
use Rattle.std.specs.Prelude.{ℤ, pos, neg_ℤ, ◌+ℤ◌, ◌-ℤ◌, ◌*ℤ◌, ◌≤ℤ◌, ◌<ℤ◌}
use Rattle.tilt_base.specs.declared.limits.TheConstants.{T}
use Rattle.tilt_readings.specs.declared.tick.Clock.{Clock}
use Rattle.tilt_readings.specs.declared.tick.Closed.{Closed}
use Rattle.tilt_readings.specs.declared.tick.Closed.TheVariants.{Left, Right}

-- the moment at which a tick ends and the next one starts: so many lengths after the origin
abbrev pub moment_at : Clock → ℤ → ℤ
moment_at clock tick = clock.origin +ℤ tick *ℤ pos clock.length

-- a moment lies between two others, of which one is included
abbrev pub IsBetween : Closed → ℤ → ℤ → ℤ → Type 0
IsBetween Left low high moment = (low ≤ℤ moment) × (moment <ℤ high)
IsBetween Right low high moment = (low <ℤ moment) × (moment ≤ℤ high)

-- a moment lies in a tick
abbrev pub IsInTick : Clock → ℤ → ℤ → Type 0
IsInTick clock tick moment = IsBetween clock.closed (moment_at clock (tick -ℤ pos 1)) (moment_at clock tick) moment

-- a moment lies in one of the ticks that a query can read: those whose row, from the tick before, has both times within -T..=T
abbrev pub IsInReach : Clock → ℤ → Type 0
IsInReach clock moment = IsBetween clock.closed (moment_at clock (neg_ℤ T)) (moment_at clock T) moment
