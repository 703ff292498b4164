use Rattle.std.proofs.Common.{◌≡◌, ℤ, ◌<ℤ◌, ◌≤ℤ◌, neg_ℤ, Option, Some, None, ◌<◌, sym}
use Rattle.std.proofs.lemmas.Int.{to_z-of_z}
use Rattle.std.specs.Int.{w128}
use Rattle.std.specs.Prelude.{MatchOption}
use Rattle.tilt_base.specs.declared.limits.TheConstants.{T}
use Rattle.tilt_readings.specs.Tick.{IsInReach, IsInTick}
use Rattle.tilt_readings.specs.declared.tick.Clock.{Clock}
use Rattle.tilt_reading_lines.specs.Tick.{tick_at}
use Rattle.tilt_reading_lines.proofs.Ticks.{found, missing}
use Rattle.tilt_reading_lines.proofs.tick.tick_at.Goals as goal

-- the tick that was found is the tick
same : (clock : Clock) (moment : ℤ) (result : Option ℤ) → 0 < clock.length
    → MatchOption result (¬ (IsInReach clock moment)) (λ tick. IsInTick clock tick moment × (neg_ℤ T <ℤ tick) × (tick ≤ℤ T))
    → result ≡ tick_at clock moment
same clock moment None some out = sym (missing clock moment some out)
same clock moment (Some tick) some lies = sym (found clock moment tick some lies.0 lies.1 lies.2)

pub returns-clause-tick : goal.returns-clause-tick
returns-clause-tick c =
    same c.args.clock c.args.moment c.tick_of.result c.requires
    (rw (to_z-of_z w128 c.args.moment c.ranges.moment) at c.tick_of.ensures)
