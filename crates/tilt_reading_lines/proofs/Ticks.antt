-- The tick of a moment.
use Rattle.std.proofs.Common.{◌≡◌, ◌<◌, ℤ, pos, neg_ℤ, ◌+ℤ◌, ◌-ℤ◌, ◌≤ℤ◌, ◌<ℤ◌, Option, Some, None, refl, ap, ◌∙◌, subst, arith}
use Rattle.std.proofs.lemmas.Int.{ints, by_lt_z}
use Rattle.tilt_base.specs.declared.limits.TheConstants.{T}
use Rattle.tilt_readings.specs.Tick.{IsBetween, IsInReach, IsInTick}
use Rattle.tilt_readings.specs.declared.tick.Clock.{Clock}
use Rattle.tilt_readings.specs.declared.tick.Closed.TheVariants.{Left, Right}
use Rattle.tilt_readings.specs.declared.tick.Closed.{Closed}
use Rattle.tilt_readings.proofs.TickLemmas.{later, one_tick, start_left, start_right, too_early, too_late}
use Rattle.tilt_reading_lines.specs.Tick.{in_reach, tick_at, whole_ticks}

-- a moment lies in the tick after the whole ones before it
next_by : (clock : Clock) (moment : ℤ) (closed : Closed) → 0 < clock.length → clock.closed ≡ closed
    → IsInTick clock (whole_ticks closed (moment -ℤ clock.origin) clock.length +ℤ pos 1) moment
next_by clock moment Left some is = start_left clock moment _ some is refl
next_by clock moment Right some is = start_right clock moment _ some is refl

pub in_next : (clock : Clock) (moment : ℤ) → 0 < clock.length
    → IsInTick clock (whole_ticks clock.closed (moment -ℤ clock.origin) clock.length +ℤ pos 1) moment
in_next clock moment some = next_by clock moment clock.closed some refl

-- a tick in reach
in_range : (tick : ℤ) → neg_ℤ T <ℤ tick → tick ≤ℤ T → in_reach tick ≡ Some tick
in_range tick low high = grind (arith, ints)

-- a moment in a tick within reach is in reach
reached : (clock : Clock) (tick moment : ℤ) → IsInTick clock tick moment → neg_ℤ T <ℤ tick → tick ≤ℤ T → IsInReach clock moment
reached clock tick moment here low high = ends clock.closed _ _ _ _ moment here (later clock (neg_ℤ T) (tick -ℤ pos 1) (omega (arith, ints))) (later clock tick T high)
  where
    ends : (closed : Closed) (low high first last moment : ℤ) → IsBetween closed low high moment → first ≤ℤ low → high ≤ℤ last
        → IsBetween closed first last moment
    ends Left low high first last moment here under over = let a = here.0 in let b = here.1 in (omega (arith, ints), omega (arith, ints))
    ends Right low high first last moment here under over = let a = here.0 in let b = here.1 in (omega (arith, ints), omega (arith, ints))

-- the tick of a moment that lies in one
pub found : (clock : Clock) (moment tick : ℤ) → 0 < clock.length → IsInTick clock tick moment → neg_ℤ T <ℤ tick → tick ≤ℤ T
    → tick_at clock moment ≡ Some tick
found clock moment tick some here low high =
    ap in_reach (one_tick clock (whole_ticks clock.closed (moment -ℤ clock.origin) clock.length +ℤ pos 1) tick moment
    (in_next clock moment some) here)
    ∙ in_range tick low high

-- what a tick in reach is
reach_is : (next tick : ℤ) → in_reach next ≡ Some tick → (next ≡ tick) × (neg_ℤ T <ℤ tick) × (tick ≤ℤ T)
reach_is next tick is = grind (arith, ints)

-- a moment lies in its tick
pub holds : (clock : Clock) (moment tick : ℤ) → 0 < clock.length → tick_at clock moment ≡ Some tick
    → IsInTick clock tick moment × (neg_ℤ T <ℤ tick) × (tick ≤ℤ T)
holds clock moment tick some is =
    let reach = reach_is (whole_ticks clock.closed (moment -ℤ clock.origin) clock.length +ℤ pos 1) tick is in
    (subst (λ (t : ℤ). IsInTick clock t moment) reach.0 (in_next clock moment some), reach.1, reach.2)

-- a moment that isn't in reach has no tick, and the other way round
pub missing : (clock : Clock) (moment : ℤ) → 0 < clock.length → ¬ (IsInReach clock moment) → tick_at clock moment ≡ None
missing clock moment some out = by (tick_at clock moment) refl
  where
    by : (tick : Option ℤ) → tick_at clock moment ≡ tick → tick_at clock moment ≡ None
    by None is = is
    by (Some tick) is = let lies = holds clock moment tick some is in absurd (out (reached clock tick moment lies.0 lies.1 lies.2))

some_none : (x : Option ℤ) (tick : ℤ) → x ≡ Some tick → x ≡ None → ⊥
some_none x tick is none = cc

pub no_reach : (clock : Clock) (moment : ℤ) → 0 < clock.length → tick_at clock moment ≡ None → ¬ (IsInReach clock moment)
no_reach clock moment some none within =
    by_lt_z (neg_ℤ T) (whole_ticks clock.closed (moment -ℤ clock.origin) clock.length +ℤ pos 1)
    (λ (low : neg_ℤ T <ℤ (whole_ticks clock.closed (moment -ℤ clock.origin) clock.length +ℤ pos 1)).
    by_lt_z T (whole_ticks clock.closed (moment -ℤ clock.origin) clock.length +ℤ pos 1)
    (λ (late : T <ℤ (whole_ticks clock.closed (moment -ℤ clock.origin) clock.length +ℤ pos 1)).
    too_late clock _ moment (in_next clock moment some) late within)
    (λ (high : (whole_ticks clock.closed (moment -ℤ clock.origin) clock.length +ℤ pos 1) ≤ℤ T).
    some_none (tick_at clock moment) _ (in_range (whole_ticks clock.closed (moment -ℤ clock.origin) clock.length +ℤ pos 1) low high) none))
    (λ (early : (whole_ticks clock.closed (moment -ℤ clock.origin) clock.length +ℤ pos 1) ≤ℤ neg_ℤ T).
    too_early clock _ moment (in_next clock moment some) early within)
