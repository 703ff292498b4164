-- What the margins of a core are.
use Rattle.std.proofs.Common.{◌≡◌, Bool, true, false, if◌then◌else◌, length, Result, Ok, Err, sym, ap}
use Rattle.tilt_bounds.specs.Margins.{MarginsParts, is_too_far, margins_of}
use Rattle.tilt_core.specs.Core.{CoreParts}
use Rattle.tilt_core.specs.Needs.{Need, needs, reach}

given_by : (far : Bool) (w : Need) (made m : MarginsParts) → ◌≡◌ {A = Result MarginsParts Need} (if far then Err w else Ok made) (Ok m) → made ≡ m
given_by true w made m e = absurd (cc e)
given_by false w made m e = cc e

-- margins have the look-back, the look-ahead and the needs of the core
pub margins-reach : (core : CoreParts) (m : MarginsParts) → margins_of core ≡ Ok m
    → (let w = reach (length core.inputs) core.defs in (w.back ≡ m.back) × (w.ahead ≡ m.ahead) × (m.needs ≡ needs (length core.inputs) core.defs))
margins-reach core m near =
    let w = reach (length core.inputs) core.defs in
    let made = given_by (is_too_far w) w _ m near in
    (ap (λ (p : MarginsParts). p.back) made, ap (λ (p : MarginsParts). p.ahead) made, sym (ap (λ (p : MarginsParts). p.needs) made))

pub margins-needs : (core : CoreParts) (m : MarginsParts) → margins_of core ≡ Ok m → m.needs ≡ needs (length core.inputs) core.defs
margins-needs core m near = (margins-reach core m near).2
