-- The margins of a core, and its reach.
use Rattle.std.proofs.Common.{◌≡◌, ℕ, zero, suc, pos, ◌≤ℤ◌, Bool, true, false, if◌then◌else◌, List, [], ◌∷◌, length, get_or, ◌++◌, map, Option, Some, None, Ok, Err, sym, ap, arith}
use Rattle.std.specs.Int.{int_max}
use Rattle.std.specs.List.{range_with_len}
use Rattle.std.proofs.lemmas.Int.{ints, clamps}
use Rattle.tilt_bounds.proofs.Needs.{widest-append, widest-low}
use Rattle.tilt_bounds.proofs.Steps.{length-needs_from}
use Rattle.tilt_bounds.specs.Margins.{MarginsParts, is_too_far, margins_of}
use Rattle.tilt_core.proofs.Constancy.{definitions-AreGrids}
use Rattle.tilt_core.specs.Core.{CoreParts, IsCore}
use Rattle.tilt_core.specs.CoreTree.{Definition}
use Rattle.tilt_core.specs.Meaning.{AreGrids}
use Rattle.tilt_core.specs.Needs.{Need, asked_from, body_needs, needs, needs_from, reach, wider, widest}

abbrev pub reach_of : CoreParts → Need
reach_of core = reach (length core.inputs) core.defs

-- no reach has a negative number
pub reach_low : (core : CoreParts) → (pos 0 ≤ℤ (reach_of core).back) × (pos 0 ≤ℤ (reach_of core).ahead)
reach_low core =
    widest-low (map (asked_from (length core.inputs) core.defs) (range_with_len 0 (length core.inputs)) ++ body_needs core.defs (needs_from (length core.inputs) core.defs))

-- margins have the look-back and the look-ahead of the reach
pub record HaveReach (core : CoreParts) (margins : MarginsParts) : Type 0 where
  pub back : margins.back ≡ (reach_of core).back
  pub ahead : margins.ahead ≡ (reach_of core).ahead

reach_by : (far : Bool) (core : CoreParts) (margins : MarginsParts)
    → (if far then Err (reach_of core) else Ok (record { back = (reach_of core).back; ahead = (reach_of core).ahead; needs = needs (length core.inputs) core.defs })) ≡ Ok margins
    → HaveReach core margins
reach_by true core margins h = absurd (cc h)
reach_by false core margins h =
    let is : record { back = (reach_of core).back; ahead = (reach_of core).ahead; needs = needs (length core.inputs) core.defs } ≡ margins = cc h in
    record { back = sym (ap (λ (m : MarginsParts). m.back) is); ahead = sym (ap (λ (m : MarginsParts). m.ahead) is) }

pub margins_reach : (core : CoreParts) (margins : MarginsParts) → margins_of core ≡ Ok margins → HaveReach core margins
margins_reach core margins h = reach_by (is_too_far (reach_of core)) core margins h

-- the need of a definition is within the widest of the needs of bodies
pub in_bodies : (defs : List Definition) (ns : List (Option Need)) (k : ℕ) (n : Need) → AreGrids defs → length ns ≡ length defs → get_or ns k None ≡ Some n
    → (n.back ≤ℤ (widest (body_needs defs ns)).back) × (n.ahead ≤ℤ (widest (body_needs defs ns)).ahead)
in_bodies [] [] k n grids many is = absurd (cc is)
in_bodies [] (m ∷ ns) k n grids many is = absurd (omega arith)
in_bodies (def ∷ defs) [] k n grids many is = absurd (omega arith)
in_bodies (def ∷ defs) (None ∷ ns) zero n grids many is = absurd (cc is)
in_bodies (def ∷ defs) (None ∷ ns) (suc k) n grids many is = in_bodies defs ns k n grids.1 (omega arith) is
in_bodies (def ∷ defs) (Some m ∷ ns) zero n grids many is =
    let same : m ≡ n = cc is in
    let back : m.back ≡ n.back = ap (λ (x : Need). x.back) same in
    let ahead : m.ahead ≡ n.ahead = ap (λ (x : Need). x.ahead) same in
    let period = grids.0.period_low in
    (omega (arith, ints, clamps), omega (arith, ints, clamps))
in_bodies (def ∷ defs) (Some m ∷ ns) (suc k) n grids many is =
    let rest = in_bodies defs ns k n grids.1 (omega arith) is in
    let back = rest.0 in
    let ahead = rest.1 in
    (omega (arith, ints, clamps), omega (arith, ints, clamps))

-- so it is within the reach
pub in_reach : (core : CoreParts) (k : ℕ) (n : Need) → IsCore core → get_or (needs_from (length core.inputs) core.defs) k None ≡ Some n
    → (n.back ≤ℤ (reach_of core).back) × (n.ahead ≤ℤ (reach_of core).ahead)
in_reach core k n is at =
    let count = length core.inputs in
    let inputs = map (asked_from count core.defs) (range_with_len 0 count) in
    let bodies = body_needs core.defs (needs_from count core.defs) in
    let within = in_bodies core.defs (needs_from count core.defs) k n (definitions-AreGrids count core.defs is.definitions) (length-needs_from count core.defs) at in
    let back = within.0 in
    let ahead = within.1 in
    let all : reach_of core ≡ wider (widest inputs) (widest bodies) = widest-append inputs bodies in
    let all_back : (reach_of core).back ≡ int_max (widest inputs).back (widest bodies).back = ap (λ (x : Need). x.back) all in
    let all_ahead : (reach_of core).ahead ≡ int_max (widest inputs).ahead (widest bodies).ahead = ap (λ (x : Need). x.ahead) all in
    (omega (arith, ints, clamps), omega (arith, ints, clamps))
