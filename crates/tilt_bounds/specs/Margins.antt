-- How far back and ahead a query reads, as plain data, and when that is too far (our own rule).
use Rattle.std.specs.Prelude.{◌≡◌, ℕ, ℤ, pos, ◌≤ℤ◌, Bool, ◌||◌, if◌then◌else◌, List, length, Option, Some, None, Result, Ok, Err}
use Rattle.std.specs.Prelude.{int_lt, MatchResult, ⊤, refl}
use Rattle.std.specs.Coded.{Coded, code_by, coded×, coded_ℤ, coded_list, coded_option}
use Rattle.std.specs.List.{slice_index_or}
use Rattle.tilt_base.specs.declared.limits.TheConstants.{REACH}
use Rattle.tilt_core.specs.Core.{CoreParts}
use Rattle.tilt_core.specs.Needs as needs
use Rattle.tilt_bounds.specs.declared.fault.ReachFault.{ReachFault}
use Rattle.tilt_bounds.specs.declared.fault.ReachFault.TheVariants.{TooFar, OutOfMemory}
use Rattle.tilt_bounds.specs.declared.need.Need.{Need}
use Rattle.tilt_bounds.specs.declared.need.Need.TheVariants.{Unused, Used}

-- the look-back and the look-ahead of a query, and the need of each of its sources, which is missing if the source isn't used
pub record MarginsParts : Type 0 where
  pub back : ℤ
  pub ahead : ℤ
  pub needs : List (Option needs.Need)

-- the need that a need in memory is
abbrev pub need_of : Need → Option needs.Need
need_of Unused = None
need_of (Used back ahead) = Some (record { back = back; ahead = ahead })

-- the need of the source with a number
abbrev pub need_at : List (Option needs.Need) → ℕ → Option needs.Need
need_at ns source = slice_index_or ns source None

-- a need, where there is one, is none of negative numbers and looks no farther than another
abbrev pub IsWithin : needs.Need → Option needs.Need → Type 0
IsWithin limit None = ⊤
IsWithin limit (Some n) = (pos 0 ≤ℤ n.back) × (n.back ≤ℤ limit.back) × (pos 0 ≤ℤ n.ahead) × (n.ahead ≤ℤ limit.ahead)

-- the same of the need of each source
pub record AreWithin (limit : needs.Need) (ns : List (Option needs.Need)) : Type 0 where
  pub each : (source : ℕ) → IsWithin limit (need_at ns source)

-- so many ticks back and as many ahead
abbrev pub evenly : ℤ → needs.Need
evenly ticks = record { back = ticks; ahead = ticks }

-- what margins keep: the look-back and the look-ahead are within the limit, and no need looks farther than they do
pub record AreMargins (margins : MarginsParts) : Type 0 where
  pub back : margins.back ≤ℤ REACH
  pub ahead : margins.ahead ≤ℤ REACH
  pub needs : AreWithin (record { back = margins.back; ahead = margins.ahead }) margins.needs

-- whether a look-back or a look-ahead is above the limit
abbrev pub is_too_far : needs.Need → Bool
is_too_far n = int_lt REACH n.back || int_lt REACH n.ahead

-- the margins of a core, or its look-back and look-ahead if one of them is above the limit
abbrev pub margins_of : CoreParts → Result MarginsParts needs.Need
margins_of core =
    let widest = needs.reach (length core.inputs) core.defs in
    if is_too_far widest then Err widest
    else Ok (record { back = widest.back; ahead = widest.ahead; needs = needs.needs (length core.inputs) core.defs })

-- a fault has these numbers, or it is out of memory
abbrev pub IsTold : Result MarginsParts needs.Need → ReachFault → Type 0
IsTold answer (TooFar back ahead) = answer ≡ Err (record { back = back; ahead = ahead })
IsTold answer OutOfMemory = ⊤

-- that result is given, unless memory ran out
abbrev pub Gives : Result MarginsParts ReachFault → Result MarginsParts needs.Need → Type 0
Gives given answer = MatchResult given (λ margins. answer ≡ Ok margins) (λ fault. IsTold answer fault)

-- needs are distinguished part by part
abbrev pub coded_need : Coded needs.Need
coded_need = code_by (ℤ × ℤ) (coded× coded_ℤ coded_ℤ) (λ n. (n.back, n.ahead)) (λ p. record { back = p.0; ahead = p.1 }) (λ _. refl)

-- and so are margins
abbrev pub coded_margins : Coded MarginsParts
coded_margins =
    code_by (ℤ × (ℤ × List (Option needs.Need))) (coded× coded_ℤ (coded× coded_ℤ (coded_list (coded_option coded_need))))
    (λ m. (m.back, (m.ahead, m.needs)))
    (λ p. record { back = p.0; ahead = p.1.0; needs = p.1.1 })
    (λ _. refl)
