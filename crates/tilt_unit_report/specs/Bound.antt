-- What is known of the inputs of a query (our own rule): the numbers that each has, and how many marks.
use Rattle.std.specs.Prelude.{◌≡◌, ℕ, suc, pos, neg_ℤ, Bool, if◌then◌else◌, List, [], ◌∷◌, map, Option, Some, None, ⊤}
use Rattle.std.specs.List.{list_any}
use Rattle.std.specs.Str.{bytes_eq}
use Rattle.tilt_magnitudes.specs.Interval.{Interval}
use Rattle.tilt_magnitudes.specs.declared.met.Rate.{Rate}
use Rattle.tilt_unit_report.specs.declared.bound.InputBound.{InputBound}
use Rattle.tilt_unit_report.specs.declared.fault.BoundFault.{BoundFault}
use Rattle.tilt_unit_report.specs.declared.fault.BoundFault.TheVariants as fault

-- any number of 64 bits
abbrev pub any_number : Interval
any_number = record { low = neg_ℤ (pos 9223372036854775808); high = pos 9223372036854775807 }

-- the numbers of the input with a name: those of the first bound with that name, or else any
abbrev pub values_named : List InputBound → List ℕ → Interval
values_named [] name = any_number
values_named (bound ∷ bounds) name = if bytes_eq bound.name name then bound.values else values_named bounds name

-- and its rate, or else a mark at any tick
abbrev pub rate_named : List InputBound → List ℕ → Rate
rate_named [] name = record { marks = 1; ticks = 1 }
rate_named (bound ∷ bounds) name = if bytes_eq bound.name name then bound.rate else rate_named bounds name

-- the same of inputs with these names
abbrev pub values_for : List InputBound → List (List ℕ) → List Interval
values_for bounds names = map (values_named bounds) names

abbrev pub rates_for : List InputBound → List (List ℕ) → List Rate
rates_for bounds names = map (rate_named bounds) names

-- whether one of the inputs has the name
abbrev pub has_name : List (List ℕ) → List ℕ → Bool
has_name inputs name = list_any (bytes_eq name) inputs

-- the first bound of a name that no input has, if the first bound has the number `n`
abbrev pub unknown_bound : List (List ℕ) → ℕ → List InputBound → Option ℕ
unknown_bound inputs n [] = None
unknown_bound inputs n (bound ∷ bounds) = if has_name inputs bound.name then unknown_bound inputs (suc n) bounds else Some n

-- why there is no report: the first bound of an unknown name, or no memory
abbrev pub IsBoundFault : Option ℕ → BoundFault → Type 0
IsBoundFault unknown (fault.UnknownInput bound) = unknown ≡ Some bound
IsBoundFault unknown fault.OutOfMemory = ⊤
