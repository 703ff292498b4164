-- Where a local time is among the transitions of a zone.
use Rattle.std.specs.Prelude.{◌≡◌, ◌⊎◌, ℕ, suc, ◌≤◌, ◌<◌, List, length, ℤ, ◌+ℤ◌, ◌≤ℤ◌, ◌<ℤ◌, Option, Some, None, Result, Ok, Err}
use Rattle.tilt_zones.specs.declared.fault.LocalFault.{LocalFault}
use Rattle.tilt_zones.specs.declared.fault.LocalFault.TheVariants.{Skipped, Doubled}
use Rattle.tilt_zones.specs.declared.moments.Fold.{Fold}
use Rattle.tilt_zones.specs.declared.moments.Fold.TheVariants.{First, Second}
use Rattle.tilt_zones.specs.declared.moments.Moments.{Moments}
use Rattle.tilt_zones.specs.declared.moments.Moments.TheVariants.{Never, Once, Twice}
use Rattle.tilt_zones.specs.declared.transition.Transition.{Transition}
use Rattle.tilt_zones.specs.Order.{offset_after, shown_from, transition_at}
use Rattle.tilt_zones.specs.Zone.{IsShownAt, IsSkipped, ZoneParts}

-- transitions come later and later, and set clocks to later and later local times
abbrev pub IsRising : List Transition → Type 0
IsRising ts = (i : ℕ) → suc i < length ts
    → ((transition_at ts i).moment ≤ℤ (transition_at ts (suc i)).moment) × (shown_from (transition_at ts i) ≤ℤ shown_from (transition_at ts (suc i)))

-- so many transitions are those whose key is at most a number
pub record IsPlaceOf (key : Transition → ℤ) (ts : List Transition) (z : ℤ) (count : ℕ) : Type 0 where
  pub bound : count ≤ length ts
  pub passed : (i : ℕ) → i < count → key (transition_at ts i) ≤ℤ z
  pub ahead : (i : ℕ) → count ≤ i → i < length ts → z <ℤ key (transition_at ts i)

-- by the offset after so many transitions, clocks show a local time before the next one comes
abbrev pub IsBeforeNext : ℤ → List Transition → ℕ → ℤ → Type 0
IsBeforeNext first ts count local = count < length ts → local <ℤ ((transition_at ts count).moment +ℤ offset_after first ts count)

-- these are the moments at which a local time is shown
abbrev pub AreMoments : ZoneParts → ℤ → Moments → Type 0
AreMoments zone local Never = IsSkipped zone local
AreMoments zone local (Once m) = IsShownAt zone local m × ((n : ℤ) → IsShownAt zone local n → n ≡ m)
AreMoments zone local (Twice m n) = (m <ℤ n) × IsShownAt zone local m × IsShownAt zone local n
    × ((o : ℤ) → IsShownAt zone local o → (o ≡ m) ⊎ (o ≡ n))

-- one or two moments, in order
abbrev pub moments_from : Option ℤ → Option ℤ → Moments
moments_from None None = Never
moments_from (Some m) None = Once m
moments_from None (Some m) = Once m
moments_from (Some m) (Some n) = Twice m n

-- the moment that is meant
abbrev pub chosen : Moments → Option Fold → Result ℤ LocalFault
chosen Never fold = Err Skipped
chosen (Once m) fold = Ok m
chosen (Twice m n) None = Err Doubled
chosen (Twice m n) (Some First) = Ok m
chosen (Twice m n) (Some Second) = Ok n
