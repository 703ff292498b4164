-- What clocks of a zone show. Moments count seconds since 1970-01-01T00:00:00Z, local times since 1970-01-01T00:00:00 on the clocks.
use Rattle.std.specs.Prelude.{◌≡◌, ◌≢◌, List, [], ◌∷◌, ℤ, ◌+ℤ◌, ◌≤ℤ◌, ◌<ℤ◌, int_lt, if◌then◌else◌, Option, Some, None, FitsSigned}
use Rattle.std.specs.Int.{w64}
use Rattle.tilt_zones.specs.declared.moments.Fold.{Fold}
use Rattle.tilt_zones.specs.declared.moments.Fold.TheVariants.{First, Second}
use Rattle.tilt_zones.specs.declared.transition.Transition.{Transition}

-- a zone: the offset before the first transition, the transitions, and the moment before which they say what clocks show
pub record ZoneParts : Type 0 where
  pub first : ℤ
  pub transitions : List Transition
  pub end : ℤ

-- how far clocks are ahead of UTC at a moment: by the offset of the last transition that comes up to it
abbrev pub offset_from : ℤ → List Transition → ℤ → ℤ
offset_from offset [] moment = offset
offset_from offset (t ∷ ts) moment = if int_lt moment t.moment then offset else offset_from t.offset ts moment

abbrev pub offset_at : ZoneParts → ℤ → ℤ
offset_at zone moment = offset_from zone.first zone.transitions moment

-- the local time that clocks show at a moment
abbrev pub local_at : ZoneParts → ℤ → ℤ
local_at zone moment = moment +ℤ offset_at zone moment

-- a local time is shown at a moment
abbrev pub IsShownAt : ZoneParts → ℤ → ℤ → Type 0
IsShownAt zone local moment = local_at zone moment ≡ local

-- the transitions say what clocks show at a moment, which is a number of 64 bits
abbrev pub IsKnown : ZoneParts → ℤ → Type 0
IsKnown zone moment = FitsSigned w64 moment × (moment <ℤ zone.end)

-- how the moment that is meant compares with each at which the local time is shown: with no fold there is no other one
abbrev pub IsChosen : Option Fold → ℤ → ℤ → Type 0
IsChosen None moment other = other ≡ moment
IsChosen (Some First) moment other = moment ≤ℤ other
IsChosen (Some Second) moment other = other ≤ℤ moment

-- the moment that a local time means
pub record IsMomentOf (zone : ZoneParts) (local : ℤ) (fold : Option Fold) (moment : ℤ) : Type 0 where
  pub shown : IsShownAt zone local moment
  pub chosen : (other : ℤ) → IsShownAt zone local other → IsChosen fold moment other

-- a local time is shown at no moment
abbrev pub IsSkipped : ZoneParts → ℤ → Type 0
IsSkipped zone local = (moment : ℤ) → ¬ (IsShownAt zone local moment)

-- a local time is shown at more than one moment
abbrev pub IsDoubled : ZoneParts → ℤ → Type 0
IsDoubled zone local = (m n : ℤ) × (m ≢ n) × IsShownAt zone local m × IsShownAt zone local n

-- a local time means a moment at which the transitions don't say what clocks show
abbrev pub IsBeyond : ZoneParts → ℤ → Option Fold → Type 0
IsBeyond zone local fold = (moment : ℤ) × IsMomentOf zone local fold moment × (¬ (IsKnown zone moment))
