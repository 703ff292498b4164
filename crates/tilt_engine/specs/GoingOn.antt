-- What a later state of lists leaves as it is (our own rule).
use Rattle.std.specs.Prelude.{◌≡◌, ℤ, ◌≤ℤ◌, ◌+ℤ◌, List, [], ◌∷◌, length, ⊤}
use Rattle.std.specs.List.{AllByRecursion}
use Rattle.tilt_base.specs.declared.limits.TheConstants.{REACH, T}
use Rattle.tilt_code.specs.Code.{CodeParts}
use Rattle.tilt_feed.specs.Horizon.{Horizon, IsKnownAt}
use Rattle.tilt_feed.specs.Resting.{RestsOn}
use Rattle.tilt_stream.specs.Snap.{Snapshot}

-- each of some lists goes on, up to its horizon
abbrev pub AllGoOn : List Horizon → List (List Snapshot) → List (List Snapshot) → Type 0
AllGoOn [] [] [] = ⊤
AllGoOn (h ∷ hs) (before ∷ befores) (after ∷ afters) = RestsOn h before after × AllGoOn hs befores afters
AllGoOn hs befores afters = ⊥

-- the loops of a code end where those of a query do, or before
abbrev pub IsNearCode : CodeParts → Type 0
IsNearCode code = AllByRecursion (λ l. l.hi ≤ℤ (T +ℤ REACH)) code.loops

-- what is known by one is known by the other
abbrev pub Rises : Horizon → Horizon → Type 0
Rises before after = (tick : ℤ) → IsKnownAt before tick → IsKnownAt after tick

-- the same of each of some horizons
abbrev pub AllRise : List Horizon → List Horizon → Type 0
AllRise [] [] = ⊤
AllRise (before ∷ befores) (after ∷ afters) = Rises before after × AllRise befores afters
AllRise befores afters = ⊥

-- rows of inputs that are known up to horizons, and later rows, which are known farther
pub record GoOn (hs : List Horizon) (rows : List (List Snapshot)) (later_hs : List Horizon) (later : List (List Snapshot)) : Type 0 where
  pub rows_go_on : AllGoOn hs rows later
  pub horizons_rise : AllRise hs later_hs
  pub many : length later ≡ length rows
  pub many_horizons : length later_hs ≡ length hs
