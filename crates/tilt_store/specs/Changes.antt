-- One change more.
use Rattle.std.specs.Prelude.{◌≡◌, List, [], ◌∷◌, ◌++◌}
use Rattle.tilt_store.specs.Kept.{Kept}
use Rattle.tilt_store.specs.MemFolder.{changes}
use Rattle.tilt_store.specs.declared.change.Change.{Change}

-- one change was added, and a crash can make no more of a folder by it than the step does
pub record HasNoted (step : Kept → Kept → Type 0) (old new : List Change) : Type 0 where
  pub change : Change
  pub added : new ≡ old ++ change ∷ []
  pub means : (d c : Kept) → changes change d c → step d c
