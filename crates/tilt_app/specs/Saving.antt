-- What saving leaves of the shelf.
use Rattle.std.specs.Prelude.{◌≡◌, ◌≢◌, ◌⊎◌, List, ℕ, Option, None, Some}
use Rattle.tilt_app.specs.Change.{ShelfChange}
use Rattle.tilt_printed.specs.Saving.{SaveValue}

module _ (shelf : ShelfChange) where
  -- every name except this one holds what it held
  abbrev pub OthersHold : List ℕ → Type 0
  OthersHold name = (other : List ℕ) → other ≢ name → shelf.holds other ≡ shelf.held other

  -- the bytes were saved, if something is saved, and every other name holds what it held
  abbrev pub IsSaved : Option SaveValue → Type 0
  IsSaved None = shelf.tells → shelf.holds ≡ shelf.held
  IsSaved (Some save) = shelf.tells → (shelf.holds save.name ≡ save.bytes) × OthersHold save.name

  -- the save failed: the name holds the old or the new bytes, and every other name what it held
  abbrev pub IsUnsaved : SaveValue → Type 0
  IsUnsaved save =
      shelf.tells → ((shelf.holds save.name ≡ shelf.held save.name) ⊎ (shelf.holds save.name ≡ save.bytes)) × OthersHold save.name
