-- What a call leaves of a shelf.
use Rattle.std.specs.Prelude.{◌≡◌, ◌≢◌, ◌⊎◌, ℕ, List}
use Rattle.tilt_outside.specs.Faults.{Rose}

-- a shelf before a call and after it: whether it reports what it holds, what each name held and holds, and its counts of reads and saves
-- that failed
pub record ShelfChange : Type 1 where
  pub tells : Type 0
  pub held : List ℕ → List ℕ
  pub holds : List ℕ → List ℕ
  pub reads_before : ℕ
  pub reads_after : ℕ
  pub saves_before : ℕ
  pub saves_after : ℕ

-- the change of a shelf with these meanings from one state to another
abbrev pub shelf_change : {S : Type 0} → Type 0 → (S → List ℕ → List ℕ) → (S → ℕ) → (S → ℕ) → S → S → ShelfChange
shelf_change tells files read_faults save_faults old new = record {
  tells = tells;
  held = files old;
  holds = files new;
  reads_before = read_faults old;
  reads_after = read_faults new;
  saves_before = save_faults old;
  saves_after = save_faults new;
}

module _ (shelf : ShelfChange) (name bytes : List ℕ) where
  -- every other name holds what it held
  abbrev pub OthersHold : Type 0
  OthersHold = (other : List ℕ) → other ≢ name → shelf.holds other ≡ shelf.held other

  -- the bytes were saved under the name
  abbrev pub IsSaved : Type 0
  IsSaved = shelf.tells → (shelf.holds name ≡ bytes) × OthersHold

  -- the save failed: the name holds the old or the new bytes
  pub record IsUnsaved : Type 0 where
    pub old_or_new : shelf.tells → ((shelf.holds name ≡ shelf.held name) ⊎ (shelf.holds name ≡ bytes)) × OthersHold
    pub rose : Rose shelf.saves_before shelf.saves_after
