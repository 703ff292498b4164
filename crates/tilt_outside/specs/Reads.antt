-- What reads leave of a shelf.
use Rattle.std.specs.Prelude.{◌≡◌, ◌≤◌, ◌↔◌, ℕ, List}

-- the names hold what they held and take what they took, no fewer reads have failed, and no save has since; the first four are a shelf's
-- meanings
pub record OnlyReads {S : Type 0} (files : S → List ℕ → List ℕ) (read_faults save_faults : S → ℕ) (takes : S → List ℕ → ℕ → Type 0)
    (old new : S) : Type 0 where
  pub same_files : files new ≡ files old
  pub no_fewer_read_faults : read_faults old ≤ read_faults new
  pub same_save_faults : save_faults new ≡ save_faults old
  pub same_takes : (name : List ℕ) (n : ℕ) → takes old name n ↔ takes new name n
