-- What a folder holds of a feed (our own rule).
use Rattle.std.specs.Prelude.{◌≡◌, ◌⊎◌, ℕ, List, [], ◌++◌, Ok}
use Rattle.tilt_store.specs.Commit.{Commit, resumed}
use Rattle.tilt_store.specs.Kept.{Kept}

-- the commit of a folder in which nothing was begun
abbrev pub nothing : Commit
nothing = record { output = []; state = [] }

-- Which commits are those of bytes of a feed.
module _ (Is : List ℕ → Commit → Type 0) where
  -- it is the commit of these bytes; or there are none, and nothing was begun
  abbrev pub IsOf : List ℕ → Commit → Type 0
  IsOf bytes commit = ((bytes ≡ []) × (commit ≡ nothing)) ⊎ Is bytes commit

  -- a start goes on from the commit of these bytes
  pub record Holds (bytes : List ℕ) (kept : Kept) : Type 0 where
    pub commit : Commit
    pub resumes : resumed [] kept ≡ Ok commit
    pub is : IsOf bytes commit

  -- the same of bytes and a front of what was read after them
  pub record HoldsFront (bytes read : List ℕ) (kept : Kept) : Type 0 where
    pub front : List ℕ
    pub rest : List ℕ
    pub parts : read ≡ front ++ rest
    pub holds : Holds (bytes ++ front) kept
