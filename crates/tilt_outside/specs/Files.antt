-- What a read gives of a file.
use Rattle.std.specs.Prelude.{◌≡◌, ℕ, ◌≤◌, List, length, take, drop}

-- the first n bytes of the room are those of the file from a place on, and there are none only at the file's end
pub record IsNextPiece (file : List ℕ) (at : ℕ) (room : List ℕ) (n : ℕ) : Type 0 where
  pub piece : take n room ≡ take n (drop at file)
  pub end : n ≡ 0 → length file ≤ at
