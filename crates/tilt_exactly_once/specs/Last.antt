-- The last bytes of a feed that were taken (our own rule).
use Rattle.std.specs.Prelude.{◌≡◌, ◌-◌, ℕ, List, ◌++◌, drop, length}

-- the last of some bytes, at most 4,096
abbrev pub last_of : List ℕ → List ℕ
last_of bytes = drop (length bytes - 4096) bytes

-- bytes end with the last ones of others
pub record EndsAs (others bytes : List ℕ) : Type 0 where
  pub front : List ℕ
  pub parts : bytes ≡ front ++ last_of others
