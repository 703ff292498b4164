-- The state of a run over a feed with keys, as plain data (our own rule).
use Rattle.std.specs.Prelude.{ℕ, List, Option}

-- a key, and the text of its run's state
pub record KeyStateParts : Type 0 where
  pub key : List ℕ
  pub state : List ℕ

-- the last line of every key, if there was one, and the keys, in the order of their first lines
pub record KeyedStateParts : Type 0 where
  pub shared : Option (List ℕ)
  pub keys : List KeyStateParts
