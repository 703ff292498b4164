-- A folder with an output file and a state file, and what a crash during a call can leave of it.
use Rattle.std.specs.Prelude.{◌≡◌, ◌≤◌, ◌+◌, ◌⊎◌, ℕ, List, length, take, min, max}

-- the bytes of the output file, and those of the state file. A file that isn't there has none
pub record Kept : Type 0 where
  pub output : List ℕ
  pub state : List ℕ

-- after an append of n bytes at a place: what is before the place stays, and after it any bytes can be, up to the end of the append
pub record Torn (at n : ℕ) (old new : Kept) : Type 0 where
  pub before : take (min at (length old.output)) new.output ≡ take (min at (length old.output)) old.output
  pub no_shorter : length old.output ≤ length new.output
  pub no_longer : length new.output ≤ max (length old.output) (at + n)
  pub state : new.state ≡ old.state

-- after a cut to n bytes: some length between
pub record Cut (n : ℕ) (old new : Kept) : Type 0 where
  pub no_shorter : min n (length old.output) ≤ length new.output
  pub front : new.output ≡ take (length new.output) old.output
  pub state : new.state ≡ old.state

-- after the state is replaced: the old one or the new one, and the same output
pub record Replaced (bytes : List ℕ) (old new : Kept) : Type 0 where
  pub output : new.output ≡ old.output
  pub state : (new.state ≡ old.state) ⊎ (new.state ≡ bytes)
