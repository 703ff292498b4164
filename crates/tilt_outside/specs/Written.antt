-- What writes leave of a sink.
use Rattle.std.specs.Prelude.{◌≡◌, ◌+◌, ℕ, List, ◌++◌, length, Result, OnOk, OnErr}
use Rattle.tilt_outside.specs.Faults.{HasCause}
use Rattle.tilt_outside.specs.declared.failed.Failed.{Failed}

-- a prefix of the piece was appended
pub record AppendsFront (old new piece : List ℕ) : Type 0 where
  pub front : List ℕ
  pub rest : List ℕ
  pub parts : piece ≡ front ++ rest
  pub appended : new ≡ old ++ front

-- Bytes were written: all of them, or a prefix of them if a write failed; what was taken beyond them still is. The first four are a sink's meanings.
pub record Puts {K : Type 0} (tells : Type 0) (written : K → List ℕ) (faults : K → ℕ) (takes : K → ℕ → Type 0)
    (old new : K) (bytes : List ℕ) (result : Result (Unit {0}) Failed) : Type 0 where
  pub whole : tells → OnOk result (written new ≡ written old ++ bytes)
  pub front : tells → OnErr result (AppendsFront (written old) (written new) bytes)
  pub cause : HasCause (faults old) (faults new) result
  pub room : (n : ℕ) → takes old (length bytes + n) → takes new n
