-- What writes leave of a sink if memory may run out between them.
use Rattle.std.specs.Prelude.{◌≡◌, ◌≤◌, ◌+◌, ℕ, List, ◌++◌, length, Result, OnOk, OnErr, IfErr}
use Rattle.tilt_printed.specs.declared.unput.Unput.{Unput}
use Rattle.tilt_printed.specs.declared.unput.Unput.TheVariants.{Failed}
use Rattle.tilt_outside.specs.Faults.{Rose}
use Rattle.tilt_outside.specs.Written.{AppendsFront}

-- bytes were written: all of them, or a prefix of them if a write failed or memory ran out. A write failed only if the count of faults
-- rose. What was taken beyond the bytes still is. The first four are a sink's meanings
pub record Prints {K T : Type 0} (tells : Type 0) (written : K → List ℕ) (faults : K → ℕ) (takes : K → ℕ → Type 0)
    (old new : K) (bytes : List ℕ) (result : Result T Unput) : Type 0 where
  pub whole : tells → OnOk result (written new ≡ written old ++ bytes)
  pub front : tells → OnErr result (AppendsFront (written old) (written new) bytes)
  pub kept : faults old ≤ faults new
  pub rose : IfErr result (λ unput. unput ≡ Failed → Rose (faults old) (faults new))
  pub room : OnOk result ((n : ℕ) → takes old (length bytes + n) → takes new n)
