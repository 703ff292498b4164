-- What was reported to a sink whose faults change nothing.
use Rattle.std.specs.Prelude.{◌≡◌, ◌≤◌, ℕ, true, false, List, ◌++◌, Result}
use Rattle.tilt_outside.specs.Faults.{Rose}
use Rattle.tilt_serving.specs.Stops.{is_lost}
use Rattle.tilt_serving.specs.declared.stop.Stop.{Stop}

-- The meanings of a sink: whether it says what it holds, what was written, and its count of faults.
module _ {K : Type 0} (tells : Type 0) (written : K → List ℕ) (faults : K → ℕ) where
  -- a text was written whole, unless the count of faults rose
  pub record Reported (old new : K) (text : List ℕ) : Type 0 where
    pub kept : faults old ≤ faults new
    pub told : tells → (Rose (faults old) (faults new) → ⊥) → written new ≡ written old ++ text

  -- the same of a prefix of a text
  pub record ReportedFront (old new : K) (text : List ℕ) : Type 0 where
    pub front : List ℕ
    pub rest : List ℕ
    pub parts : text ≡ front ++ rest
    pub reported : Reported old new front

  -- a text was reported: all of it if the run goes on or if a line stopped it, and otherwise a prefix of it
  pub record Reports {T : Type 0} (old new : K) (text : List ℕ) (result : Result T Stop) : Type 0 where
    pub whole : is_lost result ≡ false → Reported old new text
    pub front : is_lost result ≡ true → ReportedFront old new text
