-- What a run that goes on, or stops, has reported.
use Rattle.std.specs.Prelude.{◌≡◌, ℕ, List, Result, OnOk, OnErr, IfErr}
use Rattle.tilt_live_run.specs.declared.stop.Stop.{Stop}
use Rattle.tilt_live_run.specs.declared.stop.Stop.TheVariants.{BadLine}
use Rattle.tilt_serving.specs.Reported.{Reported, ReportedFront}

-- The meanings of a sink: whether it says what it holds, what was written, and its count of faults.
module _ {K : Type 0} (tells : Type 0) (written : K → List ℕ) (faults : K → ℕ) where
  -- a text was reported: all of it if the run goes on or if a bad line stopped it, and otherwise a prefix of it
  pub record Reports {T : Type 0} (old new : K) (text : List ℕ) (result : Result T Stop) : Type 0 where
    pub whole : OnOk result (Reported tells written faults old new text)
    pub stopped : IfErr result (λ stop. stop ≡ BadLine → Reported tells written faults old new text)
    pub front : OnErr result (ReportedFront tells written faults old new text)
