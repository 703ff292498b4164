-- What taking a piece of the feed did, and what was written.
use Rattle.std.specs.Prelude.{◌≡◌, ℕ, Bool, true, false, List, ◌++◌, Result, Ok, Err, OnOk, MatchResult}
use Rattle.tilt_core.specs.Core.{CoreParts}
use Rattle.tilt_live_run.specs.Adds.{Adds}
use Rattle.tilt_live_run.specs.Output.{news}
use Rattle.tilt_live_run.specs.Reported.{Reports}
use Rattle.tilt_live_run.specs.Runs.{added, is_stopped, reported, state_after, state_taken}
use Rattle.tilt_live_run.specs.declared.run_options.RunOptions.{RunOptions}
use Rattle.tilt_live_run.specs.declared.stop.Stop.{Stop}
use Rattle.tilt_live_run.specs.declared.stop.Stop.TheVariants.{BadLine, OutOfMemory, WriteFault}
use Rattle.tilt_port.specs.Transcript.{Transcript}

-- whether a run stopped, and not at a bad line
abbrev pub is_lost : Result (Unit {0}) Stop → Bool
is_lost (Ok u) = false
is_lost (Err BadLine) = false
is_lost (Err WriteFault) = true
is_lost (Err OutOfMemory) = true

-- The port before and after; the sink of reports, before and after; and which bytes the run is of then.
module _ {K : Type 0} (port_tells : Type 0) (port port_then : Transcript) (tells : Type 0) (written : K → List ℕ) (faults : K → ℕ) (err err_then : K)
    (Is : List ℕ → Type 0) (core : CoreParts) (options : RunOptions) (bytes piece : List ℕ) (result : Result (Unit {0}) Stop) where
  -- a piece was taken, and these bytes were written
  pub record HasWritten (wrote : List ℕ) : Type 0 where
    pub adds : Adds port_tells port port_then wrote result
    pub reports : Reports tells written faults err err_then (reported options core bytes piece) result
    pub goes_on : OnOk result (Is (bytes ++ piece))
    pub stops : MatchResult result (λ _. is_stopped options core bytes piece ≡ false) (λ stop. stop ≡ BadLine → is_stopped options core bytes piece ≡ true)

  -- what all of its lines make final was written at once
  abbrev pub HasStepped : Type 0
  HasStepped = HasWritten (news options.display core (state_after options core bytes).feed (state_taken options core bytes piece).feed)

  -- what each of its lines adds was written
  abbrev pub HasTaken : Type 0
  HasTaken = HasWritten (added options core bytes piece)
