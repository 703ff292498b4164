use Rattle.std.proofs.Common.{◌≡◌, ℕ, List, length}
use Rattle.tilt_compiler.specs.Accepted.{AcceptedParts}
use Rattle.tilt_live_run.proofs.Placing.{IsPassing}
use Rattle.tilt_live_run.proofs.Stepping.{IsAlong}
use Rattle.tilt_live_run.specs.Left.{keeps_state}
use Rattle.tilt_live_run.specs.Runs.{IsPlaced, IsRunOf, IsSound}
use Rattle.tilt_live_run.specs.declared.run_options.RunOptions.{RunOptions}
use Rattle.tilt_live_run.proofs.live_run.LiveRun.take_lines.Given as goal

abbrev pub invariant-loop-line : goal.invariant-loop-line
invariant-loop-line g l = record {
  takes : (n : ℕ) → g.E.Sink.takes l.err n;
  sound : IsSound l.self;
  placed : (bytes : List ℕ) → IsPlaced l.fn.self bytes → IsPassing bytes l.fn.piece l.self.place l.rest;
  keeps : keeps_state l.self.run ≡ keeps_state l.fn.self.run;
  of : (accepted : AcceptedParts) (options : RunOptions) (bytes : List ℕ) → IsRunOf l.fn.self accepted options bytes
      → IsAlong g.P.Port.tells g.E.Sink.tells g.E.Sink.written g.E.Sink.faults accepted options (g.P.Port.transcript l.fn.port) l.fn.err bytes l.fn.piece
      l.self (g.P.Port.transcript l.port) l.err l.rest;
}

abbrev pub decreases-loop-line : goal.decreases-loop-line
decreases-loop-line g l = length l.rest
