use Rattle.std.proofs.Common.{◌≡◌, ℕ, List, length}
use Rattle.tilt_compiler.specs.Accepted.{AcceptedParts}
use Rattle.tilt_feed_form.specs.Said.{FeedState}
use Rattle.tilt_live_run.proofs.Placing.{IsPassing}
use Rattle.tilt_live_run.proofs.Underway.{IsUnderway}
use Rattle.tilt_live_run.specs.Left.{keeps_state}
use Rattle.tilt_live_run.specs.Runs.{IsPlaced, IsRunAfter, IsSound}
use Rattle.tilt_live_run.specs.declared.run_options.RunOptions.{RunOptions}
use Rattle.tilt_live_run.proofs.live_run.LiveRun.take_piece.Given as goal

abbrev pub invariant-loop-line : goal.invariant-loop-line
invariant-loop-line g l = record {
  takes : (n : ℕ) → g.E.Sink.takes l.err n;
  sound : IsSound l.self;
  placed : (bytes : List ℕ) → IsPlaced l.fn.self bytes → IsPassing bytes l.fn.piece l.self.place l.rest;
  keeps : keeps_state l.self.run ≡ keeps_state l.fn.self.run;
  shown : l.self.run.shown ≡ l.fn.self.run.shown;
  display : l.self.run.display ≡ l.fn.self.run.display;
  of : (accepted : AcceptedParts) (options : RunOptions) (number : ℕ) (state : FeedState) (front : List ℕ) (given : ℕ)
      → IsRunAfter l.fn.self accepted options number state front given
      → IsUnderway g.E.Sink.tells g.E.Sink.written g.E.Sink.faults accepted options given l.fn.err number state front l.fn.piece l.self l.err l.rest;
}

abbrev pub decreases-loop-line : goal.decreases-loop-line
decreases-loop-line g l = length l.rest
