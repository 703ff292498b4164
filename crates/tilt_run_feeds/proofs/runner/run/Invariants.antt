use Rattle.tilt_run_feeds.specs.Engines.{IsEngine}
use Rattle.tilt_run_feeds.proofs.runner.run.Given as goal

abbrev pub invariant-loop-line : goal.invariant-loop-line
invariant-loop-line l = IsEngine l.run.engine
