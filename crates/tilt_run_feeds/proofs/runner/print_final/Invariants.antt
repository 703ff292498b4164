use Rattle.tilt_run_feeds.specs.Engines.{IsEngine}
use Rattle.tilt_run_feeds.proofs.runner.print_final.Given as goal

abbrev pub invariant-loop : goal.invariant-loop
invariant-loop g l = IsEngine l.engine
