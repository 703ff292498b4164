use Rattle.tilt_run_feeds.specs.Engines.{IsEngine}
use Rattle.tilt_run_feeds.proofs.runner.FeedRun.take_for_all.Given as goal

abbrev pub invariant-loop-input : goal.invariant-loop-input
invariant-loop-input l = IsEngine l.self.engine
