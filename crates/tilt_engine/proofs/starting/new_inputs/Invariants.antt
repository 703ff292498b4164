use Rattle.std.proofs.Common.{◌≡◌, replicate}
use Rattle.tilt_engine.specs.Stock.{resting_inlet}
use Rattle.tilt_feed.specs.Feed.{unknown_input}
use Rattle.tilt_engine.proofs.starting.new_inputs.Given as goal

abbrev pub invariant-loop : goal.invariant-loop
invariant-loop l = l.inputs.items ≡ replicate l.counter (resting_inlet unknown_input)
