use Rattle.std.proofs.Common.{◌≡◌, take}
use Rattle.tilt_magnitudes.proofs.query.copied.Given as goal

abbrev pub invariant-loop-interval : goal.invariant-loop-interval
invariant-loop-interval l = l.all.items ≡ take l.interval-index l.inputs
