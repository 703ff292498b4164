use Rattle.std.proofs.Common.{◌≡◌, replicate}
use Rattle.tilt_watermarks.specs.Steps.{unknown}
use Rattle.tilt_watermarks.proofs.lanes.Lanes.new.Given as goal

abbrev pub invariant-loop : goal.invariant-loop
invariant-loop l = l.lanes.items ≡ replicate l.counter unknown
