use Rattle.std.proofs.Common.{◌≡◌, take}
use Rattle.tilt_turn.specs.Picked.{computes, picked}
use Rattle.tilt_turn.proofs.computed.computed_of.Given as goal

abbrev pub invariant-loop-place : goal.invariant-loop-place
invariant-loop-place l = l.computed.items ≡ picked computes 0 (take l.place l.body)
