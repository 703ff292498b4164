use Rattle.std.proofs.Common.{◌≡◌, take}
use Rattle.tilt_engine.specs.Forgetting.{each_later, later_inlet}
use Rattle.tilt_engine.proofs.forgetting.forget_rows.Given as goal

abbrev pub invariant-loop-place : goal.invariant-loop-place
invariant-loop-place l = l.inputs ≡ each_later later_inlet (take l.place l.counts) l.fn.inputs
