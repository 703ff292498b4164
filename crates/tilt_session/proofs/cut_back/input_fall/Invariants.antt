use Rattle.std.proofs.Common.{◌≡◌, drop}
use Rattle.tilt_checkpoint.specs.Checkpoint.{cuts_kept}
use Rattle.tilt_session.specs.Cuts.{fall_of}
use Rattle.tilt_session.proofs.cut_back.input_fall.Given as goal

abbrev pub invariant-loop-i : goal.invariant-loop-i
invariant-loop-i l = fall_of (cuts_kept (drop l.i l.series)) (drop l.i l.cuts) ≡ fall_of (cuts_kept l.series) l.cuts
