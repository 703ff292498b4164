use Rattle.std.proofs.Common.{drop}
use Rattle.tilt_commands.specs.Corrections.{HasApplied}
use Rattle.tilt_commands.proofs.corrected.apply_all.Given as goal

abbrev pub invariant-loop-edit : goal.invariant-loop-edit
invariant-loop-edit l =
    HasApplied l.initial.live.query l.initial.live.rows l.edits l.live l.known.items (drop l.edit-index l.edits)
