-- The lines so far say the edits so far.
use Rattle.std.proofs.Common.{ℕ, length}
use Rattle.tilt_edits.specs.Reading.{HasRead}
use Rattle.tilt_edits.proofs.reader.collect_edits.Given as goal

abbrev pub invariant-loop-edit : goal.invariant-loop-edit
invariant-loop-edit l = (number : ℕ) × HasRead l.inputs l.bytes l.left l.edits.items number

abbrev pub decreases-loop-edit : goal.decreases-loop-edit
decreases-loop-edit l = length l.left
