-- The lines so far say as many edits as were counted.
use Rattle.std.proofs.Common.{◌≡◌, ◌+◌, ◌≤◌, List, length}
use Rattle.tilt_edits.specs.Reading.{HasRead}
use Rattle.tilt_edits.specs.declared.edit.Edit.{Edit}
use Rattle.tilt_edits.proofs.reader.count_edits.Given as goal

abbrev pub invariant-loop-left : goal.invariant-loop-left
invariant-loop-left l = record {
  read : (edits : List Edit) × HasRead l.inputs l.bytes l.left edits (l.count + 1) × (length edits ≡ l.count);
  room : l.count + length l.left ≤ length l.bytes;
}

abbrev pub decreases-loop-left : goal.decreases-loop-left
decreases-loop-left l = length l.left
