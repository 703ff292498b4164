use Rattle.std.proofs.Common.{◌≡◌, ◌≤◌, drop, length}
use Rattle.tilt_core.specs.Core.{AreDefinitions}
use Rattle.tilt_magnitudes.specs.Marks.{marks_in}
use Rattle.tilt_magnitudes.specs.Magnitude.{magnitudes, more_magnitudes}
use Rattle.tilt_magnitudes.proofs.query.magnitudes_of.Given as goal

-- the definitions so far, with those that are left, are all of them
abbrev pub invariant-loop-place : goal.invariant-loop-place
invariant-loop-place l = record {
  whole : more_magnitudes (marks_in l.rates l.core.defs) l.place l.all.items (drop l.place l.defs) ≡ magnitudes l.inputs l.rates l.core.defs;
  few : length l.defs ≤ 256;
  same : l.defs ≡ l.core.defs;
  definitions : AreDefinitions l.before l.defs;
}
