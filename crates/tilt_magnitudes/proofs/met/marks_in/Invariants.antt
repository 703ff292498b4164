use Rattle.std.proofs.Common.{◌≡◌, drop}
use Rattle.tilt_core.specs.Core.{AreDefinitions}
use Rattle.tilt_magnitudes.specs.Marks.{marks_in, more_marks}
use Rattle.tilt_magnitudes.proofs.met.marks_in.Given as goal

-- the definitions so far, with those that are left, are all of them
abbrev pub invariant-loop-place : goal.invariant-loop-place
invariant-loop-place l = record {
  whole : more_marks l.ticks l.marks.items (drop l.place l.defs) ≡ marks_in l.rates l.defs l.ticks;
  definitions : AreDefinitions l.before l.defs;
}
