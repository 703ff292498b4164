use Rattle.std.proofs.Common.{◌≡◌, map, take}
use Rattle.std.specs.List.{AllByRecursion}
use Rattle.tilt_session.specs.Parts.{part_of}
use Rattle.tilt_stream.specs.Snap.{AreRows}
use Rattle.tilt_session.proofs.part.session_rows.Given as goal

abbrev pub invariant-loop-input : goal.invariant-loop-input
invariant-loop-input l = record {
  parts : l.parts.items ≡ map (part_of l.from l.cut) (take l.input-index l.rows);
  in_order : AllByRecursion AreRows (take l.input-index l.rows);
}
