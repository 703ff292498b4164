use Rattle.std.proofs.Common.{drop}
use Rattle.tilt_parts.proofs.Begun.{AreBegun}
use Rattle.tilt_parts.proofs.parts.Parts.new.Given as goal

abbrev pub invariant-loop-cut : goal.invariant-loop-cut
invariant-loop-cut l = AreBegun l.accepted l.rows l.domain l.cuts l.start (drop l.cut-index l.cuts) l.parts.items
