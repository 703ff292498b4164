use Rattle.std.proofs.Common.{◌≡◌, map, take}
use Rattle.tilt_pipe.proofs.RingsKept.{empty_ring}
use Rattle.tilt_pipe.proofs.rings.Rings.new.Given as goal

abbrev pub invariant-loop-each : goal.invariant-loop-each
invariant-loop-each l = l.rings.items ≡ map empty_ring (take l.each-index l.each-items)
