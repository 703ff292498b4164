use Rattle.std.proofs.Common.{Some}
use Rattle.tilt_pipe.specs.Chain.{LetsGo}
use Rattle.tilt_pipe.specs.Trimmed.{HasNextEnd, held_at}
use Rattle.tilt_pipe.proofs.chain.Chain.release.Given as goal

abbrev pub invariant-loop-next : goal.invariant-loop-next
invariant-loop-next l = record { lets : LetsGo l.fn.self l.self l.place; end : HasNextEnd l.self.rings l.place (Some l.end) }

abbrev pub decreases-loop-next : goal.decreases-loop-next
decreases-loop-next l = held_at l.self.rings l.place
