use Rattle.std.proofs.Common.{rules, inl, inr}
use Rattle.tilt_port.specs.MemPort.{WriteFails}
use Rattle.tilt_port.specs.contracts.mem_port.MemPort.{the_view}
use Rattle.tilt_port.proofs.Pieces.{writes-front, writes-whole}
use Rattle.tilt_port.proofs.mem_port.MemPortPort.write.Goals as goal
use Rattle.tilt_port.proofs.mem_port.MemPortPort.write.Goals.{then-piece-self-via-then-piece-self, then-piece-self-via-else-piece-self+then-contains}

pub returns-then-piece-self-clause-writes : goal.returns-then-piece-self-clause-writes
returns-then-piece-self-clause-writes c =
    rw (c.append.ensures.appended, ← c.self.view_is) (writes-front (the_view c.self.inside) _ _ 0 _ 0 _ c.self.invariant.2.earlier (search rules) (search rules))

pub returns-then-piece-self-clause-fails : goal.returns-then-piece-self-clause-fails
returns-then-piece-self-clause-fails c =
    let fails : WriteFails c.args.self.now c.args.piece.now =
    elim c.then-piece-self.branch [
      | then-piece-self-via-then-piece-self w ↦ rw (← c.self.view_is) (inl w.if-piece-self.true)
      | then-piece-self-via-else-piece-self+then-contains w ↦ rw (← c.self.view_is) (inr (search rules))
    ] in
    (λ _. fails, λ _. search rules)

pub returns-clause-writes : goal.returns-clause-writes
returns-clause-writes c = rw (c.append-2.ensures.appended, ← c.self.view_is) (writes-whole (the_view c.self.inside) _ 0 0 c.self.invariant.2.earlier)
