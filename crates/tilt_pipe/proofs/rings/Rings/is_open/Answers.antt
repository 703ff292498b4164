use Rattle.tilt_pipe.proofs.RingsKept.{read-at}
use Rattle.tilt_pipe.specs.contracts.rings.Rings.{the_view}
use Rattle.tilt_pipe.proofs.rings.Rings.is_open.Goals as goal

pub returns : goal.returns
returns c = λ w of.
    let it = read-at (the_view c.self.inside) c.args.place w c.index.result.now c.loops.ensures.code c.self.invariant (rw (← c.self.view_is) at of)
    c.index.ensures in
    rw (← c.self.view_is, it.start, ← it.kept.ring.hi) c.is_open.ensures
