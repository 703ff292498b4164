use Rattle.std.proofs.Common.{◌∙◌}
use Rattle.std.proofs.lemmas.Option.{get_or_from_slice_get}
use Rattle.tilt_pipe.proofs.RingsKept.{kept-made, is-at}
use Rattle.tilt_pipe.specs.Positions.{made_by}
use Rattle.tilt_pipe.specs.contracts.rings.Rings.{the_view}
use Rattle.tilt_pipe.proofs.rings.Rings.first_end.Goals as goal

pub returns : goal.returns
returns c = λ w r of at.
    let found = rw (← c.self.view_is) at at in
    let it = is-at (the_view c.self.inside) c.args.place w r c.loops.ensures.code c.self.invariant (rw (← c.self.view_is) at of) found in
    let same = c.index.ensures ∙ get_or_from_slice_get c.self.inside.rings.items c.args.place r c.index.result.now found in
    (rw same at c.first_end.ensures) (made_by r.start w.whole) (kept-made w r it.kept).in_order it.kept.ring.held
