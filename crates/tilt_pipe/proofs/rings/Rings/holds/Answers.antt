use Rattle.std.proofs.Common.{◌∙◌, length, ap, arith}
use Rattle.std.proofs.lemmas.Option.{get_or_from_slice_get}
use Rattle.tilt_pipe.specs.Positions.{RingParts}
use Rattle.tilt_pipe.proofs.rings.Rings.holds.Goals as goal

pub returns : goal.returns
returns c = λ r at.
    let same = c.index.ensures
    ∙ get_or_from_slice_get c.self.inside.rings.items c.args.place r c.index.result.now (rw (← c.self.view_is) at at) in
    let count = c.len.ensures ∙ ap (λ (x : RingParts). length x.held) same in
    grind (arith, count)
