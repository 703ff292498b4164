use Rattle.std.proofs.Common.{◌∙◌, w64}
use Rattle.std.proofs.lemmas.Int.{to_z-of_z}
use Rattle.tilt_engine.proofs.Fed.{inlet-left, rows-order, when-ok}
use Rattle.tilt_stream.proofs.Places.{ended-within}
use Rattle.tilt_engine.proofs.inlet.Inlet.forget_below.Goals as goal

pub forget-requires : goal.forget-requires
forget-requires c =
    rw (c.count_unread-count.ensures.is, to_z-of_z w64 c.args.first c.ranges.first) (ended-within c.args.first c.args.self.now.input.rows)

pub returns : goal.returns
returns c =
    let i = c.args.self.now in
    let count = rw (to_z-of_z w64 c.args.first c.ranges.first) at c.count_unread-count.ensures.is in
    let left = inlet-left _ _ c.args.first i c.count_unread-count.result (rows-order i.input c.edge.ensures.order) count in
    when-ok c.forget.result (λ made. made ∙ left) c.forget.ensures
