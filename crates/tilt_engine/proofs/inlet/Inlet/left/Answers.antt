use Rattle.std.proofs.Common.{◌∙◌, ℕ, ap, drop, subst, w64}
use Rattle.std.proofs.lemmas.Int.{to_z-of_z}
use Rattle.tilt_engine.proofs.Fed.{kept-drop, rows-order, some-ok}
use Rattle.tilt_engine.specs.Stock.{InletParts}
use Rattle.tilt_feed.specs.Laws.{IsInOrder}
use Rattle.tilt_stream.proofs.Places.{ended-within}
use Rattle.tilt_engine.proofs.inlet.Inlet.left.Goals as goal

pub rows_after-requires : goal.rows_after-requires
rows_after-requires c =
    rw (c.count_unread.ensures.is, to_z-of_z w64 c.args.first c.ranges.first) (ended-within c.args.first c.args.self.now.input.rows)

pub returns : goal.returns
returns c =
    let i = c.args.self.now in
    let same = to_z-of_z w64 c.args.first c.ranges.first in
    let count = rw same at c.count_unread.ensures.is in
    let order = subst (λ (v : InletParts). IsInOrder v.input) c.self.view_is c.self.invariant.order in
    let rows = c.in_ok-rows.ensures ∙ ap (λ (n : ℕ). drop n i.input.rows) count ∙ kept-drop _ _ c.args.first i.input.rows (rows-order i.input order) in
    rw c.ok_or.ensures.value (some-ok _ c.new.result (λ x made. made ∙ (λ k. record { rows = rows k; edge = ap (λ (v : InletParts). v.input.edge) c.self.view_is k })) c.new.ensures.value)
