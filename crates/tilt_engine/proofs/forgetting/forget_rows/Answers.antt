-- One after the other, each by its number.
use Rattle.std.proofs.Common.{◌≡◌, ◌∙◌, ◌≤◌, ◌+◌, suc, List, length, take, get_or, slice_get, slice_set, Some, refl, sym, ap, subst, arith}
use Rattle.std.proofs.lemmas.Option.{slice_get_read}
use Rattle.tilt_engine.proofs.Shorter.{each-all, each-next, each-there}
use Rattle.tilt_engine.specs.Forgetting.{each_later, later_inlet}
use Rattle.tilt_engine.specs.Stock.{InletParts}
use Rattle.tilt_engine.proofs.forgetting.forget_rows.Goals as goal
use Rattle.tilt_engine.proofs.forgetting.forget_rows.Goals.{After-index-inputs-place}

-- the one that is next is there, as it was
there : (c : After-index-inputs-place) → slice_get c.args.inputs.now c.loop-place.place ≡ Some c.index-inputs-place.result
there c =
    let at = slice_get_read c.loop-place.inputs (length c.loop-place.inputs) c.loop-place.place c.index-inputs-place.result refl
    (let below = c.loop-place-test.true in let many = c.loop-place.auto.inputs in omega arith) c.index-inputs-place.is in
    sym (each-there later_inlet c.args.counts.now c.args.inputs.now c.loop-place.place)
    ∙ ap (λ (list : List InletParts). slice_get list c.loop-place.place) (sym c.loop-place.invariant) ∙ at

pub forget-requires : goal.forget-requires
forget-requires c =
    let b = (goal.at.forget-requires c).After-index-inputs-place in
    let within = c.requires.within c.loop-place.place c.index-inputs-place.result (there b) in
    subst (λ (x : InletParts). get_or c.args.counts.now c.loop-place.place 0 ≤ length x.input.rows) c.index-inputs-place.is within

pub loop-place-preserved : goal.loop-place-preserved
loop-place-preserved c =
    let b = (goal.at.loop-place-preserved c).After-index-inputs-place in
    let i = c.loop-place.place in
    let next : suc i ≡ i + 1 = omega arith in
    let below = c.loop-place-test.true in
    ap (λ (x : InletParts). slice_set c.loop-place.inputs i x)
    (c.in_ok-forget.ensures ∙ ap (λ (x : InletParts). later_inlet (get_or c.args.counts.now i 0) x) (sym c.index-inputs-place.is))
    ∙ ap (λ (list : List InletParts). slice_set list i (later_inlet (get_or c.args.counts.now i 0) c.index-inputs-place.result)) c.loop-place.invariant
    ∙ each-next later_inlet c.args.counts.now c.args.inputs.now i c.index-inputs-place.result (let many = c.requires.many in omega arith) (there b)
    ∙ ap (λ n. each_later later_inlet (take n c.args.counts.now) c.args.inputs.now) next

pub returns : goal.returns
returns c =
    let past = c.loop-place-test.false in
    c.loop-place.invariant ∙ each-all later_inlet c.args.counts.now c.args.inputs.now c.loop-place.place (omega arith)
