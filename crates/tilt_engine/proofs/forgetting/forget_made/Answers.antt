-- One after the other, each by its number.
use Rattle.std.proofs.Common.{◌≡◌, ◌∙◌, ◌≤◌, ◌+◌, suc, List, length, take, get_or, slice_get, slice_set, Some, refl, sym, ap, subst, arith}
use Rattle.std.proofs.lemmas.Option.{slice_get_read}
use Rattle.tilt_engine.proofs.Shorter.{each-all, each-next, each-there}
use Rattle.tilt_engine.specs.Forgetting.{each_later, later_made}
use Rattle.tilt_engine.specs.Stock.{MadeParts}
use Rattle.tilt_engine.proofs.forgetting.forget_made.Goals as goal
use Rattle.tilt_engine.proofs.forgetting.forget_made.Goals.{After-index-loops-place}

-- the one that is next is there, as it was
there : (c : After-index-loops-place) → slice_get c.args.loops.now c.loop-place.place ≡ Some c.index-loops-place.result
there c =
    let at = slice_get_read c.loop-place.loops (length c.loop-place.loops) c.loop-place.place c.index-loops-place.result refl
    (let below = c.loop-place-test.true in let many = c.loop-place.auto.loops in omega arith) c.index-loops-place.is in
    sym (each-there later_made c.args.counts.now c.args.loops.now c.loop-place.place)
    ∙ ap (λ (list : List MadeParts). slice_get list c.loop-place.place) (sym c.loop-place.invariant) ∙ at

pub forget-requires : goal.forget-requires
forget-requires c =
    let b = (goal.at.forget-requires c).After-index-loops-place in
    let within = c.requires.within c.loop-place.place c.index-loops-place.result (there b) in
    subst (λ (x : MadeParts). get_or c.args.counts.now c.loop-place.place 0 ≤ length x.made) c.index-loops-place.is within

pub loop-place-preserved : goal.loop-place-preserved
loop-place-preserved c =
    let b = (goal.at.loop-place-preserved c).After-index-loops-place in
    let i = c.loop-place.place in
    let next : suc i ≡ i + 1 = omega arith in
    let below = c.loop-place-test.true in
    ap (λ (x : MadeParts). slice_set c.loop-place.loops i x)
    (c.in_ok-forget.ensures ∙ ap (λ (x : MadeParts). later_made (get_or c.args.counts.now i 0) x) (sym c.index-loops-place.is))
    ∙ ap (λ (list : List MadeParts). slice_set list i (later_made (get_or c.args.counts.now i 0) c.index-loops-place.result)) c.loop-place.invariant
    ∙ each-next later_made c.args.counts.now c.args.loops.now i c.index-loops-place.result (let many = c.requires.many in omega arith) (there b)
    ∙ ap (λ n. each_later later_made (take n c.args.counts.now) c.args.loops.now) next

pub returns : goal.returns
returns c =
    let past = c.loop-place-test.false in
    c.loop-place.invariant ∙ each-all later_made c.args.counts.now c.args.loops.now c.loop-place.place (omega arith)
