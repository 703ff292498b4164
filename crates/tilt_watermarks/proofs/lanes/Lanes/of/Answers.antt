use Rattle.std.proofs.Common.{◌∙◌, ◌+◌, ◌++◌, ◌∷◌, [], ℕ, List, length, sym, ap, arith}
use Rattle.std.proofs.lemmas.List.{take_all, take_more}
use Rattle.tilt_watermarks.proofs.Resuming.{count-take, fit-at}
use Rattle.tilt_watermarks.specs.Held.{Waiting}
use Rattle.tilt_watermarks.specs.Steps.{held_count}
use Rattle.tilt_watermarks.proofs.lanes.Lanes.of.Goals as goal

pub of-requires : goal.of-requires
of-requires c =
    fit-at c.requires.fit.0 c.args.inputs.now c.loop-input.input-index c.input-item.result c.requires.fit.1 c.loop-input-test.true c.input-item.is

pub loop-input-preserved : goal.loop-input-preserved
loop-input-preserved c =
    let index = c.loop-input.input-index in
    let inputs = c.args.inputs.now in
    let lanes = take_more inputs index c.input-item.result c.loop-input-test.true in
    let count = count-take inputs index c.input-item.result c.loop-input-test.true c.input-item.is in
    record {
      lanes = c.in_ok-push.ensures.items ∙ (λ i. c.loop-input.invariant.lanes i ++ (c.in_ok-of.ensures ∙ c.input-item.is) i ∷ []) ∙ sym lanes;
      count = c.in_ok-held.ensures ∙ ap (λ (n : ℕ). n + length c.input-item.result.held) c.loop-input.invariant.count ∙ sym count;
    }

pub invariant_of-result : goal.invariant_of-result
invariant_of-result c =
    let all = c.loop-input.invariant.lanes ∙ take_all c.loop-input.input-index c.args.inputs.now c.loop-input-test.false in
    let len = ap (λ (list : List Waiting). length list) all in
    record {
      few = omega (arith, len, c.requires.few);
      count = c.loop-input.invariant.count ∙ ap held_count (sym c.loop-input.invariant.lanes);
    }

pub returns : goal.returns
returns c = c.loop-input.invariant.lanes ∙ take_all c.loop-input.input-index c.args.inputs.now c.loop-input-test.false
