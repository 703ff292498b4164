use Rattle.std.proofs.Common.{◌≡◌, ◌∙◌, ◌+◌, ◌++◌, take, false}
use Rattle.std.proofs.lemmas.Result.{err_from_is_err_and}
use Rattle.tilt_parts.proofs.Lists.{all-after, more-steps}
use Rattle.tilt_parts.specs.Part.{PartValue}
use Rattle.tilt_parts.proofs.parts.Parts.follow.Goals as goal

pub loop-part-preserved : goal.loop-part-preserved
loop-part-preserved c = (
  c.in_ok-step.ensures.many ∙ c.loop-part.invariant.0,
  λ query rows cuts steps are. rw (more-steps steps c.args.order.now c.loop-part.part-index c.loop-part-test.true)
      (c.in_ok-step.ensures.after query rows cuts (steps ++ take c.loop-part.part-index c.args.order.now) (c.loop-part.invariant.1 query rows cuts steps are)),
  λ all. all-after (λ (p : PartValue). p.refused ≡ false) c.loop-part.self c.step.new.self _ (c.loop-part.invariant.2 all) c.in_ok-step.ensures.others
      c.in_ok-step.ensures.granted,
)

pub returns-in_err-step-clause-after : goal.returns-in_err-step-clause-after
returns-in_err-step-clause-after c = λ query rows cuts steps are.
    let p = err_from_is_err_and c.from_residual.result c.from_residual.ensures.1 in
    rw p.1 (
      c.loop-part.part-index + 1,
      rw (more-steps steps c.args.order.now c.loop-part.part-index c.loop-part-test.true)
          (c.in_err-step.ensures.after query rows cuts (steps ++ take c.loop-part.part-index c.args.order.now) (c.loop-part.invariant.1 query rows cuts steps are)),
    )
