use Rattle.std.proofs.Common.{◌≡◌, ◌+◌, suc, arith, ap, ◌∙◌}
use Rattle.tilt_operators.specs.Desugared.{source_name}
use Rattle.tilt_operators.proofs.Negated.{defined-at, named-at, negatable-at}
use Rattle.tilt_operators.proofs.desugaring.push_definitions.Goals as goal

pub push_definition-requires : goal.push_definition-requires
push_definition-requires c =
    negatable-at c.args.steps.now c.loop-step.step-index c.step-item.result c.requires c.loop-step-test.true c.step-item.is

pub loop-step-preserved : goal.loop-step-preserved
loop-step-preserved c =
    let i = c.loop-step.step-index in
    let named = named-at c.args.first.now c.in_ok-name.name c.loop-step.number i c.in_ok-name.ensures c.loop-step.invariant.counted in
    let next : i + 1 ≡ suc i = omega arith in
    record {
      counted = omega (arith, c.loop-step.invariant.counted);
      named = named;
      so_far = defined-at c.args.first.now c.in_ok-name.name c.loop-step.before c.args.steps.now i c.step-item.result _ _ _
          c.loop-step-test.true c.step-item.is (named ∙ ap (source_name c.args.first.now) next) c.loop-step.invariant.named
          c.in_ok-push_definition.ensures c.loop-step.invariant.so_far;
    }
