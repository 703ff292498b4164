use Rattle.std.proofs.Common.{◌≡◌, ◌∙◌, ◌+◌, ◌-◌, pos, length, sym, ap, subst, arith}
use Rattle.std.proofs.Math.Seq.{drop-length}
use Rattle.tilt_core.specs.Core.{IsDefinition}
use Rattle.tilt_core.specs.CoreTree.{Definition}
use Rattle.tilt_core.specs.Needs.{needs}
use Rattle.tilt_bounds.specs.Margins.{evenly}
use Rattle.tilt_bounds.proofs.Steps.{definition-at, unasked-needs, unasked-within}
use Rattle.tilt_bounds.proofs.asking.needs_of.Goals as goal

pub loop-done-init : goal.loop-done-init
loop-done-init c =
    let defs = c.args.defs.now in
    let count = c.args.inputs + length defs in
    let all : length defs - 0 ≡ length defs = omega arith in
    record {
      so_far = c.in_ok-asked.ensures ∙ unasked-needs count ∙ rw all (ap (needs count) (sym (drop-length defs)));
      bounded = rw c.in_ok-asked.ensures (unasked-within (evenly (pos 0)) count);
    }

pub ask_before-requires-clause-definition : goal.ask_before-requires-clause-definition
ask_before-requires-clause-definition c =
    let defs = c.args.defs.now in
    let place = length defs - 1 - c.loop-done.done in
    let low = c.loop-done-test.true in
    subst (λ (d : Definition). IsDefinition (c.args.inputs + place) d) (sym c.index-defs-place.is)
    (definition-at c.args.inputs place defs c.index-defs-place.result c.requires.definitions (omega arith))
