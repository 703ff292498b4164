use Rattle.std.proofs.Common.{◌∙◌, ◌+◌, ◌-◌, length, drop, length-drop, sym, subst, arith}
use Rattle.tilt_core.specs.Core.{IsDefinition}
use Rattle.tilt_core.specs.CoreTree.{Definition}
use Rattle.tilt_bounds.proofs.Steps.{definition-at, length-needs}
use Rattle.tilt_fuse.proofs.Used.{at_last, behind_is, next_is}
use Rattle.tilt_fuse.proofs.usage.used_of.Goals as goal

pub loop-done-init : goal.loop-done-init
loop-done-init c = at_last c.args.inputs c.args.defs.now c.in_ok-used.used.items c.in_ok-used.ensures

pub use_before-requires-clause-numbered : goal.use_before-requires-clause-numbered
use_before-requires-clause-numbered c =
    let defs = c.args.defs.now in
    let place = length defs - c.loop-done.done in
    let many = c.loop-done.invariant.many ∙ length-needs (c.args.inputs + place) (drop place defs) in
    let low = c.loop-done-test.true in
    omega (arith, many, length-drop place defs)

pub use_before-requires-clause-reads : goal.use_before-requires-clause-reads
use_before-requires-clause-reads c =
    let defs = c.args.defs.now in
    let place = length defs - 1 - c.loop-done.done in
    let low = c.loop-done-test.true in
    (subst (λ (d : Definition). IsDefinition (c.args.inputs + place) d) (sym c.index-defs-place.is)
    (definition-at c.args.inputs place defs c.index-defs-place.result c.requires.definitions (omega arith))).reads

pub use_before-requires-clause-so_far : goal.use_before-requires-clause-so_far
use_before-requires-clause-so_far c =
    behind_is c.args.inputs c.loop-done.done c.args.defs.now c.loop-done.used.items c.loop-done-test.true c.loop-done.invariant

pub loop-done-preserved : goal.loop-done-preserved
loop-done-preserved c =
    next_is c.args.inputs c.loop-done.done c.args.defs.now c.index-defs-place.result c.use_before.new.used.items c.loop-done-test.true c.index-defs-place.is c.use_before.ensures
