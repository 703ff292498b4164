use Rattle.std.proofs.Common.{◌≡◌, ◌∙◌, ◌<◌, ◌≤◌, List, length, ap, subst, arith, to_z, of_z, get_or}
use Rattle.std.specs.Int.{w64}
use Rattle.std.proofs.lemmas.Int.{to_z-of_z}
use Rattle.tilt_bounds.proofs.Margin.{margins-needs}
use Rattle.tilt_fuse.specs.FusedTree.{PlannedLoop, fused_tree_of}
use Rattle.tilt_lower.proofs.Planned.{output-of, all-pushed, planned-at, few-all, used-at, lowered-is, lowered-more}
use Rattle.tilt_lower.proofs.Whole.{whole-kept, whole-means}
use Rattle.tilt_lower.specs.Constants.{ConstantsFit}
use Rattle.tilt_lower.specs.Lowering.{buffer_of, loop_on, lowered}
use Rattle.tilt_core.specs.CoreTree.{Definition}
use Rattle.tilt_lower.proofs.query_code.lower.Goals as goal

-- the loop of the plan whose turn it is
abbrev this : (c : goal.After-planned) → PlannedLoop
this c = record { def = c.planned.inside.def; body = fused_tree_of c.planned.inside.body }

pub stretch-span-requires-clause-used : goal.stretch-span-requires-clause-used
stretch-span-requires-clause-used c =
    let is = planned-at c.args.core.now c.args.margins.now c.args.lo c.args.hi c.inputs-inputs.ensures.accepted c.requires.margins
    c.args.plan.now.loops.items c.requires.plan c.deref-planned-items.result.now c.loop-planned.planned-index c.planned-item.result (this c)
    c.deref-planned-items.ensures.value c.loop-planned-test.true c.planned-item.is c.planned.view_is in
    used-at c.args.core.now c.args.margins.now c.planned.inside.def (margins-needs c.args.core.now c.args.margins.now c.requires.margins) is.is_used

pub stretch-span-requires-clause-numbered : goal.stretch-span-requires-clause-numbered
stretch-span-requires-clause-numbered c =
    (planned-at c.args.core.now c.args.margins.now c.args.lo c.args.hi c.inputs-inputs.ensures.accepted c.requires.margins
    c.args.plan.now.loops.items c.requires.plan c.deref-planned-items.result.now c.loop-planned.planned-index c.planned-item.result (this c)
    c.deref-planned-items.ensures.value c.loop-planned-test.true c.planned-item.is c.planned.view_is).numbered

pub stretch-span-requires-clause-low : goal.stretch-span-requires-clause-low
stretch-span-requires-clause-low c =
    rw (to_z-of_z w64 c.args.lo c.ranges.lo) (output-of c.args.core.now c.args.lo c.args.hi c.inputs-inputs.ensures.accepted c.requires.output).0

pub stretch-span-requires-clause-high : goal.stretch-span-requires-clause-high
stretch-span-requires-clause-high c =
    rw (to_z-of_z w64 c.args.hi c.ranges.hi) (output-of c.args.core.now c.args.lo c.args.hi c.inputs-inputs.ensures.accepted c.requires.output).2

pub bounds-defs-planned-inside : goal.bounds-defs-planned-inside
bounds-defs-planned-inside c =
    rw c.defs.ensures.defs
    (planned-at c.args.core.now c.args.margins.now c.args.lo c.args.hi c.inputs-inputs.ensures.accepted c.requires.margins
    c.args.plan.now.loops.items c.requires.plan c.deref-planned-items.result.now c.loop-planned.planned-index c.planned-item.result
    (record { def = c.planned.inside.def; body = fused_tree_of c.planned.inside.body })
    c.deref-planned-items.ensures.value c.loop-planned-test.true c.planned-item.is c.planned.view_is).numbered

pub loop_on-requires-clause-small : goal.loop_on-requires-clause-small
loop_on-requires-clause-small c =
    (planned-at c.args.core.now c.args.margins.now c.args.lo c.args.hi c.inputs-inputs.ensures.accepted c.requires.margins
    c.args.plan.now.loops.items c.requires.plan c.deref-planned-items.result.now c.loop-planned.planned-index c.planned-item.result
    (record { def = c.planned.inside.def; body = fused_tree_of c.planned.inside.body })
    c.deref-planned-items.ensures.value c.loop-planned-test.true c.planned-item.is c.planned.view_is).small

pub loop_on-requires-clause-maps : goal.loop_on-requires-clause-maps
loop_on-requires-clause-maps c =
    (planned-at c.args.core.now c.args.margins.now c.args.lo c.args.hi c.inputs-inputs.ensures.accepted c.requires.margins
    c.args.plan.now.loops.items c.requires.plan c.deref-planned-items.result.now c.loop-planned.planned-index c.planned-item.result
    (record { def = c.planned.inside.def; body = fused_tree_of c.planned.inside.body })
    c.deref-planned-items.ensures.value c.loop-planned-test.true c.planned-item.is c.planned.view_is).maps

pub loop_on-requires-clause-buffers : goal.loop_on-requires-clause-buffers
loop_on-requires-clause-buffers c =
    let core = c.args.core.now in
    let few = c.inputs-inputs.ensures.accepted.few in
    let inputs : length c.inputs-inputs.result.now ≡ length core.inputs = ap length c.inputs-inputs.ensures.names in
    let loops = ap length c.deref.ensures.value in
    omega (arith, few-all core c.args.margins.now c.args.lo c.args.hi c.inputs-inputs.ensures.accepted c.requires.margins c.args.plan.now.loops.items c.requires.plan)

pub loop-planned-preserved : goal.loop-planned-preserved
loop-planned-preserved c =
    let core = c.args.core.now in
    let margins = c.args.margins.now in
    let plan = c.args.plan.now.loops.items in
    let lo = to_z w64 (of_z w64 c.args.lo) in
    let hi = to_z w64 (of_z w64 c.args.hi) in
    let item = c.planned-item.result in
    let l : PlannedLoop = record { def = c.planned.inside.def; body = fused_tree_of c.planned.inside.body } in
    let is = planned-at core margins c.args.lo c.args.hi c.inputs-inputs.ensures.accepted c.requires.margins plan c.requires.plan c.deref-planned-items.result.now c.loop-planned.planned-index item l
    c.deref-planned-items.ensures.value c.loop-planned-test.true c.planned-item.is c.planned.view_is in
    let inputs : length c.inputs-inputs.result.now ≡ length core.inputs = ap length c.inputs-inputs.ensures.names in
    let made : c.in_ok-loop_on.field-0 ≡ lowered plan core margins lo hi item =
    lowered-is plan core margins lo hi l c.stretch-span.result c.index-defs-planned.result c.in_ok-loop_on.field-0 is.numbered
    (c.index-defs-planned.is ∙ ap (λ (ds : List Definition). get_or ds c.planned.inside.def c.index-defs-planned.result) c.defs.ensures.defs)
    (used-at core margins c.planned.inside.def (margins-needs core margins c.requires.margins) is.is_used)
    c.stretch-span.ensures.stretch
    (c.in_ok-loop_on.ensures.made ∙ (λ i. loop_on c.stretch-span.result (buffer_of (inputs i) (c.deref.ensures.value i)) c.index-defs-planned.result l.body))
    ∙ ap (lowered plan core margins lo hi) c.planned.view_is in
    let items = c.deref-planned-items.ensures.value in
    record {
      so_far = lowered-more (lowered plan core margins lo hi) plan c.loop-planned.planned-index item c.loop-planned.loops.items c.push.new.self.items c.in_ok-loop_on.field-0
          (subst (λ (ls : List PlannedLoop). c.loop-planned.planned-index < length ls) items c.loop-planned-test.true)
          (c.planned-item.is ∙ ap (λ (ls : List PlannedLoop). get_or ls c.loop-planned.planned-index item) items)
          c.loop-planned.invariant.so_far made c.in_ok-push.ensures.items;
      fit = all-pushed ConstantsFit c.loop-planned.loops.items c.push.new.self.items c.in_ok-loop_on.field-0 c.loop-planned.invariant.fit c.in_ok-loop_on.ensures.fit c.in_ok-push.ensures.items;
    }

pub new-requires : goal.new-requires
new-requires c =
    whole-kept c.args.core.now c.args.margins.now c.args.lo c.args.hi c.inputs-inputs.ensures.accepted c.requires.margins c.requires.output c.args.plan.now.loops.items c.requires.plan
    c.in_ok-names.names.items c.loop-planned.loops.items (to_z w64 (of_z w64 c.args.lo)) (to_z w64 (of_z w64 c.args.hi)) c.loop-planned.planned-index
    (c.in_ok-names.ensures ∙ c.inputs-inputs.ensures.names) (to_z-of_z w64 c.args.lo c.ranges.lo) (to_z-of_z w64 c.args.hi c.ranges.hi)
    (subst (λ (ls : List PlannedLoop). length ls ≤ c.loop-planned.planned-index) c.deref-planned-items.ensures.value c.loop-planned-test.false)
    c.loop-planned.invariant.so_far c.loop-planned.invariant.fit

pub returns-clause-means : goal.returns-clause-means
returns-clause-means c =
    rw c.new.ensures
    (whole-means c.args.core.now c.args.margins.now c.args.lo c.args.hi c.inputs-inputs.ensures.accepted c.requires.margins c.requires.output c.args.plan.now.loops.items c.requires.plan
    c.in_ok-names.names.items c.loop-planned.loops.items (to_z w64 (of_z w64 c.args.lo)) (to_z w64 (of_z w64 c.args.hi)) c.loop-planned.planned-index
    (c.in_ok-names.ensures ∙ c.inputs-inputs.ensures.names) (to_z-of_z w64 c.args.lo c.ranges.lo) (to_z-of_z w64 c.args.hi c.ranges.hi)
    (subst (λ (ls : List PlannedLoop). length ls ≤ c.loop-planned.planned-index) c.deref-planned-items.ensures.value c.loop-planned-test.false)
    c.loop-planned.invariant.so_far c.loop-planned.invariant.fit)
