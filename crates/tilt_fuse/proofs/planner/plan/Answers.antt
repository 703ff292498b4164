use Rattle.std.proofs.Common.{◌≡◌, sym, subst, length, List, ℕ}
use Rattle.tilt_fuse.proofs.Means.{plan-means, all-planned}
use Rattle.tilt_fuse.proofs.Near.{known-is}
use Rattle.tilt_fuse.specs.FusedTree.{PlannedLoop}
use Rattle.tilt_fuse.specs.Plan.{plan_of}
use Rattle.tilt_fuse.specs.Streams.{MeanTheirBodies}
use Rattle.tilt_fuse.specs.Trees.{IsKnown}
use Rattle.tilt_core.specs.CoreTree.{Definition}
use Rattle.tilt_fuse.proofs.planner.plan.Goals as goal

pub plan_definition-requires-clause-known : goal.plan_definition-requires-clause-known
plan_definition-requires-clause-known c =
    known-is c.args.core.now c.inputs-inputs.result.now c.defs-defs.result.now c.deref.result.now c.in_ok-used.used.items c.inputs-inputs.ensures.names c.defs-defs.ensures.defs
    c.deref.ensures.value c.in_ok-used.ensures c.inputs-inputs.ensures.accepted c.requires.reaches

-- the loops are those of the plan
planned : (c : goal.After-drop-used-2) → c.loop-place.progress.loops.items ≡ plan_of c.args.core.now c.args.fuse
planned c =
    all-planned c.args.core.now c.inputs-inputs.result.now c.defs-defs.result.now c.args.fuse c.loop-place.place c.loop-place.progress.merged.items c.loop-place.progress.loops.items
    c.inputs-inputs.ensures.names c.defs-defs.ensures.defs c.loop-place.invariant c.loop-place-test.false

pub returns-clause-plan : goal.returns-clause-plan
returns-clause-plan c = planned c

pub returns-clause-means : goal.returns-clause-means
returns-clause-means c =
    let core = c.args.core.now in
    let known = known-is core c.inputs-inputs.result.now c.defs-defs.result.now c.deref.result.now c.in_ok-used.used.items c.inputs-inputs.ensures.names c.defs-defs.ensures.defs
    c.deref.ensures.value c.in_ok-used.ensures c.inputs-inputs.ensures.accepted c.requires.reaches in
    let same : IsKnown (length core.inputs) core.defs c.deref.result.now =
    subst (λ (ds : List Definition). IsKnown (length core.inputs) ds c.deref.result.now) c.defs-defs.ensures.defs
    (subst (λ (ns : List (List ℕ)). IsKnown (length ns) c.defs-defs.result.now c.deref.result.now) c.inputs-inputs.ensures.names known) in
    subst (λ (loops : List PlannedLoop). MeanTheirBodies core loops) (sym (planned c)) (plan-means core c.args.fuse c.deref.result.now same)
