use Rattle.std.proofs.Common.{◌≡◌, ◌∙◌, ◌*◌, ◌≤◌, ℕ, None, get_or, sym, ap, subst}
use Rattle.tilt_fuse.proofs.Planned.{is, near, few, this_near, planned-merge, planned-loop}
use Rattle.tilt_fuse.proofs.Used.{some_need}
use Rattle.tilt_fuse.specs.FusedTree.{FusedTree, fused_tree_of}
use Rattle.tilt_fuse.specs.Plan.{fused, nodes}
use Rattle.tilt_fuse.specs.Trees.{AreNear, IsNearBody}
use Rattle.tilt_core.specs.Core.{ReadsBelow}
use Rattle.tilt_core.specs.CoreTree.{Definition, tree_of}
use Rattle.tilt_core.specs.Needs.{needs_from}
use Rattle.tilt_fuse.proofs.planner.plan_used.Goals as goal

pub fused-requires-clause-reads : goal.fused-requires-clause-reads
fused-requires-clause-reads c =
    let body : tree_of c.def.inside.body ≡ c.args.def.now.body = ap (λ (d : Definition). d.body) c.def.view_is in
    let reads = (is c.args.query.now.inputs c.args.query.now.defs.now c.args.query.now.used.now c.requires.known c.args.place c.requires.place c.args.def.now c.requires.definition).reads in
    rw (body, c.deref.ensures.value) (subst (λ (n : ℕ). ReadsBelow n c.args.def.now.body) (sym c.requires.so_far.many) reads)

pub fused-requires-clause-merged : goal.fused-requires-clause-merged
fused-requires-clause-merged c =
    subst AreNear (sym c.deref.ensures.value)
    (near c.args.query.now.inputs c.args.query.now.defs.now c.args.query.now.used.now c.requires.known c.args.place c.requires.place c.args.def.now c.requires.definition
    c.args.progress.now.merged.items c.requires.so_far.many c.requires.so_far.trees)

pub fused-requires-clause-near : goal.fused-requires-clause-near
fused-requires-clause-near c =
    let body : tree_of c.def.inside.body ≡ c.args.def.now.body = ap (λ (d : Definition). d.body) c.def.view_is in
    let n = some_need (get_or (needs_from c.args.query.now.inputs c.args.query.now.defs.now) c.args.place None) c.requires.is_used in
    subst IsNearBody (sym body)
    (this_near c.args.query.now.inputs c.args.query.now.defs.now c.args.query.now.used.now c.requires.known c.args.place c.requires.place c.args.def.now c.requires.definition
    c.args.progress.now.merged.items c.requires.so_far.many c.requires.so_far.trees n.0 n.1)

pub is_merged-requires-clause-few : goal.is_merged-requires-clause-few
is_merged-requires-clause-few c =
    let body : tree_of c.def.inside.body ≡ c.args.def.now.body = ap (λ (d : Definition). d.body) c.def.view_is in
    let tree : fused_tree_of c.in_ok-tree.tree ≡ fused c.args.progress.now.merged.items c.args.def.now.body =
    c.in_ok-tree.ensures ∙ (λ i. fused (c.deref.ensures.value i) (body i)) in
    subst (λ (t : FusedTree). nodes t ≤ 65 * 256) (sym tree)
    (few c.args.query.now.inputs c.args.query.now.defs.now c.args.query.now.used.now c.requires.known c.args.place c.requires.place c.args.def.now c.requires.definition
    c.args.progress.now.merged.items c.requires.so_far.many c.requires.so_far.trees)

pub returns-then-is_merged : goal.returns-then-is_merged
returns-then-is_merged c =
    let body : tree_of c.def.inside.body ≡ c.args.def.now.body = ap (λ (d : Definition). d.body) c.def.view_is in
    let tree : fused_tree_of c.in_ok-tree.tree ≡ fused c.args.progress.now.merged.items c.args.def.now.body =
    c.in_ok-tree.ensures ∙ (λ i. fused (c.deref.ensures.value i) (body i)) in
    let n = some_need (get_or (needs_from c.args.query.now.inputs c.args.query.now.defs.now) c.args.place None) c.requires.is_used in
    planned-merge c.args.query.now.inputs c.args.query.now.defs.now c.args.query.now.used.now c.requires.known c.args.place c.requires.place c.args.def.now c.requires.definition
    c.args.progress.now.merged.items c.requires.so_far.many c.requires.so_far.trees
    c.args.query.now.fuse c.args.progress.now.loops.items c.requires.so_far.so_far n.0 n.1 c.merge.new.self.merged.items c.merge.new.self.loops.items
    (fused_tree_of c.in_ok-tree.tree) tree (sym c.is_merged.ensures ∙ c.if-is_merged.true) c.in_ok-merge.ensures.sources c.in_ok-merge.ensures.loops

pub returns : goal.returns
returns c =
    let body : tree_of c.def.inside.body ≡ c.args.def.now.body = ap (λ (d : Definition). d.body) c.def.view_is in
    let tree : fused_tree_of c.in_ok-tree.tree ≡ fused c.args.progress.now.merged.items c.args.def.now.body =
    c.in_ok-tree.ensures ∙ (λ i. fused (c.deref.ensures.value i) (body i)) in
    let n = some_need (get_or (needs_from c.args.query.now.inputs c.args.query.now.defs.now) c.args.place None) c.requires.is_used in
    planned-loop c.args.query.now.inputs c.args.query.now.defs.now c.args.query.now.used.now c.requires.known c.args.place c.requires.place c.args.def.now c.requires.definition
    c.args.progress.now.merged.items c.requires.so_far.many c.requires.so_far.trees
    c.args.query.now.fuse c.args.progress.now.loops.items c.requires.so_far.so_far n.0 n.1 c.add_loop.new.self.merged.items c.add_loop.new.self.loops.items
    (fused_tree_of c.in_ok-tree.tree) tree (sym c.is_merged.ensures ∙ c.if-is_merged.false) c.in_ok-add_loop.ensures.sources c.in_ok-add_loop.ensures.loops
