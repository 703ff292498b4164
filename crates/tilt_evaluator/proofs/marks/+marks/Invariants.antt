use Rattle.std.proofs.Common.{◌≡◌, ◌+◌, ◌-◌, pos, ◌+ℤ◌}
use Rattle.tilt_stream.specs.Domain.{some_mark}
use Rattle.tilt_core.specs.Meaning.{body_of, sources}
use Rattle.tilt_core.specs.CoreTree.{nodes, tree_of}
use Rattle.tilt_evaluator.proofs.Weight.{weight}
use Rattle.tilt_evaluator.proofs.marks.+marks.Given as goal

abbrev pub decreases-source_mark : goal.decreases-source_mark
decreases-source_mark l = weight l.defs.now

abbrev pub decreases-definition_mark : goal.decreases-definition_mark
decreases-definition_mark l = weight l.defs.now + (nodes l.def.now.body + 4)

abbrev pub decreases-grid_mark : goal.decreases-grid_mark
decreases-grid_mark l = weight l.defs.now + (nodes l.def.now.body + 3)

abbrev pub decreases-body_mark : goal.decreases-body_mark
decreases-body_mark l = weight l.defs.now + (nodes (tree_of l.body.now) + 1)

abbrev pub decreases-some_mark : goal.decreases-some_mark
decreases-some_mark l = weight l.defs.now + (nodes (tree_of l.body.now) + 2)

abbrev pub invariant-some_mark-loop-behind : goal.invariant-some_mark-loop-behind
invariant-some_mark-loop-behind l =
    let x = body_of (sources l.inputs l.defs) (tree_of l.body) in
    some_mark x (l.tick +ℤ pos l.behind) (l.count - l.behind) ≡ some_mark x l.tick l.count
