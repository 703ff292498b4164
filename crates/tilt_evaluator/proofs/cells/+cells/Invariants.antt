use Rattle.std.proofs.Common.{◌≡◌, ◌+◌, ◌++◌, ◌≤ℤ◌}
use Rattle.std.specs.Int.{int_gap}
use Rattle.std.specs.Ordering.{int_eq}
use Rattle.tilt_base.specs.Reduce.{numbers}
use Rattle.tilt_core.specs.Meaning.{meaning}
use Rattle.tilt_stream.specs.Window.{met, met_behind}
use Rattle.tilt_core.specs.CoreTree.{nodes, tree_of}
use Rattle.tilt_evaluator.proofs.Weight.{weight}
use Rattle.tilt_evaluator.proofs.cells.+cells.Given as goal

abbrev pub decreases-source_cell : goal.decreases-source_cell
decreases-source_cell l = weight l.defs.now

abbrev pub decreases-definition_cell : goal.decreases-definition_cell
decreases-definition_cell l = weight l.defs.now + (nodes l.def.now.body + 4)

abbrev pub decreases-body_cell : goal.decreases-body_cell
decreases-body_cell l = weight l.defs.now + (nodes (tree_of l.body.now) + 2)

abbrev pub decreases-numbers_met : goal.decreases-numbers_met
decreases-numbers_met l = weight l.defs.now + 1

abbrev pub invariant-numbers_met-loop-before : goal.invariant-numbers_met-loop-before
invariant-numbers_met-loop-before l = record {
  reached : l.lo ≤ℤ l.before;
  so_far : (let x = meaning l.inputs l.defs l.source in l.members.items ++ numbers (met_behind x (int_eq l.before l.lo) l.before (int_gap l.before l.hi)) ≡ numbers (met x l.lo l.hi));
}
