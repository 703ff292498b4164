use Rattle.tilt_fuse.specs.Trees.{IsPlanned}
use Rattle.tilt_fuse.proofs.planner.plan.Given as goal

-- the definitions before the place are gone through
abbrev pub invariant-loop-place : goal.invariant-loop-place
invariant-loop-place l = IsPlanned l.query.fuse l.query.inputs l.query.defs.now l.place l.progress.merged.items l.progress.loops.items
