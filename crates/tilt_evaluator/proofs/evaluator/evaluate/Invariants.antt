use Rattle.std.proofs.Common.{◌≡◌, ◌++◌, ◌<ℤ◌, ◌≤ℤ◌}
use Rattle.std.specs.Int.{int_gap}
use Rattle.std.specs.Option.{ForSome}
use Rattle.tilt_stream.specs.Snap.{last_end}
use Rattle.tilt_stream.specs.Snapshots.{cut_behind, snapshots}
use Rattle.tilt_core.specs.Meaning.{meaning}
use Rattle.tilt_evaluator.proofs.evaluator.evaluate.Given as goal

abbrev pub invariant-loop-end : goal.invariant-loop-end
invariant-loop-end l = record {
  from : l.lo ≤ℤ l.start;
  ahead : l.start <ℤ l.end;
  within : l.end ≤ℤ l.hi;
  touches : ForSome (last_end l.list) (λ last. last ≡ l.start);
  so_far : (let x = meaning l.source.inputs.now l.source.defs.now l.source.number in l.list ++ cut_behind x l.start l.end (int_gap l.end l.hi) ≡ snapshots x l.lo l.hi);
}
