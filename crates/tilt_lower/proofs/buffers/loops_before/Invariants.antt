use Rattle.std.proofs.Common.{◌≡◌, ◌+◌, ◌≤◌, drop}
use Rattle.tilt_lower.specs.Lowering.{loops_before}
use Rattle.tilt_lower.proofs.buffers.loops_before.Given as goal

abbrev pub invariant-loop-l : goal.invariant-loop-l
invariant-loop-l l = record {
  few : l.count ≤ l.l-index;
  so_far : l.count + loops_before (drop l.l-index l.loops) l.def ≡ loops_before l.loops l.def;
}
