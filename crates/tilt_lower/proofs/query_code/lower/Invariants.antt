use Rattle.std.proofs.Common.{◌≡◌, map, take}
use Rattle.std.specs.List.{AllByRecursion}
use Rattle.tilt_lower.specs.Constants.{ConstantsFit}
use Rattle.tilt_lower.specs.Lowering.{lowered}
use Rattle.tilt_lower.proofs.query_code.lower.Given as goal

abbrev pub invariant-loop-planned : goal.invariant-loop-planned
invariant-loop-planned l = record {
  so_far : l.loops.items ≡ map (lowered l.plan.loops.items l.core l.margins l.lo l.hi) (take l.planned-index l.plan.loops.items);
  fit : AllByRecursion ConstantsFit l.loops.items;
}
