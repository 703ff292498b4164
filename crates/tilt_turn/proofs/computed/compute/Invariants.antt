use Rattle.std.proofs.Common.{◌≡◌, drop, length}
use Rattle.tilt_turn.specs.Picked.{computed_by}
use Rattle.tilt_turn.proofs.computed.compute.Given as goal

abbrev pub invariant-loop-listed : goal.invariant-loop-listed
invariant-loop-listed l = record {
  made : computed_by (drop l.listed-index l.computed) l.registers ≡ computed_by l.computed l.fn.registers;
  count : length l.registers ≡ length l.fn.registers;
}
