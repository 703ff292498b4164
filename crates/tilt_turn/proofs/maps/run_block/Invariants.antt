use Rattle.std.proofs.Common.{◌≡◌, [], length, drop}
use Rattle.tilt_code.specs.Body.{map_leaf, with_registers}
use Rattle.tilt_turn.specs.Ready.{NameEarlier}
use Rattle.tilt_turn.proofs.maps.run_block.Given as goal

abbrev pub invariant-loop-instr : goal.invariant-loop-instr
invariant-loop-instr l = record {
  earlier : NameEarlier (length l.registers.items) (drop l.instr-index l.block);
  made : with_registers (map_leaf l.cell) l.registers.items (drop l.instr-index l.block) ≡ with_registers (map_leaf l.cell) [] l.block;
}
