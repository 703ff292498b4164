use Rattle.std.proofs.Common.{take}
use Rattle.tilt_turn.specs.Held.{ConstantsStand}
use Rattle.tilt_turn.proofs.register.constants.Given as goal

abbrev pub invariant-loop-instr : goal.invariant-loop-instr
invariant-loop-instr l = ConstantsStand (take l.instr-index l.block) l.registers.items
