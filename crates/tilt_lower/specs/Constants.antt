-- Constants of instructions, which 64 bits hold.
use Rattle.std.specs.Prelude.{FitsSigned, ⊤}
use Rattle.std.specs.Int.{w64}
use Rattle.std.specs.List.{AllByRecursion}
use Rattle.tilt_code.specs.Code.{Block, LoopParts}
use Rattle.tilt_code.specs.declared.instr.Instr.{Instr}
use Rattle.tilt_code.specs.declared.instr.Instr.TheVariants as instr

-- a constant is a number of 64 bits
abbrev pub ConstantFits : Instr → Type 0
ConstantFits (instr.Const value) = FitsSigned w64 value
ConstantFits other = ⊤

-- the constants of a block are
abbrev pub BlockFits : Block → Type 0
BlockFits block = AllByRecursion ConstantFits block

-- those of a loop's maps and of its body are
pub record ConstantsFit (l : LoopParts) : Type 0 where
  pub maps : AllByRecursion BlockFits l.maps
  pub body : BlockFits l.body
