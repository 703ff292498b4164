-- Good references: each instruction names only what is before it.
use Rattle.std.specs.Prelude.{ℕ, suc, Bool, true, ◌&&◌, nat_lt, List, [], ◌∷◌, length, Some, None, IsTrue, ⊤}
use Rattle.std.specs.List.{AllByRecursion}
use Rattle.tilt_code.specs.Code.{Block, LoopParts, CodeParts}
use Rattle.tilt_code.specs.Grammar.{IsGrammatical}
use Rattle.tilt_code.specs.declared.instr.Instr.{Instr}
use Rattle.tilt_code.specs.declared.instr.Instr.TheVariants as instr

-- whether an instruction names only buffers, maps and registers below these numbers
abbrev pub refers_below : ℕ → ℕ → ℕ → Instr → Bool
refers_below buffers maps registers (instr.Port buffer offset) = nat_lt buffer buffers
refers_below buffers maps registers (instr.Win reducer buffer from to None) = nat_lt buffer buffers
refers_below buffers maps registers (instr.Win reducer buffer from to (Some map)) = nat_lt buffer buffers && nat_lt map maps
refers_below buffers maps registers (instr.One op a) = nat_lt a registers
refers_below buffers maps registers (instr.Two op a b) = nat_lt a registers && nat_lt b registers
refers_below buffers maps registers (instr.If c a b) = nat_lt c registers && (nat_lt a registers && nat_lt b registers)
refers_below buffers maps registers other = true

-- the instructions of a block from that register on name earlier registers, and buffers and maps below these numbers
abbrev pub RefersBack : ℕ → ℕ → ℕ → Block → Type 0
RefersBack buffers maps register [] = ⊤
RefersBack buffers maps register (i ∷ is) = IsTrue (refers_below buffers maps register i) × RefersBack buffers maps (suc register) is

-- each loop reads the inputs and earlier loops, of which there are so many before the first, and the maps of its own
abbrev pub ReadsBefore : ℕ → List LoopParts → Type 0
ReadsBefore buffers [] = ⊤
ReadsBefore buffers (loop ∷ loops) =
    AllByRecursion (RefersBack buffers (length loop.maps) 0) loop.maps
    × RefersBack buffers (length loop.maps) 0 loop.body × ReadsBefore (suc buffers) loops

-- each reference of a code is good
abbrev pub HasGoodReferences : CodeParts → Type 0
HasGoodReferences code = ReadsBefore (length code.inputs) code.loops

-- what a code keeps
pub record IsCode (code : CodeParts) : Type 0 where
  pub grammatical : IsGrammatical code
  pub references : HasGoodReferences code
