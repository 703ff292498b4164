-- What the grammar of listings asks of a code (our own rule): all but where its references lead.
use Rattle.std.specs.Prelude.{ℕ, ◌^◌, ◌<◌, ◌≤◌, ℤ, neg_ℤ, ◌<ℤ◌, ◌≤ℤ◌, Bool, true, false, length, Some, None, FitsSigned, IsTrue, ⊤}
use Rattle.std.specs.Int.{w64}
use Rattle.std.specs.List.{AllByRecursion}
use Rattle.tilt_base.specs.Grid.{IsGrid}
use Rattle.tilt_base.specs.Offset.{IsOffset}
use Rattle.tilt_base.specs.declared.limits.TheConstants.{WIDE}
use Rattle.tilt_lexer.specs.Word.{AreDistinct, IsName}
use Rattle.tilt_code.specs.Code.{Block, LoopParts, CodeParts}
use Rattle.tilt_code.specs.declared.instr.Instr.{Instr}
use Rattle.tilt_code.specs.declared.instr.Instr.TheVariants as instr

-- a number that a buffer, a register or a map may have
abbrev pub IsNumber : ℕ → Type 0
IsNumber number = number < 2 ^ 32

-- a window reads a buffer between its ends, the first of which lies below the second
pub record IsWindow (buffer : ℕ) (from to : ℤ) : Type 0 where
  pub number : IsNumber buffer
  pub low : IsOffset from
  pub high : IsOffset to
  pub some_ticks : from <ℤ to

-- the numbers of an instruction lie within their bounds
abbrev pub IsInstr : Instr → Type 0
IsInstr (instr.Const number) = FitsSigned w64 number
IsInstr instr.Null = ⊤
IsInstr instr.Argument = ⊤
IsInstr (instr.Port buffer offset) = IsNumber buffer × IsOffset offset
IsInstr (instr.Win reducer buffer from to None) = IsWindow buffer from to
IsInstr (instr.Win reducer buffer from to (Some map)) = IsWindow buffer from to × IsNumber map
IsInstr (instr.One op a) = IsNumber a
IsInstr (instr.Two op a b) = IsNumber a × IsNumber b
IsInstr (instr.If c a b) = IsNumber c × IsNumber a × IsNumber b

-- whether an instruction is allowed in a map: only bodies read buffers
abbrev pub stands_in_map : Instr → Bool
stands_in_map (instr.Port buffer offset) = false
stands_in_map (instr.Win reducer buffer from to map) = false
stands_in_map other = true

-- whether an instruction is allowed in a body: only maps have an argument
abbrev pub stands_in_body : Instr → Bool
stands_in_body instr.Argument = false
stands_in_body other = true

-- a block has some instructions, and no more than there are numbers of registers
pub record IsBlock (stands : Instr → Bool) (block : Block) : Type 0 where
  pub some : 0 < length block
  pub few : length block ≤ 2 ^ 32
  pub instrs : AllByRecursion (λ i. IsTrue (stands i) × IsInstr i) block

-- a stretch of time that a loop may fill
pub record IsStretch (lo hi : ℤ) : Type 0 where
  pub low : neg_ℤ WIDE ≤ℤ lo
  pub some_ticks : lo <ℤ hi
  pub high : hi ≤ℤ WIDE

-- what bounds a loop
pub record IsLoop (loop : LoopParts) : Type 0 where
  pub stretch : IsStretch loop.lo loop.hi
  pub grid : IsGrid loop.grid
  pub maps : AllByRecursion (IsBlock stands_in_map) loop.maps
  pub body : IsBlock stands_in_body loop.body

-- what the grammar asks of a code
pub record IsGrammatical (code : CodeParts) : Type 0 where
  pub named : AllByRecursion IsName code.inputs
  pub distinct : AreDistinct code.inputs
  pub some : 0 < length code.loops
  pub loops : AllByRecursion IsLoop code.loops
