-- What a loop and its instructions have to be before they are run: all that they name is there, and no number overflows.
use Rattle.std.specs.Prelude.{ℕ, suc, ◌<◌, ◌≤◌, ℤ, pos, neg_ℤ, ◌+ℤ◌, ◌<ℤ◌, ◌≤ℤ◌, List, [], ◌∷◌, get_or, length, Option, ⊤}
use Rattle.std.specs.List.{AllByRecursion}
use Rattle.std.specs.Option.{ForSome}
use Rattle.tilt_base.specs.Grid.{IsGrid}
use Rattle.tilt_base.specs.Offset.{IsOffset}
use Rattle.tilt_base.specs.declared.limits.TheConstants.{OFFSET, PERIOD, WIDE}
use Rattle.tilt_code.specs.Code.{Block, LoopParts}
use Rattle.tilt_code.specs.Grammar.{IsStretch}
use Rattle.tilt_code.specs.declared.instr.Instr.{Instr}
use Rattle.tilt_code.specs.declared.instr.Instr.TheVariants.{Port, Win, One, Two, If}
use Rattle.tilt_stream.specs.Snap.{Snapshot, ended_below}

-- the registers that an instruction names lie below a number
abbrev pub NamesBelow : ℕ → Instr → Type 0
NamesBelow registers (One op a) = a < registers
NamesBelow registers (Two op a b) = (a < registers) × (b < registers)
NamesBelow registers (If c a b) = (c < registers) × (a < registers) × (b < registers)
NamesBelow registers other = ⊤

-- each of these instructions, of which the first fills that register, names earlier registers
abbrev pub NameEarlier : ℕ → Block → Type 0
NameEarlier register [] = ⊤
NameEarlier register (instr ∷ block) = NamesBelow register instr × NameEarlier (suc register) block

-- a window that may be read: its map is there, and it has some ticks
pub record IsReadableWindow (maps : ℕ) (from to : ℤ) (number : Option ℕ) : Type 0 where
  pub low : IsOffset from
  pub high : IsOffset to
  pub some_ticks : from <ℤ to
  pub known : ForSome number (λ map. map < maps)

-- a map that may be used: if one is named it is there, and each of the maps names earlier registers
pub record MayMap (maps : List Block) (number : Option ℕ) : Type 0 where
  pub earlier : AllByRecursion (NameEarlier 0) maps
  pub known : ForSome number (λ map. map < length maps)

-- a leaf that may be read where there are so many buffers and maps
abbrev pub IsReadable : ℕ → ℕ → Instr → Type 0
IsReadable buffers maps (Port buffer offset) = (buffer < buffers) × IsOffset offset
IsReadable buffers maps (Win reducer buffer from to number) = (buffer < buffers) × IsReadableWindow maps from to number
IsReadable buffers maps other = ⊤

-- a loop that may be run where there are so many buffers
pub record IsReady (buffers : ℕ) (l : LoopParts) : Type 0 where
  pub stretch : IsStretch l.lo l.hi
  pub grid : IsGrid l.grid
  pub maps : AllByRecursion (NameEarlier 0) l.maps
  pub registers : NameEarlier 0 l.body
  pub leaves : AllByRecursion (IsReadable buffers (length l.maps)) l.body

-- a tick at which a body may be taken: a grid point above the start of a turn
pub record IsBodyTick (tick : ℤ) : Type 0 where
  pub low : neg_ℤ WIDE ≤ℤ tick
  pub high : tick ≤ℤ (WIDE +ℤ PERIOD)

-- a tick at which a leaf may have a mark
pub record IsMarkTick (tick : ℤ) : Type 0 where
  pub low : (neg_ℤ WIDE +ℤ neg_ℤ OFFSET) ≤ℤ tick
  pub high : tick ≤ℤ (WIDE +ℤ PERIOD +ℤ OFFSET +ℤ OFFSET +ℤ pos 1)

-- what a leaf reads first at a grid point is kept, where so many of each list aren't
abbrev pub IsKept : List (List Snapshot) → List ℕ → ℤ → Instr → Type 0
IsKept lists forgotten point (Port buffer offset) = get_or forgotten buffer 0 ≤ ended_below (point +ℤ offset) (get_or lists buffer [])
IsKept lists forgotten point (Win reducer buffer from to number) =
    get_or forgotten buffer 0 ≤ ended_below (point +ℤ from +ℤ pos 1) (get_or lists buffer [])
IsKept lists forgotten point other = ⊤
