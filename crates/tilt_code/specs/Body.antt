-- What the body of a loop gives, tick by tick, over the streams of the buffers (the TiLT paper's temporal expressions; registers and marks
-- are our own rule). A buffer, a register or a map that isn't there is null.
use Rattle.std.specs.Prelude.{ℕ, ℤ, Bool, false, ◌||◌, List, [], ◌∷◌, ◌++◌, get_or, Option, Some, None}
use Rattle.tilt_base.specs.Scalar.{apply1, apply2, choose}
use Rattle.tilt_code.specs.Code.{Block, LoopParts}
use Rattle.tilt_code.specs.declared.instr.Instr.{Instr}
use Rattle.tilt_code.specs.declared.instr.Instr.TheVariants.{Const, Null, Argument, Port, Win, One, Two, If}
use Rattle.tilt_stream.specs.Pointwise.{nothing, shifted}
use Rattle.tilt_stream.specs.Stream.{Stream}
use Rattle.tilt_stream.specs.Window.{windowed_by}

-- the last of a list; of the empty one what is given for it
abbrev pub last_or : {A : Type 0} → A → List A → A
last_or given [] = given
last_or given (x ∷ xs) = last_or x xs

-- what an instruction gives, by the cells of leaves (`Argument`, `Port` and `Win`) and by the registers before it
abbrev pub instr_cell : (Instr → Option ℤ) → List (Option ℤ) → Instr → Option ℤ
instr_cell leaf cells (Const number) = Some number
instr_cell leaf cells Null = None
instr_cell leaf cells (One op a) = apply1 op (get_or cells a None)
instr_cell leaf cells (Two op a b) = apply2 op (get_or cells a None) (get_or cells b None)
instr_cell leaf cells (If c a b) = choose (get_or cells c None) (get_or cells a None) (get_or cells b None)
instr_cell leaf cells other = leaf other

-- these registers, and after them those of a block, each by all before it
abbrev pub with_registers : (Instr → Option ℤ) → List (Option ℤ) → Block → List (Option ℤ)
with_registers leaf cells [] = cells
with_registers leaf cells (instr ∷ block) = with_registers leaf (cells ++ instr_cell leaf cells instr ∷ []) block

-- the result of a block: its last register
abbrev pub block_cell : (Instr → Option ℤ) → Block → Option ℤ
block_cell leaf block = last_or None (with_registers leaf [] block)

-- the leaves of a map: its argument alone
abbrev pub map_leaf : Option ℤ → Instr → Option ℤ
map_leaf cell Argument = cell
map_leaf cell other = None

-- what a map gives on a cell; the cell itself if no map is named
abbrev pub mapped : List Block → Option ℕ → Option ℤ → Option ℤ
mapped maps None cell = cell
mapped maps (Some number) cell = block_cell (map_leaf cell) (get_or maps number [])

-- the stream of a leaf of a body: a port is its buffer shifted, and a window is one over its buffer
abbrev pub leaf_of : List Stream → List Block → Instr → Stream
leaf_of xs maps (Port buffer offset) = shifted (get_or xs buffer nothing) offset
leaf_of xs maps (Win reducer buffer from to number) = windowed_by (mapped maps number) reducer from to (get_or xs buffer nothing)
leaf_of xs maps other = nothing

-- whether one of the leaves of a block has a mark at a tick
abbrev pub leaf_marked : List Stream → List Block → ℤ → Block → Bool
leaf_marked xs maps tick [] = false
leaf_marked xs maps tick (instr ∷ block) = (leaf_of xs maps instr).mark tick || leaf_marked xs maps tick block

-- the body of a loop as a stream: at each tick the result of its block; it has a mark if one of its leaves has one
abbrev pub body_of : List Stream → LoopParts → Stream
body_of xs l = record {
  cell = λ tick. block_cell (λ instr. (leaf_of xs l.maps instr).cell tick) l.body;
  mark = λ tick. leaf_marked xs l.maps tick l.body;
}
