-- The code of a query: a loop for each loop of the plan (the TiLT paper's lowering to loops; how registers are numbered is our own rule).
use Rattle.std.specs.Prelude.{ℕ, ◌+◌, ◌-◌, nat_lt, ℤ, pos, if◌then◌else◌, List, [], ◌∷◌, ◌++◌, length, map, get_or, Some, None}
use Rattle.std.specs.Option.{unwrap_or}
use Rattle.tilt_base.specs.Expression.{Leaf}
use Rattle.tilt_base.specs.Grid.{GridPoints}
use Rattle.tilt_bounds.specs.Margins.{MarginsParts, need_at}
use Rattle.tilt_bounds.specs.Stretch.{stretch_of}
use Rattle.tilt_bounds.specs.declared.loop_span.LoopSpan.{LoopSpan}
use Rattle.tilt_code.specs.Code.{Block, LoopParts, CodeParts}
use Rattle.tilt_code.specs.declared.instr.Instr.TheVariants as instr
use Rattle.tilt_fuse.specs.FusedTree.{FusedTree, Const, Port, Win, WinBy, Argument, One, Two, If, PlannedLoop}
use Rattle.tilt_core.specs.Core.{CoreParts}
use Rattle.tilt_core.specs.CoreTree as core
use Rattle.tilt_core.specs.CoreTree.{Definition}
use Rattle.tilt_core.specs.Needs.{no_margin}

-- how many loops are those of definitions before one
abbrev pub loops_before : List PlannedLoop → ℕ → ℕ
loops_before [] def = 0
loops_before (l ∷ loops) def = (if nat_lt l.def def then 1 else 0) + loops_before loops def

-- the buffer of a source: buffers are numbered, first the inputs and then the loops
abbrev pub buffer_of : ℕ → List PlannedLoop → ℕ → ℕ
buffer_of inputs loops source = if nat_lt source inputs then source else inputs + loops_before loops (source - inputs)

-- how many registers a tree takes: one for each node, and none for those of maps
abbrev pub registers : FusedTree → ℕ
registers (One op a) = registers a + 1
registers (Two op a b) = registers a + registers b + 1
registers (If c a b) = registers c + registers a + registers b + 1
registers other = 1

-- how many maps it has
abbrev pub maps : FusedTree → ℕ
maps (WinBy map reducer source from to) = 1
maps (One op a) = maps a
maps (Two op a b) = maps a + maps b
maps (If c a b) = maps c + maps a + maps b
maps other = 0

-- the register of a tree's result, if its registers begin at the given one: its last
abbrev pub result_at : ℕ → FusedTree → ℕ
result_at register tree = register + (registers tree - 1)

-- the instructions of a tree, operands first and from left to right. The registers and the maps are numbered from these two numbers on;
-- buffers are given by the numbers of their sources
abbrev pub block_of : (ℕ → ℕ) → ℕ → ℕ → FusedTree → Block
block_of buffer register number (Const value) = instr.Const value ∷ []
block_of buffer register number (Port source offset) = instr.Port (buffer source) offset ∷ []
block_of buffer register number (Win reducer source from to) = instr.Win reducer (buffer source) from to None ∷ []
block_of buffer register number (WinBy map reducer source from to) = instr.Win reducer (buffer source) from to (Some number) ∷ []
block_of buffer register number Argument = instr.Argument ∷ []
block_of buffer register number (One op a) = block_of buffer register number a ++ instr.One op (result_at register a) ∷ []
block_of buffer register number (Two op a b) =
    let second = register + registers a in
    block_of buffer register number a
    ++ block_of buffer second (number + maps a) b
    ++ instr.Two op (result_at register a) (result_at second b) ∷ []
block_of buffer register number (If c a b) =
    let second = register + registers c in
    let third = second + registers a in
    block_of buffer register number c
    ++ block_of buffer second (number + maps c) a
    ++ block_of buffer third (number + maps c + maps a) b
    ++ instr.If (result_at register c) (result_at second a) (result_at third b) ∷ []

-- the maps of a tree, in the order of their windows; maps have no windows, and name no buffers
abbrev pub maps_of : FusedTree → List Block
maps_of (WinBy map reducer source from to) = block_of (λ source. source) 0 0 map ∷ []
maps_of (One op a) = maps_of a
maps_of (Two op a b) = maps_of a ++ maps_of b
maps_of (If c a b) = maps_of c ++ maps_of a ++ maps_of b
maps_of other = []

-- each tick is a point
abbrev pub each_tick : GridPoints
each_tick = record { period = pos 1; offset = pos 0 }

-- the loop that is null on all of a stretch
abbrev pub null_on : ℤ → ℤ → LoopParts
null_on lo hi = record { lo = lo; hi = hi; grid = each_tick; maps = []; body = instr.Null ∷ [] }

-- the loop of a definition with a tree, on its stretch; null on all of it if the stretch is marked as empty
abbrev pub loop_on : LoopSpan → (ℕ → ℕ) → Definition → FusedTree → LoopParts
loop_on span buffer def tree =
    if span.empty then null_on span.lo span.hi
    else record { lo = span.lo; hi = span.hi; grid = def.grid; maps = maps_of tree; body = block_of buffer 0 0 tree }

-- what stands for a definition that isn't there
abbrev pub no_definition : Definition
no_definition = record { body = Leaf (core.Const (pos 0)); over = None; grid = each_tick }

-- the loop of one of the plan's loops, for the output on `(lo, hi]`
abbrev pub lowered : List PlannedLoop → CoreParts → MarginsParts → ℤ → ℤ → PlannedLoop → LoopParts
lowered loops query margins lo hi l =
    let inputs = length query.inputs in
    let def = get_or query.defs l.def no_definition in
    loop_on (stretch_of def (unwrap_or (need_at margins.needs (inputs + l.def)) no_margin) lo hi) (buffer_of inputs loops) def l.body

-- the code of a query
abbrev pub code_of : List PlannedLoop → CoreParts → MarginsParts → ℤ → ℤ → CodeParts
code_of loops query margins lo hi = record { inputs = query.inputs; loops = map (lowered loops query margins lo hi) loops }
