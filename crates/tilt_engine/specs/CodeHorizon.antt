-- The horizon of loop code: up to where each buffer is known, computed from the horizons of the inputs (our own rule).
use Rattle.std.specs.Prelude.{ℤ, neg_ℤ, ◌+ℤ◌, ◌-ℤ◌, ◌≤ℤ◌, List, [], ◌∷◌, ◌++◌, Option, Some, None, IfSome}
use Rattle.tilt_base.specs.declared.limits.TheConstants.{OFFSET, WIDE}
use Rattle.tilt_code.specs.Code.{Block, CodeParts, LoopParts}
use Rattle.tilt_code.specs.declared.instr.Instr.{Instr}
use Rattle.tilt_code.specs.declared.instr.Instr.TheVariants.{Port, Win}
use Rattle.tilt_feed.specs.Horizon.{Horizon, ForEver, Until, earlier, earlier_by, grid_horizon, horizon_of, over_horizon}

-- an instruction that reads a buffer: the horizon of the buffer, less how far ahead it reads there; for ever if it reads none
abbrev pub instr_horizon : List Horizon → Instr → Horizon
instr_horizon hs (Port buffer offset) = earlier_by (horizon_of hs buffer) offset
instr_horizon hs (Win reducer buffer from to map) = earlier_by (horizon_of hs buffer) to
instr_horizon hs other = ForEver

-- a block: the earliest of its instructions
abbrev pub block_horizon : List Horizon → Block → Horizon
block_horizon hs [] = ForEver
block_horizon hs (i ∷ block) = earlier (instr_horizon hs i) (block_horizon hs block)

-- a loop: as a definition of its body, on its grid, over its stretch
abbrev pub loop_horizon : List Horizon → LoopParts → Horizon
loop_horizon hs l = over_horizon (Some (record { start = l.lo; end = l.hi })) (grid_horizon l.grid (block_horizon hs l.body))

-- these buffers, and after them the loops, each over all buffers before it
abbrev pub with_loop_horizons : List Horizon → List LoopParts → List Horizon
with_loop_horizons hs [] = hs
with_loop_horizons hs (l ∷ loops) = with_loop_horizons (hs ++ loop_horizon hs l ∷ []) loops

-- the horizon of each buffer of a code
abbrev pub code_horizons : CodeParts → List Horizon → List Horizon
code_horizons code hs = with_loop_horizons hs code.loops

-- a horizon as a tick, if it is one; none for ever
abbrev pub horizon_by : Option ℤ → Horizon
horizon_by None = ForEver
horizon_by (Some tick) = Until tick

-- a horizon of a buffer lies where times of snapshots do
abbrev pub IsTimeOrNever : Option ℤ → Type 0
IsTimeOrNever tick = IfSome tick (λ t. (neg_ℤ WIDE ≤ℤ t) × (t ≤ℤ WIDE))

-- that of a body may be off by an offset
abbrev pub IsNearTimeOrNever : Option ℤ → Type 0
IsNearTimeOrNever tick = IfSome tick (λ t. ((neg_ℤ WIDE -ℤ OFFSET) ≤ℤ t) × (t ≤ℤ (WIDE +ℤ OFFSET)))
