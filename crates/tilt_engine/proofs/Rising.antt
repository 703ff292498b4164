-- Inputs whose horizons rise make buffers of a code whose horizons rise.
use Rattle.std.proofs.Common.{ℕ, ◌+◌, List, [], ◌∷◌, ◌++◌, length, Some}
use Rattle.std.specs.List.{AllByRecursion}
use Rattle.tilt_base.specs.declared.span.Span.{Span}
use Rattle.tilt_code.proofs.Runs.{loops-timed}
use Rattle.tilt_code.specs.Code.{Block, CodeParts, LoopParts}
use Rattle.tilt_code.specs.Meaning.{IsTimed}
use Rattle.tilt_code.specs.References.{IsCode}
use Rattle.tilt_code.specs.declared.instr.Instr.{Instr}
use Rattle.tilt_code.specs.declared.instr.Instr.TheVariants.{Const, Null, Argument, Port, Win, One, Two, If}
use Rattle.tilt_engine.specs.CodeHorizon.{block_horizon, code_horizons, instr_horizon, loop_horizon, with_loop_horizons}
use Rattle.tilt_engine.specs.Standing.{loop_at}
use Rattle.tilt_feed.proofs.Known.{IsNotAbove, above-refl, over-above}
use Rattle.tilt_feed.proofs.Rising.{AreNotAbove, earlier-rises, grid-rises, moved-rises, rises-at, rises-push}
use Rattle.tilt_feed.specs.Horizon.{Horizon, ForEver, grid_horizon, horizon_of}

module _ (gs hs : List Horizon) (all : (buffer : ℕ) → IsNotAbove (horizon_of gs buffer) (horizon_of hs buffer)) where
  instr-rises : (i : Instr) → IsNotAbove (instr_horizon gs i) (instr_horizon hs i)
  instr-rises (Port buffer offset) = moved-rises (horizon_of gs buffer) (horizon_of hs buffer) offset (all buffer)
  instr-rises (Win reducer buffer from to number) = moved-rises (horizon_of gs buffer) (horizon_of hs buffer) to (all buffer)
  instr-rises (Const number) = above-refl ForEver
  instr-rises Null = above-refl ForEver
  instr-rises Argument = above-refl ForEver
  instr-rises (One op a) = above-refl ForEver
  instr-rises (Two op a b) = above-refl ForEver
  instr-rises (If c a b) = above-refl ForEver

  block-rises_by : (block : Block) → IsNotAbove (block_horizon gs block) (block_horizon hs block)
  block-rises_by [] = above-refl ForEver
  block-rises_by (i ∷ block) =
      earlier-rises (instr_horizon gs i) (block_horizon gs block) (instr_horizon hs i) (block_horizon hs block) (instr-rises i) (block-rises_by block)

-- a block over buffers whose horizons rise
pub block-rises : (gs hs : List Horizon) (block : Block) → AreNotAbove gs hs → IsNotAbove (block_horizon gs block) (block_horizon hs block)
block-rises gs hs block all = block-rises_by gs hs (rises-at gs hs all) block

-- a loop over them
loop-rises : (gs hs : List Horizon) (l : LoopParts) → IsTimed l → AreNotAbove gs hs → IsNotAbove (loop_horizon gs l) (loop_horizon hs l)
loop-rises gs hs l timed all =
    let g = block_horizon gs l.body in
    let h = block_horizon hs l.body in
    let span : Span = record { start = l.lo; end = l.hi } in
    over-above (Some span) (grid_horizon l.grid g) (grid_horizon l.grid h) (grid-rises l.grid g h timed.grid.period_low (block-rises gs hs l.body all))

-- loops over them
loops-rise : (loops : List LoopParts) (gs hs : List Horizon) → AllByRecursion IsTimed loops → AreNotAbove gs hs
    → AreNotAbove (with_loop_horizons gs loops) (with_loop_horizons hs loops)
loops-rise [] gs hs timed all = all
loops-rise (l ∷ loops) gs hs timed all =
    loops-rise loops (gs ++ loop_horizon gs l ∷ []) (hs ++ loop_horizon hs l ∷ []) timed.1
    (rises-push gs hs (loop_horizon gs l) (loop_horizon hs l) all (loop-rises gs hs l timed.0 all))

-- all buffers of a code
pub code-rises : (code : CodeParts) (gs hs : List Horizon) → IsCode code → AreNotAbove gs hs → AreNotAbove (code_horizons code gs) (code_horizons code hs)
code-rises code gs hs is all = loops-rise code.loops gs hs (loops-timed code.loops is.grammatical.loops) all

-- the buffer with a number
pub buffer-rises : (code : CodeParts) (gs hs : List Horizon) (n : ℕ) → IsCode code → AreNotAbove gs hs
    → IsNotAbove (horizon_of (code_horizons code gs) n) (horizon_of (code_horizons code hs) n)
buffer-rises code gs hs n is all = rises-at (code_horizons code gs) (code_horizons code hs) (code-rises code gs hs is all) n

-- the loop at a place
pub loop_at-rises : (code : CodeParts) (gs hs : List Horizon) (place : ℕ) → IsCode code → AreNotAbove gs hs
    → IsNotAbove (loop_at code gs place) (loop_at code hs place)
loop_at-rises code gs hs place is all = buffer-rises code gs hs (length code.inputs + place) is all

-- what a body reads
pub body-rises : (code : CodeParts) (gs hs : List Horizon) (block : Block) → IsCode code → AreNotAbove gs hs
    → IsNotAbove (block_horizon (code_horizons code gs) block) (block_horizon (code_horizons code hs) block)
body-rises code gs hs block is all = block-rises (code_horizons code gs) (code_horizons code hs) block (code-rises code gs hs is all)
