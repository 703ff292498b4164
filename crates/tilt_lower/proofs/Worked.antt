-- Codes of small queries, computed from the definition.
use Rattle.std.proofs.Common.{◌≡◌, ℤ, pos, negsuc, List, [], ◌∷◌, Some, None, Bool, true, false, refl}
use Rattle.tilt_base.specs.declared.operator.Op2.TheVariants.{Add}
use Rattle.tilt_base.specs.declared.reducer.Reducer.TheVariants.{Sum, Max}
use Rattle.tilt_base.specs.Expression.{Leaf, Two}
use Rattle.tilt_bounds.specs.Margins.{MarginsParts}
use Rattle.tilt_code.specs.Code.{Block, LoopParts, CodeParts}
use Rattle.tilt_code.specs.declared.instr.Instr.TheVariants as instr
use Rattle.tilt_fuse.specs.Plan.{plan_of}
use Rattle.tilt_core.specs.Core.{CoreParts}
use Rattle.tilt_core.specs.CoreTree.{Const, Read, Reduce, CoreTree, Definition}
use Rattle.tilt_core.specs.Needs.{needs}
use Rattle.tilt_lower.specs.Lowering.{each_tick, code_of}

-- a definition on each tick
taken : CoreTree → Definition
taken body = record { body = body; over = None; grid = each_tick }

-- a query of one input with these definitions
over_x : List Definition → CoreParts
over_x defs = record { inputs = (120 ∷ []) ∷ []; names = []; defs = defs }

-- its code for the output on `(0, hi]`
code_for : Bool → List Definition → ℤ → CodeParts
code_for fuse defs hi =
    let query = over_x defs in
    let margins : MarginsParts = record { back = pos 4; ahead = pos 0; needs = needs 1 defs } in
    code_of (plan_of query fuse) query margins (pos 0) hi

-- a code of these loops
codes : List LoopParts → CodeParts
codes loops = record { inputs = (120 ∷ []) ∷ []; loops = loops }

loop : ℤ → ℤ → List Block → Block → LoopParts
loop lo hi maps body = record { lo = lo; hi = hi; grid = each_tick; maps = maps; body = body }

-- `let y = x[t-2]; emit sum(y[t-3:t])`
shift_in_window : List Definition
shift_in_window = taken (Leaf (Read 0 (negsuc 1))) ∷ taken (Leaf (Reduce Sum 1 (negsuc 2) (pos 0))) ∷ []

shift_in_window_plain : code_for false shift_in_window (pos 5)
    ≡ codes (loop (negsuc 1) (pos 5) [] (instr.Port 0 (negsuc 1) ∷ []) ∷ loop (pos 0) (pos 5) [] (instr.Win Sum 1 (negsuc 2) (pos 0) None ∷ []) ∷ [])
unfolding shift_in_window code_for over_x taken codes loop
shift_in_window_plain = refl

shift_in_window_fused : code_for true shift_in_window (pos 5) ≡ codes (loop (pos 0) (pos 5) [] (instr.Win Sum 0 (negsuc 4) (negsuc 1) None ∷ []) ∷ [])
unfolding shift_in_window code_for over_x taken codes loop
shift_in_window_fused = refl

-- `let y = x + 1; emit max(y[t-4:t])`
sum_in_window_fused : code_for true (taken (Two Add (Leaf (Read 0 (pos 0))) (Leaf (Const (pos 1)))) ∷ taken (Leaf (Reduce Max 1 (negsuc 3) (pos 0))) ∷ []) (pos 8)
    ≡ codes (loop (pos 0) (pos 8) ((instr.Argument ∷ instr.Const (pos 1) ∷ instr.Two Add 0 1 ∷ []) ∷ []) (instr.Win Max 0 (negsuc 3) (pos 0) (Some 0) ∷ []) ∷ [])
unfolding code_for over_x taken codes loop
sum_in_window_fused = refl
