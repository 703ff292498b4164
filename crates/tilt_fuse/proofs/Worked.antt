-- Plans of small queries, computed from the definition.
use Rattle.std.proofs.Common.{◌≡◌, ℕ, pos, negsuc, List, [], ◌∷◌, None, true, false, refl}
use Rattle.tilt_base.specs.declared.operator.Op2.TheVariants.{Add}
use Rattle.tilt_base.specs.declared.reducer.Reducer.TheVariants.{Sum, Max, Count}
use Rattle.tilt_base.specs.Expression.{Leaf, Two}
use Rattle.tilt_core.specs.Core.{CoreParts}
use Rattle.tilt_core.specs.CoreTree.{Const, Read, Reduce, CoreTree, Definition}
use Rattle.tilt_fuse.specs.FusedTree.{FusedTree, PlannedLoop}
use Rattle.tilt_fuse.specs.FusedTree as tree
use Rattle.tilt_fuse.specs.Plan.{plan_of}

-- a definition on a grid of this period
taken_every : ℕ → CoreTree → Definition
taken_every period body = record { body = body; over = None; grid = record { period = pos period; offset = pos 0 } }

-- a query of one input with these definitions
over_x : List Definition → CoreParts
over_x defs = record { inputs = (120 ∷ []) ∷ []; names = []; defs = defs }

-- the loop of a definition
loop : ℕ → FusedTree → PlannedLoop
loop def body = record { def = def; body = body }

-- `let y = x[t-2]; emit sum(y[t-3:t])`
shift_in_window : CoreParts
shift_in_window = over_x (taken_every 1 (Leaf (Read 0 (negsuc 1))) ∷ taken_every 1 (Leaf (Reduce Sum 1 (negsuc 2) (pos 0))) ∷ [])

shift_in_window_plain : plan_of shift_in_window false ≡ loop 0 (tree.Port 0 (negsuc 1)) ∷ loop 1 (tree.Win Sum 1 (negsuc 2) (pos 0)) ∷ []
unfolding shift_in_window over_x taken_every loop
shift_in_window_plain = refl

-- the window takes the shift in, and there is no map if the tree is the port alone
shift_in_window_fused : plan_of shift_in_window true ≡ loop 1 (tree.Win Sum 0 (negsuc 4) (negsuc 1)) ∷ []
unfolding shift_in_window over_x taken_every loop
shift_in_window_fused = refl

-- `let y = x + 1; emit max(y[t-4:t])`
sum_in_window_fused : plan_of (over_x (taken_every 1 (Two Add (Leaf (Read 0 (pos 0))) (Leaf (Const (pos 1)))) ∷ taken_every 1 (Leaf (Reduce Max 1 (negsuc 3) (pos 0))) ∷ [])) true
    ≡ loop 1 (tree.WinBy (tree.Two Add tree.Argument (tree.Const (pos 1))) Max 0 (negsuc 3) (pos 0)) ∷ []
unfolding over_x taken_every loop
sum_in_window_fused = refl

-- a window that is moved is moved at both ends: `let w = sum(x[t-3:t]); emit w[t-2]`
shifted_window_fused : plan_of (over_x (taken_every 1 (Leaf (Reduce Sum 0 (negsuc 2) (pos 0))) ∷ taken_every 1 (Leaf (Read 1 (negsuc 1))) ∷ [])) true
    ≡ loop 1 (tree.Win Sum 0 (negsuc 4) (negsuc 1)) ∷ []
unfolding over_x taken_every loop
shifted_window_fused = refl

-- a window with a map is moved by the offset of the one reading: `let y = x[t-2] + 1; emit sum(y[t-3:t])`
moved_map_fused : plan_of (over_x (taken_every 1 (Two Add (Leaf (Read 0 (negsuc 1))) (Leaf (Const (pos 1)))) ∷ taken_every 1 (Leaf (Reduce Sum 1 (negsuc 2) (pos 0))) ∷ [])) true
    ≡ loop 1 (tree.WinBy (tree.Two Add tree.Argument (tree.Const (pos 1))) Sum 0 (negsuc 4) (negsuc 1)) ∷ []
unfolding over_x taken_every loop
moved_map_fused = refl

-- a window's source that is made from two readings isn't merged: `let y = x + x[t-1]; emit max(y[t-4:t])`
two_readings_fused : plan_of (over_x (taken_every 1 (Two Add (Leaf (Read 0 (pos 0))) (Leaf (Read 0 (negsuc 0)))) ∷ taken_every 1 (Leaf (Reduce Max 1 (negsuc 3) (pos 0))) ∷ [])) true
    ≡ loop 0 (tree.Two Add (tree.Port 0 (pos 0)) (tree.Port 0 (negsuc 0))) ∷ loop 1 (tree.Win Max 1 (negsuc 3) (pos 0)) ∷ []
unfolding over_x taken_every loop
two_readings_fused = refl

-- a definition on a grid isn't merged: `let y = x every 5; emit y[t-1] + x`
grid_fused : plan_of (over_x (taken_every 5 (Leaf (Read 0 (pos 0))) ∷ taken_every 1 (Two Add (Leaf (Read 1 (negsuc 0))) (Leaf (Read 0 (pos 0)))) ∷ [])) true
    ≡ loop 0 (tree.Port 0 (pos 0)) ∷ loop 1 (tree.Two Add (tree.Port 1 (negsuc 0)) (tree.Port 0 (pos 0))) ∷ []
unfolding over_x taken_every loop
grid_fused = refl

-- a window's source that has itself a window isn't merged, but a reading of it is: `let y = count(x[t-2:t]); let z = y[t-1]; emit sum(y[t-3:t]) + z`
window_in_window_fused : plan_of (over_x (
    taken_every 1 (Leaf (Reduce Count 0 (negsuc 1) (pos 0)))
    ∷ taken_every 1 (Leaf (Read 1 (negsuc 0)))
    ∷ taken_every 1 (Two Add (Leaf (Reduce Sum 1 (negsuc 2) (pos 0))) (Leaf (Read 2 (pos 0))))
    ∷ [])) true
    ≡ loop 0 (tree.Win Count 0 (negsuc 1) (pos 0)) ∷ loop 2 (tree.Two Add (tree.Win Sum 1 (negsuc 2) (pos 0)) (tree.Port 1 (negsuc 0))) ∷ []
unfolding over_x taken_every loop
window_in_window_fused = refl

-- a definition that the emitted one doesn't reach has no loop: `let y = x[t-7]; emit x`
unused_plain : plan_of (over_x (taken_every 1 (Leaf (Read 0 (negsuc 6))) ∷ taken_every 1 (Leaf (Read 0 (pos 0))) ∷ [])) false ≡ loop 1 (tree.Port 0 (pos 0)) ∷ []
unfolding over_x taken_every loop
unused_plain = refl
