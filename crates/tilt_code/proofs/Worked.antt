-- Runs of small codes, computed from the definition.
use Rattle.std.proofs.Common.{◌≡◌, ℕ, ℤ, pos, negsuc, List, [], ◌∷◌, Some, None, refl}
use Rattle.tilt_base.specs.declared.operator.Op1.TheVariants.{IsNull}
use Rattle.tilt_base.specs.declared.operator.Op2.TheVariants.{Add, IfNull}
use Rattle.tilt_base.specs.declared.reducer.Reducer.TheVariants.{Sum, Max, Count}
use Rattle.tilt_base.specs.Grid.{GridPoints}
use Rattle.tilt_code.specs.Code.{Block, LoopParts, CodeParts}
use Rattle.tilt_code.specs.Run.{run_of}
use Rattle.tilt_code.specs.declared.instr.Instr.TheVariants.{Const, Argument, Port, Win, One, Two, If}
use Rattle.tilt_stream.specs.Snap.{Snapshot}

-- a grid of this period and offset
every_from : ℕ → ℕ → GridPoints
every_from period offset = record { period = pos period; offset = pos offset }

-- the code with one input and these loops
over_x : List LoopParts → CodeParts
over_x loops = record { inputs = (120 ∷ []) ∷ []; loops = loops }

-- a snapshot with a value, and one with null
row : ℤ → ℤ → ℤ → Snapshot
row start end value = record { start = start; end = end; value = Some value }

gap : ℤ → ℤ → Snapshot
gap start end = record { start = start; end = end; value = None }

-- x `-4,-3,100; 0,1,10; 1,2,20; 2,3,30`
rising : List Snapshot
rising =
    row (negsuc 3) (negsuc 2) (pos 100) ∷ row (pos 0) (pos 1) (pos 10) ∷ row (pos 1) (pos 2) (pos 20) ∷ row (pos 2) (pos 3) (pos 30) ∷ []

risen : List Snapshot
risen =
    row (pos 0) (pos 1) (pos 100) ∷ gap (pos 1) (pos 2) ∷ row (pos 2) (pos 3) (pos 10) ∷ row (pos 3) (pos 4) (pos 30)
    ∷ row (pos 4) (pos 5) (pos 60) ∷ []

-- a window alone: `win sum b0 -5 -2` on `(0, 5]`
window_alone : run_of (over_x (
    record { lo = pos 0; hi = pos 5; grid = every_from 1 0; maps = []; body = Win Sum 0 (negsuc 4) (negsuc 1) None ∷ [] }
    ∷ [])) (rising ∷ []) ≡ risen
unfolding over_x rising risen row gap every_from
window_alone = refl

-- the same in two loops: `port b0 -2` on `(-2, 5]`, and `win sum b1 -3 0` over it on `(0, 5]`
window_over_shift : run_of (over_x (
    record { lo = negsuc 1; hi = pos 5; grid = every_from 1 0; maps = []; body = Port 0 (negsuc 1) ∷ [] }
    ∷ record { lo = pos 0; hi = pos 5; grid = every_from 1 0; maps = []; body = Win Sum 1 (negsuc 2) (pos 0) None ∷ [] }
    ∷ [])) (rising ∷ []) ≡ risen
unfolding over_x rising risen row gap every_from
window_over_shift = refl

-- a loop on a stretch from 0, with one window and its map
with_map : ℕ → Block → Block → LoopParts
with_map hi map body = record { lo = pos 0; hi = pos hi; grid = every_from 1 0; maps = map ∷ []; body = body }

-- `win max b0 -4 0 m0`, where the map adds 1, with x `0,4,1; 4,8,5`
max_by_map : run_of (over_x (with_map 8 (Argument ∷ Const (pos 1) ∷ Two Add 0 1 ∷ []) (Win Max 0 (negsuc 3) (pos 0) (Some 0) ∷ []) ∷ []))
    ((row (pos 0) (pos 4) (pos 1) ∷ row (pos 4) (pos 8) (pos 5) ∷ []) ∷ [])
    ≡ row (pos 0) (pos 3) (pos 2) ∷ row (pos 3) (pos 4) (pos 2) ∷ row (pos 4) (pos 7) (pos 6) ∷ row (pos 7) (pos 8) (pos 6) ∷ []
unfolding over_x with_map row every_from
max_by_map = refl

-- `win count b0 -3 0 m0`, where the map makes null 0: the ticks that no row covers count, with x `2,4,5` and with no row
count_by_map : List Snapshot → List Snapshot
count_by_map x =
    run_of (over_x (with_map 6 (Argument ∷ Const (pos 0) ∷ Two IfNull 0 1 ∷ []) (Win Count 0 (negsuc 2) (pos 0) (Some 0) ∷ []) ∷ []))
    (x ∷ [])

nulls_count : count_by_map (row (pos 2) (pos 4) (pos 5) ∷ [])
    ≡ row (pos 0) (pos 2) (pos 1) ∷ row (pos 2) (pos 4) (pos 2) ∷ row (pos 4) (pos 6) (pos 2) ∷ []
unfolding count_by_map over_x with_map row every_from
nulls_count = refl

one_null_counts : count_by_map [] ≡ row (pos 0) (pos 6) (pos 1) ∷ []
unfolding count_by_map over_x with_map row every_from
one_null_counts = refl

-- `port b0 0` on `(0, 6]` every 2 ticks, with x `0,3,4; 3,6,5`
taken_every_2 : ℕ → List Snapshot
taken_every_2 offset =
    run_of (over_x (record { lo = pos 0; hi = pos 6; grid = every_from 2 offset; maps = []; body = Port 0 (pos 0) ∷ [] } ∷ []))
    ((row (pos 0) (pos 3) (pos 4) ∷ row (pos 3) (pos 6) (pos 5) ∷ []) ∷ [])

on_even_ticks : taken_every_2 0 ≡ row (pos 0) (pos 2) (pos 4) ∷ row (pos 2) (pos 6) (pos 5) ∷ []
unfolding taken_every_2 over_x row every_from
on_even_ticks = refl

-- the stretch begins and ends off the grid: the last value is taken at 7
on_odd_ticks : taken_every_2 1 ≡ row (pos 0) (pos 3) (pos 4) ∷ row (pos 3) (pos 5) (pos 5) ∷ gap (pos 5) (pos 6) ∷ []
unfolding taken_every_2 over_x row gap every_from
on_odd_ticks = refl

-- a loop on `(0, 6]` without windows
on_six_ticks : Block → LoopParts
on_six_ticks body = record { lo = pos 0; hi = pos 6; grid = every_from 1 0; maps = []; body = body }

-- `if 1 then x else y`, with x `0,6,1` and y `2,3,9`: the branch that isn't chosen marks too
two_branches : run_of (record {
  inputs = (120 ∷ []) ∷ (121 ∷ []) ∷ [];
  loops = on_six_ticks (Const (pos 1) ∷ Port 0 (pos 0) ∷ Port 1 (pos 0) ∷ If 0 1 2 ∷ []) ∷ [];
})
    ((row (pos 0) (pos 6) (pos 1) ∷ []) ∷ (row (pos 2) (pos 3) (pos 9) ∷ []) ∷ [])
    ≡ row (pos 0) (pos 2) (pos 1) ∷ row (pos 2) (pos 3) (pos 1) ∷ row (pos 3) (pos 6) (pos 1) ∷ []
unfolding on_six_ticks row every_from
two_branches = refl

-- a buffer, a map and a register that aren't there are null: the first loop is 1, the second null with a mark at 3, and the third 1
nothing_there : run_of (over_x (
    on_six_ticks (Port 7 (pos 0) ∷ One IsNull 0 ∷ [])
    ∷ on_six_ticks (Win Count 1 (negsuc 2) (pos 0) (Some 3) ∷ [])
    ∷ on_six_ticks (Port 2 (pos 0) ∷ Port 1 (pos 0) ∷ Two IfNull 0 1 ∷ Two IfNull 9 2 ∷ []) ∷ []))
    ([] ∷ []) ≡ row (pos 0) (pos 2) (pos 1) ∷ row (pos 2) (pos 6) (pos 1) ∷ []
unfolding over_x on_six_ticks row every_from
nothing_there = refl
