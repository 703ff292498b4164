-- What the loops of small codes make, and what their rings hold, computed from the definitions.
use Rattle.std.proofs.Common.{◌≡◌, ℕ, ℤ, pos, negsuc, Bool, true, false, List, [], ◌∷◌, map, length, Some, None, refl}
use Rattle.tilt_base.specs.declared.operator.Op2.TheVariants.{Add}
use Rattle.tilt_base.specs.declared.reducer.Reducer.TheVariants.{Sum}
use Rattle.tilt_code.specs.Code.{Block, LoopParts, CodeParts}
use Rattle.tilt_code.specs.Run.{run_of}
use Rattle.tilt_code.specs.declared.instr.Instr.TheVariants.{Port, Win, Two}
use Rattle.tilt_pipe.specs.Made.{Work, Stage, works_of, stages_after}
use Rattle.tilt_pipe.specs.Rings.{rings_after, most_ever}
use Rattle.tilt_stream.specs.Snap.{Snapshot}

-- a loop on a stretch at every tick, without maps
abbrev on_stretch : ℤ → ℤ → Block → LoopParts
on_stretch lo hi body = record { lo = lo; hi = hi; grid = record { period = pos 1; offset = pos 0 }; maps = []; body = body }

-- a snapshot with a value, and one with null
abbrev row : ℤ → ℤ → ℤ → Snapshot
row start end value = record { start = start; end = end; value = Some value }

abbrev gap : ℤ → ℤ → Snapshot
gap start end = record { start = start; end = end; value = None }

-- what the loops of a code have made, how much that is, and which of them are used
abbrev made_after : CodeParts → List (List Snapshot) → ℕ → List (List Snapshot)
made_after code inputs given = map (λ (s : Stage). s.made) (stages_after code inputs given)

abbrev counts : CodeParts → List (List Snapshot) → ℕ → List ℕ
counts code inputs given = map (λ (s : Stage). length s.made) (stages_after code inputs given)

abbrev used : CodeParts → List (List Snapshot) → List Bool
used code inputs = map (λ (w : Work). w.used) (works_of code inputs)

-- over x, `port b0 -2` on `(-2, 7]`, and `win sum b1 -3 0` over it on `(0, 7]`
abbrev window_over_shift : CodeParts
window_over_shift = record {
  inputs = (120 ∷ []) ∷ [];
  loops = on_stretch (negsuc 1) (pos 7) (Port 0 (negsuc 1) ∷ []) ∷ on_stretch (pos 0) (pos 7) (Win Sum 1 (negsuc 2) (pos 0) None ∷ []) ∷ [];
}

-- x `0,2,1; 2,3,5; 3,4,2; 4,5,7`
abbrev four_rows : List (List Snapshot)
four_rows = (row (pos 0) (pos 2) (pos 1) ∷ row (pos 2) (pos 3) (pos 5) ∷ row (pos 3) (pos 4) (pos 2) ∷ row (pos 4) (pos 5) (pos 7) ∷ []) ∷ []

-- its run has five snapshots
window_run : run_of window_over_shift four_rows
    ≡ gap (pos 0) (pos 2) ∷ row (pos 2) (pos 4) (pos 1) ∷ row (pos 4) (pos 5) (pos 6) ∷ row (pos 5) (pos 6) (pos 8)
    ∷ row (pos 6) (pos 7) (pos 14) ∷ []
window_run = refl

-- what the shift has made and its ring holds before the first one, and after others
window_made : map (counts window_over_shift four_rows) (0 ∷ 1 ∷ 2 ∷ 5 ∷ []) ≡ (0 ∷ 0 ∷ []) ∷ (1 ∷ 1 ∷ []) ∷ (2 ∷ 2 ∷ []) ∷ (5 ∷ 5 ∷ []) ∷ []
window_made = refl

window_first : map (rings_after window_over_shift four_rows) (0 ∷ 1 ∷ 2 ∷ [])
    ≡ ([] ∷ [] ∷ []) ∷ ((gap (negsuc 1) (pos 2) ∷ []) ∷ [] ∷ []) ∷ ((row (pos 2) (pos 4) (pos 1) ∷ []) ∷ [] ∷ []) ∷ []
window_first = refl

window_later : map (rings_after window_over_shift four_rows) (3 ∷ 4 ∷ [])
    ≡ ((row (pos 2) (pos 4) (pos 1) ∷ row (pos 4) (pos 5) (pos 5) ∷ []) ∷ [] ∷ [])
    ∷ ((row (pos 4) (pos 5) (pos 5) ∷ row (pos 5) (pos 6) (pos 2) ∷ []) ∷ [] ∷ []) ∷ []
window_later = refl

-- at the end nothing is kept, and at most two are held
window_end : rings_after window_over_shift four_rows 5 ≡ [] ∷ [] ∷ []
window_end = refl

window_most : most_ever window_over_shift four_rows ≡ 2
window_most = refl

-- three loops on `(0, 4]`: `port b0 0`, then `port b1 0`, which no loop reads, and then `port b1 -1`
abbrev one_unread : CodeParts
one_unread = record {
  inputs = (120 ∷ []) ∷ [];
  loops = on_stretch (pos 0) (pos 4) (Port 0 (pos 0) ∷ []) ∷ on_stretch (pos 0) (pos 4) (Port 1 (pos 0) ∷ [])
      ∷ on_stretch (pos 0) (pos 4) (Port 1 (negsuc 0) ∷ []) ∷ [];
}

-- x `0,1,1; 1,2,2; 2,3,3`
abbrev three_rows : List (List Snapshot)
three_rows = (row (pos 0) (pos 1) (pos 1) ∷ row (pos 1) (pos 2) (pos 2) ∷ row (pos 2) (pos 3) (pos 3) ∷ []) ∷ []

unread_used : used one_unread three_rows ≡ true ∷ false ∷ true ∷ []
unread_used = refl

-- a loop that only a loop reads that nobody reads isn't used either: `port b0 0`, `port b1 0`, and `port b0 0`
unread_later : used (record {
  inputs = (120 ∷ []) ∷ [];
  loops = on_stretch (pos 0) (pos 4) (Port 0 (pos 0) ∷ []) ∷ on_stretch (pos 0) (pos 4) (Port 1 (pos 0) ∷ [])
      ∷ on_stretch (pos 0) (pos 4) (Port 0 (pos 0) ∷ []) ∷ [];
}) three_rows ≡ false ∷ false ∷ true ∷ []
unread_later = refl

-- the second loop makes nothing and lets the first one's ring keep nothing; the last snapshot of the first loop is never made
unread_made : made_after one_unread three_rows 2
    ≡ (row (pos 0) (pos 1) (pos 1) ∷ []) ∷ [] ∷ (gap (pos 0) (pos 1) ∷ row (pos 1) (pos 2) (pos 1) ∷ []) ∷ []
unread_made = refl

unread_end : counts one_unread three_rows 4 ≡ 3 ∷ 0 ∷ 4 ∷ []
unread_end = refl

unread_most : most_ever one_unread three_rows ≡ 0
unread_most = refl

-- over x and w, `port b0 0` and `port b2 0 + port b1 0` on `(-1, 2]`, and `port b3 -1` on `(0, 2]`
abbrev shift_of_sum : CodeParts
shift_of_sum = record {
  inputs = (120 ∷ []) ∷ (119 ∷ []) ∷ [];
  loops = on_stretch (negsuc 0) (pos 2) (Port 0 (pos 0) ∷ [])
      ∷ on_stretch (negsuc 0) (pos 2) (Port 2 (pos 0) ∷ Port 1 (pos 0) ∷ Two Add 0 1 ∷ [])
      ∷ on_stretch (pos 0) (pos 2) (Port 3 (negsuc 0) ∷ []) ∷ [];
}

-- x `0,5,1`, and w `0,1,1; 1,2,2`
abbrev two_inputs : List (List Snapshot)
two_inputs = (row (pos 0) (pos 5) (pos 1) ∷ []) ∷ (row (pos 0) (pos 1) (pos 1) ∷ row (pos 1) (pos 2) (pos 2) ∷ []) ∷ []

sum_run : run_of shift_of_sum two_inputs ≡ gap (pos 0) (pos 1) ∷ row (pos 1) (pos 2) (pos 2) ∷ []
sum_run = refl

sum_made : made_after shift_of_sum two_inputs 2
    ≡ (gap (negsuc 0) (pos 0) ∷ row (pos 0) (pos 2) (pos 1) ∷ []) ∷ (gap (negsuc 0) (pos 0) ∷ row (pos 0) (pos 1) (pos 2) ∷ [])
    ∷ (gap (pos 0) (pos 1) ∷ row (pos 1) (pos 2) (pos 2) ∷ []) ∷ []
sum_made = refl

-- at the end the sum is at 1, below the end of its stretch, and what it would read next is still kept
sum_rings : map (rings_after shift_of_sum two_inputs) (1 ∷ 2 ∷ [])
    ≡ ([] ∷ [] ∷ [] ∷ []) ∷ ((row (pos 0) (pos 2) (pos 1) ∷ []) ∷ [] ∷ [] ∷ []) ∷ []
sum_rings = refl

-- over x, `port b0 0` on `(0, 6]`, and over it every 2 ticks `win sum b1 -3 1` on `(-1, 4]`
abbrev window_every_2 : CodeParts
window_every_2 = record {
  inputs = (120 ∷ []) ∷ [];
  loops = on_stretch (pos 0) (pos 6) (Port 0 (pos 0) ∷ []) ∷ record {
    lo = negsuc 0;
    hi = pos 4;
    grid = record { period = pos 2; offset = pos 0 };
    maps = [];
    body = Win Sum 1 (negsuc 2) (pos 1) None ∷ [];
  } ∷ [];
}

-- x `0,1,1; 1,2,2; 2,3,3; 3,4,4; 4,5,5; 5,6,6`
abbrev six_rows : List (List Snapshot)
six_rows = (
    row (pos 0) (pos 1) (pos 1) ∷ row (pos 1) (pos 2) (pos 2) ∷ row (pos 2) (pos 3) (pos 3) ∷ row (pos 3) (pos 4) (pos 4)
    ∷ row (pos 4) (pos 5) (pos 5) ∷ row (pos 5) (pos 6) (pos 6) ∷ []) ∷ []

-- the values are taken at 0, 2 and 4, each over four ticks, the last of which lies above the grid point
every_2_run : run_of window_every_2 six_rows
    ≡ row (negsuc 0) (pos 0) (pos 1) ∷ row (pos 0) (pos 2) (pos 6) ∷ row (pos 2) (pos 4) (pos 14) ∷ []
every_2_run = refl

every_2_made : map (counts window_every_2 six_rows) (1 ∷ 3 ∷ []) ≡ (1 ∷ 1 ∷ []) ∷ (5 ∷ 3 ∷ []) ∷ []
every_2_made = refl

every_2_rings : map (rings_after window_every_2 six_rows) (1 ∷ 2 ∷ 3 ∷ [])
    ≡ ((row (pos 0) (pos 1) (pos 1) ∷ []) ∷ [] ∷ []) ∷ ((row (pos 1) (pos 2) (pos 2) ∷ row (pos 2) (pos 3) (pos 3) ∷ []) ∷ [] ∷ [])
    ∷ ([] ∷ [] ∷ []) ∷ []
every_2_rings = refl
