-- What the rings of a pipe keep, by the position of each loop. That position says what the loop has made: nothing else records it.
use Rattle.std.specs.Prelude.{◌≡◌, ◌≤◌, ◌+◌, ℕ, ℤ, Bool, pos, ◌<ℤ◌, ◌≤ℤ◌, if◌then◌else◌, List, [], ◌∷◌, ◌++◌, map, length, drop, get_or}
use Rattle.std.specs.Prelude.{slice_get, slice_set, Some, int_le, refl, ⊤}
use Rattle.std.specs.Coded.{Coded, code_by, coded×, coded_list, coded_ℕ, coded_ℤ}
use Rattle.tilt_code.specs.Code.{CodeParts, coded_code}
use Rattle.tilt_stream.specs.Snap.{Snapshot, gap_before, Fill}
use Rattle.tilt_pipe.specs.Made.{Stage, Work, works_of}
use Rattle.tilt_stream.specs.Stored.{coded_snapshots}

-- what a ring holds, how many snapshots before those were made and forgotten, where the next one starts, and where its loop ends
pub record RingParts : Type 0 where
  pub held : List Snapshot
  pub forgotten : ℕ
  pub start : ℤ
  pub hi : ℤ

-- the rings of the loops of a code, with the rows of its inputs
pub record RingsParts : Type 0 where
  pub code : CodeParts
  pub inputs : List (List Snapshot)
  pub rings : List RingParts

-- the snapshots that end at a tick or below it
abbrev pub made_by : ℤ → List Snapshot → List Snapshot
made_by tick [] = []
made_by tick (s ∷ ss) = if int_le s.end tick then s ∷ made_by tick ss else []

-- a ring that holds what is kept of the part of the loop's buffer that ends at the loop's position
pub record IsRing (w : Work) (r : RingParts) : Type 0 where
  pub fill : Fill w.loop.lo r.start (made_by r.start w.whole)
  pub within : r.start ≤ℤ w.loop.hi
  pub forgotten : r.forgotten ≤ length (made_by r.start w.whole)
  pub held : r.held ≡ drop r.forgotten (made_by r.start w.whole)
  pub hi : r.hi ≡ w.loop.hi

-- the same of each loop
abbrev pub AreRingsOf : List Work → List RingParts → Type 0
AreRingsOf [] [] = ⊤
AreRingsOf [] (r ∷ rings) = ⊥
AreRingsOf (w ∷ works) [] = ⊥
AreRingsOf (w ∷ works) (r ∷ rings) = IsRing w r × AreRingsOf works rings

-- what rings keep
pub record AreRings (p : RingsParts) : Type 0 where
  pub inputs : length p.inputs ≡ length p.code.inputs
  pub many : length p.rings ≡ length p.code.loops
  pub rings : AreRingsOf (works_of p.code p.inputs) p.rings

-- what a turn reads of a loop: what it has made, and one null snapshot that stands for the rest of its stretch
abbrev pub open_list : Work → ℤ → List Snapshot
open_list w start = made_by start w.whole ++ gap_before (Some start) w.loop.hi

-- the same of each loop
abbrev pub open_lists : List Work → List ℤ → List (List Snapshot)
open_lists [] starts = []
open_lists (w ∷ works) [] = []
open_lists (w ∷ works) (start ∷ starts) = open_list w start ∷ open_lists works starts

-- the position of each loop
abbrev pub starts_of : List RingParts → List ℤ
starts_of rings = map (λ r. r.start) rings

-- what a turn reads of all buffers
abbrev pub lists_of : RingsParts → List (List Snapshot)
lists_of p = p.inputs ++ open_lists (works_of p.code p.inputs) (starts_of p.rings)

-- how many of each are forgotten
abbrev pub forgotten_of : RingsParts → List ℕ
forgotten_of p = map (λ _. 0) p.inputs ++ map (λ r. r.forgotten) p.rings

-- the loops with what they have made at their positions
abbrev pub stages_at : List Work → List ℤ → List Stage
stages_at [] starts = []
stages_at (w ∷ works) [] = []
stages_at (w ∷ works) (start ∷ starts) = record { work = w; made = made_by start w.whole } ∷ stages_at works starts

-- the position of a loop
abbrev pub start_at : RingsParts → ℕ → ℤ
start_at p place = get_or (starts_of p.rings) place (pos 0)

-- the loops
abbrev pub works_in : RingsParts → List Work
works_in p = works_of p.code p.inputs

-- what a loop of a pipe has made
abbrev pub made_at : RingsParts → ℕ → Work → List Snapshot
made_at p place w = made_by (start_at p place) w.whole

-- rings, with another one at a place
abbrev pub with_ring : RingsParts → ℕ → RingParts → RingsParts
with_ring p place ring = record { code = p.code; inputs = p.inputs; rings = slice_set p.rings place ring }

-- a ring whose loop has made one snapshot more, which it takes in if a later loop reads it
abbrev pub kept_ring : Bool → RingParts → Snapshot → RingParts
kept_ring read r s = record {
  held = if read then r.held ++ s ∷ [] else r.held;
  forgotten = if read then r.forgotten else r.forgotten + 1;
  start = s.end;
  hi = r.hi;
}

-- a ring whose first snapshot was let go
abbrev pub later_ring : RingParts → RingParts
later_ring r = record { held = drop 1 r.held; forgotten = r.forgotten + 1; start = r.start; hi = r.hi }

-- a loop that is before the end of its stretch
pub record IsOpen (p : RingsParts) (place : ℕ) (w : Work) : Type 0 where
  pub is : slice_get (works_in p) place ≡ Some w
  pub before : start_at p place <ℤ w.loop.hi

-- distinguished field by field
abbrev pub coded_ring : Coded RingParts
coded_ring =
    code_by (List Snapshot × (ℕ × (ℤ × ℤ))) (coded× coded_snapshots (coded× coded_ℕ (coded× coded_ℤ coded_ℤ)))
    (λ r. (r.held, (r.forgotten, (r.start, r.hi))))
    (λ p. record { held = p.0; forgotten = p.1.0; start = p.1.1.0; hi = p.1.1.1 }) (λ _. refl)

abbrev pub coded_rings : Coded RingsParts
coded_rings =
    code_by (CodeParts × (List (List Snapshot) × List RingParts))
    (coded× coded_code (coded× (coded_list coded_snapshots) (coded_list coded_ring))) (λ p. (p.code, (p.inputs, p.rings)))
    (λ p. record { code = p.0; inputs = p.1.0; rings = p.1.1 }) (λ _. refl)
