-- The ends of snapshots on a stretch, of which the last one gets another end.
use Rattle.std.proofs.Common.{◌≡◌, ◌<◌, ◌≤◌, ℕ, zero, suc, ℤ, pos, neg_ℤ, ◌+ℤ◌, ◌<ℤ◌, ◌≤ℤ◌, List, [], ◌∷◌}
use Rattle.std.proofs.Common.{◌++◌, length, slice_get, Some, refl, sym, ap, ◌∙◌, subst, arith, get_or, FitsSigned, to_z, of_z, w64, rules}
use Rattle.std.proofs.lemmas.Int.{ints, to_z-of_z}
use Rattle.std.proofs.lemmas.Option.{slice_get-get_or}
use Rattle.std.specs.List.{insert, remove}
use Rattle.std.specs.Option.{ForSome}
use Rattle.tilt_base.specs.declared.limits.TheConstants.{WIDE}
use Rattle.tilt_fix.specs.Piece.{IsPieceOf}
use Rattle.tilt_fix.specs.Replaced.{ended_at}
use Rattle.tilt_stream.proofs.Filling.{Fill-AreSnapshots}
use Rattle.tilt_stream.specs.Snap.{Snapshot, AreSnapshots, Fill, InOrder, Touch, ended_below, last_end}

-- the one before the last ends where that one starts
pub last-touches : (before : List Snapshot) (s : Snapshot) → Touch (before ++ s ∷ []) → ForSome (last_end before) (λ end. end ≡ s.start)
last-touches [] s h = λ end is. absurd (cc is)
last-touches (b ∷ []) s h = λ end is. let e : b.end ≡ end = cc is in sym e ∙ h.0
last-touches (b ∷ next ∷ before) s h = last-touches (next ∷ before) s h.1

-- and the last one starts at the bound of all or later
pub last-low : (from limit : ℤ) (before : List Snapshot) (s : Snapshot) → InOrder from limit (before ++ s ∷ []) → from ≤ℤ s.start
last-low from limit [] s h = h.0
last-low from limit (b ∷ before) s h =
    let rest = last-low b.end limit before s h.3 in
    let a = h.0 in
    let c = h.1 in
    omega (arith, ints)

-- what fills a stretch ends at its end
fill-last : (lo hi : ℤ) (list : List Snapshot) (end : ℤ) → Fill lo hi list → last_end list ≡ Some end → end ≡ hi
fill-last lo hi [] end h is = absurd (cc is)
fill-last lo hi (s ∷ []) end h is = let e : s.end ≡ end = cc is in sym e ∙ h.2
fill-last lo hi (s ∷ next ∷ ss) end h is = fill-last s.end hi (next ∷ ss) end h.2 is

-- what fills some ticks has a first one, which starts at their start, with another end of the last one too
fill-first : (lo hi end start : ℤ) (list : List Snapshot) → Fill lo hi list → lo <ℤ hi → start ≤ℤ lo
    → (0 < length (ended_at end list)) × ForSome (slice_get (ended_at end list) 0) (λ first. start ≤ℤ first.start)
fill-first lo hi end start [] h some low = absurd (omega (arith, ints))
fill-first lo hi end start (s ∷ []) h some low =
    (omega arith, λ first is. let e : s.start ≡ first.start = cc is in let a = h.0 in omega (arith, ints))
fill-first lo hi end start (s ∷ next ∷ ss) h some low =
    (omega arith, λ first is. let e : s ≡ first = cc is in let f : s.start ≡ first.start = ap (λ (t : Snapshot). t.start) e in let a = h.0 in omega (arith, ints))

-- one of snapshots within the limits lies within them
read-bounds : (from limit : ℤ) (list : List Snapshot) (place : ℕ) (s : Snapshot) → InOrder from limit list → slice_get list place ≡ Some s
    → (from ≤ℤ s.start) × (s.end ≤ℤ limit)
read-bounds from limit [] place s h is = absurd (cc is)
read-bounds from limit (x ∷ xs) zero s h is = let e : x ≡ s = cc in subst (λ (t : Snapshot). (from ≤ℤ t.start) × (t.end ≤ℤ limit)) e (h.0, h.2)
read-bounds from limit (x ∷ xs) (suc i) s h is =
    let rest = read-bounds x.end limit xs i s h.3 is in
    let a = rest.0 in
    let b = h.0 in
    let c = h.1 in
    (omega (arith, ints), rest.1)

-- what the ends of a piece say, if it replaces those of a list from one to another
pub record HasEnds (piece : List Snapshot) (first last : Snapshot) : Type 0 where
  pub no_gaps : AreSnapshots piece
  pub later : ForSome (last_end piece) (λ old. old ≤ℤ last.end)
  pub high : last.end ≤ℤ WIDE
  pub low : neg_ℤ WIDE ≤ℤ first.start
  pub some : 0 < length (ended_at last.end piece)
  pub earlier : ForSome (slice_get (ended_at last.end piece) 0) (λ s. first.start ≤ℤ s.start)

pub has-ends : (list piece : List Snapshot) (from to : ℤ) (first last : Snapshot) → AreSnapshots list → IsPieceOf list piece from to
    → slice_get list (ended_below (from +ℤ pos 1) list) ≡ Some first → slice_get list (ended_below to list) ≡ Some last → HasEnds piece first last
has-ends list piece from to first last h fits first_is last_is =
    let begun = fits.begun first first_is in
    let reaches = fits.reaches last last_is in
    let opened = fill-first from to last.end first.start piece fits.fills fits.some begun in
    record {
      no_gaps = Fill-AreSnapshots from to piece fits.low fits.high fits.fills;
      later = λ old is. let e = fill-last from to piece old fits.fills is in omega (arith, ints);
      high = (read-bounds (neg_ℤ WIDE) WIDE list (ended_below to list) last h.in_order last_is).1;
      low = (read-bounds (neg_ℤ WIDE) WIDE list (ended_below (from +ℤ pos 1) list) first h.in_order first_is).0;
      some = opened.0;
      earlier = opened.1;
    }

-- what a search and a read find is the one at that place
read-at : (all list : List Snapshot) (i place : ℕ) (s : Snapshot) → all ≡ list → i ≡ place → place < length list → s ≡ get_or all i s
    → slice_get list place ≡ Some s
read-at all list i place s same is within found =
    slice_get-get_or list place s within ∙ ap Some (sym (found ∙ (λ k. get_or (same k) (is k) s)))

-- the two of a list between which a piece is, as they are found, and what the ends of the piece say
pub record IsBetween (list piece : List Snapshot) (from to : ℤ) (first last : Snapshot) : Type 0 where
  pub first_is : slice_get list (ended_below (from +ℤ pos 1) list) ≡ Some first
  pub last_is : slice_get list (ended_below to list) ≡ Some last
  pub ends : HasEnds piece first last

pub is-between : (all list piece : List Snapshot) (from to : ℤ) (i j : ℕ) (first last : Snapshot) → all ≡ list → AreSnapshots list
    → IsPieceOf list piece from to → i ≡ ended_below (to_z w64 (of_z w64 (to_z w64 (of_z w64 from) +ℤ pos 1))) all
    → j ≡ ended_below (to_z w64 (of_z w64 to)) all → first ≡ get_or all i first → last ≡ get_or all j last → IsBetween list piece from to first last
is-between all list piece from to i j first last same h fits i_is j_is first_found last_found =
    let low = fits.low in
    let some = fits.some in
    let high = fits.high in
    let from_fits : FitsSigned w64 from = search rules in
    let next_fits : FitsSigned w64 (from +ℤ pos 1) = search rules in
    let to_fits : FitsSigned w64 to = search rules in
    let at_first : i ≡ ended_below (from +ℤ pos 1) all = rw (to_z-of_z w64 from from_fits, to_z-of_z w64 (from +ℤ pos 1) next_fits) at i_is in
    let at_last : j ≡ ended_below to all = rw (to_z-of_z w64 to to_fits) at j_is in
    let first_is = read-at all list i (ended_below (from +ℤ pos 1) list) first same (at_first ∙ ap (ended_below (from +ℤ pos 1)) same) fits.first first_found in
    let last_is = read-at all list j (ended_below to list) last same (at_last ∙ ap (ended_below to) same) fits.last last_found in
    record { first_is = first_is; last_is = last_is; ends = has-ends list piece from to first last h fits first_is last_is }

-- a row that is inserted and removed again
pub removed-inserted : (rows : List Snapshot) (at : ℕ) (row : Snapshot) → at ≤ length rows → remove (insert rows at row) at ≡ rows
removed-inserted rows zero row within = refl
removed-inserted [] (suc at) row within = absurd (omega arith)
removed-inserted (r ∷ rs) (suc at) row within = ap (λ (l : List Snapshot). r ∷ l) (removed-inserted rs at row (omega arith))
