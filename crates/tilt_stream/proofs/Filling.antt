-- Snapshots that fill a stretch: those of a stream do, and what fills a stretch within the limits touches and lies in order.
use Rattle.std.proofs.Common.{◌≡◌, ℕ, zero, suc, ℤ, pos, neg_ℤ, ◌+ℤ◌, ◌<ℤ◌, ◌≤ℤ◌, Bool, true, false, List, [], ◌∷◌, if◌then◌else◌, refl, arith, subst, sym}
use Rattle.std.proofs.lemmas.Int.{ints}
use Rattle.std.specs.Int.{int_gap}
use Rattle.tilt_base.specs.declared.limits.TheConstants.{WIDE}
use Rattle.tilt_stream.proofs.Cutting.{cut_from_first}
use Rattle.tilt_stream.proofs.Cut.{int_gap_is}
use Rattle.tilt_stream.specs.Snap.{Snapshot, InOrder, Touch, AreSnapshots, Fill}
use Rattle.tilt_stream.specs.Snapshots.{snapshot_on, cut_behind, snapshots}
use Rattle.tilt_stream.specs.Stream.{Stream}

Fill-by_mark : (x : Stream) (start tick end : ℤ) (more : ℕ) → start <ℤ tick → Fill tick end (cut_behind x tick (tick +ℤ pos 1) more)
    → Fill start end (cut_behind x start (tick +ℤ pos 1) more)
    → (marked : Bool)
    → Fill start end (if marked then snapshot_on x start tick ∷ cut_behind x tick (tick +ℤ pos 1) more
    else cut_behind x start (tick +ℤ pos 1) more)
Fill-by_mark x start tick end more low cut uncut true = (refl, low, cut)
Fill-by_mark x start tick end more low cut uncut false = uncut

Fill-behind : (x : Stream) (start tick end : ℤ) (more : ℕ) → start <ℤ tick → end ≡ tick +ℤ pos more
    → Fill start end (cut_behind x start tick more)
Fill-behind x start tick end zero low at =
    let is : tick ≡ end = omega (arith, ints) in
    (refl, low, is)
Fill-behind x start tick end (suc more) low at =
    Fill-by_mark x start tick end more low
    (Fill-behind x tick (tick +ℤ pos 1) end more (omega (arith, ints)) (omega (arith, ints)))
    (Fill-behind x start (tick +ℤ pos 1) end more (omega (arith, ints)) (omega (arith, ints)))
    (x.mark (tick +ℤ pos 1))

-- the snapshots of a stream fill the stretch
pub snapshots-Fill : (x : Stream) (lo hi : ℤ) → lo <ℤ hi → Fill lo hi (snapshots x lo hi)
snapshots-Fill x lo hi some =
    let at : hi ≡ (lo +ℤ pos 1) +ℤ pos (int_gap (lo +ℤ pos 1) hi) = sym (int_gap_is (lo +ℤ pos 1) hi (omega (arith, ints))) in
    subst (Fill lo hi) (sym (cut_from_first x lo hi some))
    (Fill-behind x lo (lo +ℤ pos 1) hi (int_gap (lo +ℤ pos 1) hi) (omega (arith, ints)) at)

-- a stretch that is filled doesn't end before it begins
pub Fill-up : (lo hi : ℤ) (list : List Snapshot) → Fill lo hi list → lo ≤ℤ hi
Fill-up lo hi [] h = omega (arith, ints)
Fill-up lo hi (s ∷ ss) h =
    let above : s.end ≤ℤ hi = Fill-up s.end hi ss h.2 in
    omega (arith, ints)

Fill-InOrder : (from limit lo hi : ℤ) (list : List Snapshot) → from ≤ℤ lo → hi ≤ℤ limit → Fill lo hi list → InOrder from limit list
Fill-InOrder from limit lo hi [] low high h = tt
Fill-InOrder from limit lo hi (s ∷ ss) low high h =
    let above : s.end ≤ℤ hi = Fill-up s.end hi ss h.2 in
    (omega (arith, ints), omega (arith, ints), omega (arith, ints), Fill-InOrder s.end limit s.end hi ss (omega (arith, ints)) high h.2)

Fill-Touch : (lo hi : ℤ) (list : List Snapshot) → Fill lo hi list → Touch list
Fill-Touch lo hi [] h = tt
Fill-Touch lo hi (s ∷ []) h = tt
Fill-Touch lo hi (s ∷ next ∷ ss) h = (sym h.2.0, Fill-Touch s.end hi (next ∷ ss) h.2)

-- what fills a stretch within the limits is a list of snapshots
pub Fill-AreSnapshots : (lo hi : ℤ) (list : List Snapshot) → neg_ℤ WIDE ≤ℤ lo → hi ≤ℤ WIDE → Fill lo hi list → AreSnapshots list
Fill-AreSnapshots lo hi list low high h = record {
  in_order = Fill-InOrder (neg_ℤ WIDE) WIDE lo hi list low high h;
  touch = Fill-Touch lo hi list h;
}
