-- Streams that agree on a stretch have the same snapshots there.
use Rattle.std.proofs.Common.{◌≡◌, ℕ, zero, suc, ℤ, pos, ◌+ℤ◌, ◌≤ℤ◌, ◌<ℤ◌, Option, [], ◌∷◌, refl, ap, arith}
use Rattle.std.specs.Int.{int_gap}
use Rattle.std.proofs.lemmas.Int.{ints, by_lt_z}
use Rattle.tilt_stream.proofs.Cut.{int_gap_is, int_gap_none}
use Rattle.tilt_stream.specs.Agreement.{Agree}
use Rattle.tilt_stream.specs.Snap.{Snapshot}
use Rattle.tilt_stream.specs.Snapshots.{snapshot_on, cut_behind, snapshots_from, snapshots}
use Rattle.tilt_stream.specs.Stream.{Stream}

module _ (x y : Stream) (lo hi : ℤ) (h : Agree x y lo hi) where
  same_snapshot : (start end : ℤ) → lo ≤ℤ start → start <ℤ hi → snapshot_on x start end ≡ snapshot_on y start end
  same_snapshot start end low high =
      ap (λ (value : Option ℤ). record { start = start; end = end; value = value }) (h.cells (start +ℤ pos 1) (omega (arith, ints)) (omega (arith, ints)))

  cut_behind-agrees : (start tick : ℤ) (more : ℕ) → lo ≤ℤ start → start <ℤ tick → (tick +ℤ pos more) ≤ℤ hi → cut_behind x start tick more ≡ cut_behind y start tick more
  cut_behind-agrees start tick zero low some high = ap (λ (s : Snapshot). s ∷ []) (same_snapshot start tick low (omega (arith, ints)))
  cut_behind-agrees start tick (suc more) low some high =
      let next = tick +ℤ pos 1 in
      rw (
        h.marks next (omega (arith, ints)) (omega (arith, ints)),
        same_snapshot start tick low (omega (arith, ints)),
        cut_behind-agrees tick next more (omega (arith, ints)) (omega (arith, ints)) (omega (arith, ints)),
        cut_behind-agrees start next more low (omega (arith, ints)) (omega (arith, ints)),
      ) refl

  snapshots_from-agrees : (start : ℤ) (count : ℕ) → lo ≤ℤ start → (start +ℤ pos count) ≤ℤ hi → snapshots_from x start count ≡ snapshots_from y start count
  snapshots_from-agrees start zero low high = refl
  snapshots_from-agrees start (suc more) low high = cut_behind-agrees start (start +ℤ pos 1) more low (omega (arith, ints)) (omega (arith, ints))

  pub snapshots-agree : snapshots x lo hi ≡ snapshots y lo hi
  snapshots-agree =
      by_lt_z lo hi
      (λ some. snapshots_from-agrees lo (int_gap lo hi) (omega (arith, ints)) (let e = int_gap_is lo hi (omega (arith, ints)) in omega (arith, ints)))
      (λ none. rw (int_gap_none lo hi none) refl)
