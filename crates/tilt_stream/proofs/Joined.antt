-- The snapshots up to a tick, split at an earlier one. The first part is those up to there except the last. The second is those from
-- the tick before on, the first of which goes on from where the last one began.
use Rattle.std.proofs.Common.{◌≡◌, ℕ, zero, suc, ◌+◌, ◌<◌, ℤ, pos, ◌+ℤ◌, ◌-ℤ◌, ◌<ℤ◌, ◌≤ℤ◌, List, [], ◌∷◌, ◌++◌, length, Option, Some, inl, inr, refl, sym, ap, ◌∙◌, arith}
use Rattle.std.specs.Int.{int_gap}
use Rattle.std.proofs.lemmas.Bool.{cases_Bool}
use Rattle.std.proofs.lemmas.Int.{ints}
use Rattle.tilt_stream.proofs.Cut.{int_gap_is}
use Rattle.tilt_stream.specs.Agreement.{ChangesOnlyAtMarks}
use Rattle.tilt_stream.specs.Snap.{Snapshot, joined_open}
use Rattle.tilt_stream.specs.Snapshots.{snapshot_on, cut_behind, snapshots}
use Rattle.tilt_stream.specs.Stream.{Stream}
use Rattle.tilt_stream.specs.Pieces.{without_last, last_start, joined_from}
use Rattle.tilt_stream.proofs.Pieces.{without_last-more, last_start-more}

-- the last one starts before the last tick, and not before the first one
pub record LastStarts (from last : ℤ) (list : List Snapshot) : Type 0 where
  pub start : ℤ
  pub is : last_start list ≡ Some start
  pub low : from ≤ℤ start
  pub high : start <ℤ last

module _ (x : Stream) where
  -- some ticks have a snapshot
  cut_behind-some : (start tick : ℤ) (more : ℕ) → 0 < length (cut_behind x start tick more)
  cut_behind-some start tick zero = omega arith
  cut_behind-some start tick (suc more) =
      elim (cases_Bool (x.mark (tick +ℤ pos 1))) [
        | inl is ↦ rw is (omega arith)
        | inr none ↦ rw none (cut_behind-some start (tick +ℤ pos 1) more)
      ]

  pub snapshots-some : (lo hi : ℤ) → lo <ℤ hi → 0 < length (snapshots x lo hi)
  snapshots-some lo hi some =
      let n = int_gap (lo +ℤ pos 1) hi in
      let e1 = int_gap_is lo hi (omega (arith, ints)) in
      let e2 = int_gap_is (lo +ℤ pos 1) hi (omega (arith, ints)) in
      let all : int_gap lo hi ≡ suc n = omega (arith, ints) in
      rw all (cut_behind-some lo (lo +ℤ pos 1) n)

  cut_behind-last : (from start tick last : ℤ) (more : ℕ) → from ≤ℤ start → start <ℤ tick → last ≡ tick +ℤ pos more
      → LastStarts from last (cut_behind x start tick more)
  cut_behind-last from start tick last zero low some at = record { start = start; is = refl; low = low; high = omega (arith, ints) }
  cut_behind-last from start tick last (suc more) low some at =
      let next = tick +ℤ pos 1 in
      elim (cases_Bool (x.mark next)) [
        | inl is ↦
            let h = cut_behind-last from tick next last more (omega (arith, ints)) (omega (arith, ints)) (omega (arith, ints)) in
            rw is (record { start = h.start; is = last_start-more (snapshot_on x start tick) (cut_behind x tick next more) (cut_behind-some tick next more) ∙ h.is; low = h.low; high = h.high })
        | inr none ↦ rw none (cut_behind-last from start next last more low (omega (arith, ints)) (omega (arith, ints)))
      ]

  pub snapshots-last : (lo hi : ℤ) → lo <ℤ hi → LastStarts lo hi (snapshots x lo hi)
  snapshots-last lo hi some =
      let n = int_gap (lo +ℤ pos 1) hi in
      let e1 = int_gap_is lo hi (omega (arith, ints)) in
      let e2 = int_gap_is (lo +ℤ pos 1) hi (omega (arith, ints)) in
      let all : int_gap lo hi ≡ suc n = omega (arith, ints) in
      rw all (cut_behind-last lo lo (lo +ℤ pos 1) hi n (omega (arith, ints)) (omega (arith, ints)) (omega (arith, ints)))

  -- where a snapshot begins earlier, and its first cell is the same, only its start is another
  begun_elsewhere : (a b tick : ℤ) (more : ℕ) → x.cell (a +ℤ pos 1) ≡ x.cell (b +ℤ pos 1)
      → cut_behind x a tick more ≡ joined_open a (cut_behind x b tick more)
  begun_elsewhere a b tick zero same = ap (λ (v : Option ℤ). record { start = a; end = tick; value = v } ∷ []) same
  begun_elsewhere a b tick (suc more) same =
      let next = tick +ℤ pos 1 in
      elim (cases_Bool (x.mark next)) [
        | inl is ↦ rw is (ap (λ (v : Option ℤ). record { start = a; end = tick; value = v } ∷ cut_behind x tick next more) same)
        | inr none ↦ rw none (begun_elsewhere a b next more same)
      ]

  module _ (h : ChangesOnlyAtMarks x) where
    parted : (start tick last : ℤ) (n more rest : ℕ) → more ≡ n + rest → last ≡ tick +ℤ pos n → x.cell tick ≡ x.cell (start +ℤ pos 1)
        → cut_behind x start tick more
        ≡ without_last (cut_behind x start tick n) ++ joined_from (last_start (cut_behind x start tick n)) (cut_behind x (last -ℤ pos 1) last rest)
    parted start tick last zero more rest e at same =
        let p : more ≡ rest = omega arith in
        let q : tick ≡ last = omega (arith, ints) in
        let back : last -ℤ pos 1 +ℤ pos 1 ≡ tick = omega (arith, ints) in
        ap (cut_behind x start tick) p
        ∙ ap (λ (t : ℤ). cut_behind x start t rest) q
        ∙ begun_elsewhere start (last -ℤ pos 1) last rest (sym same ∙ ap x.cell (sym back))
    parted start tick last (suc n) zero rest e at same = absurd (omega arith)
    parted start tick last (suc n) (suc more) rest e at same =
        let next = tick +ℤ pos 1 in
        elim (cases_Bool (x.mark next)) [
          | inl is ↦
              let front = cut_behind x tick next n in
              let some = cut_behind-some tick next n in
              let s = snapshot_on x start tick in
              rw is (
              ap (λ (l : List Snapshot). s ∷ l) (parted tick next last n more rest (omega arith) (omega (arith, ints)) refl)
              ∙ (λ i. sym (without_last-more s front some) i
              ++ joined_from (sym (last_start-more s front some) i) (cut_behind x (last -ℤ pos 1) last rest)))
          | inr none ↦
              let back : next -ℤ pos 1 ≡ tick = omega (arith, ints) in
              rw none (parted start next last n more rest (omega arith) (omega (arith, ints)) (h.unchanged next none ∙ ap x.cell back ∙ same))
        ]

    pub snapshots-parted : (lo mid hi : ℤ) → lo <ℤ mid → mid ≤ℤ hi
        → snapshots x lo hi ≡ without_last (snapshots x lo mid) ++ joined_from (last_start (snapshots x lo mid)) (snapshots x (mid -ℤ pos 1) hi)
    snapshots-parted lo mid hi some on =
        let n = int_gap (lo +ℤ pos 1) mid in
        let rest = int_gap mid hi in
        let e1 = int_gap_is lo hi (omega (arith, ints)) in
        let e2 = int_gap_is lo mid (omega (arith, ints)) in
        let e3 = int_gap_is (lo +ℤ pos 1) mid (omega (arith, ints)) in
        let e4 = int_gap_is mid hi on in
        let e5 = int_gap_is (mid -ℤ pos 1) hi (omega (arith, ints)) in
        let all : int_gap lo hi ≡ suc (n + rest) = omega (arith, ints) in
        let front : int_gap lo mid ≡ suc n = omega (arith, ints) in
        let back : int_gap (mid -ℤ pos 1) hi ≡ suc rest = omega (arith, ints) in
        let at : mid -ℤ pos 1 +ℤ pos 1 ≡ mid = omega (arith, ints) in
        let made = parted lo (lo +ℤ pos 1) mid n (n + rest) rest refl (omega (arith, ints)) refl in
        rw (all, front, back) (made ∙ ap
        (λ (t : ℤ). without_last (cut_behind x lo (lo +ℤ pos 1) n) ++ joined_from (last_start (cut_behind x lo (lo +ℤ pos 1) n)) (cut_behind x (mid -ℤ pos 1) t rest))
        (sym at))
