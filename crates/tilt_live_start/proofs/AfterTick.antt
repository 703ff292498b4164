-- The snapshots of a stream after a tick are those that end after it.
use Rattle.std.proofs.Common.{◌≡◌, ℤ, pos, ◌+ℤ◌, ◌-ℤ◌, ◌≤ℤ◌, ◌<ℤ◌, true, false, List, [], ◌∷◌, ◌++◌, Some, refl, sym, ap, ◌∙◌, arith, inl, inr}
use Rattle.std.specs.Int.{int_max}
use Rattle.std.specs.Prelude.{int_le}
use Rattle.std.proofs.lemmas.Bool.{cases_Bool}
use Rattle.std.proofs.lemmas.Int.{ints, clamps, by_lt_z}
use Rattle.tilt_feed.specs.Resting.{ended_by}
use Rattle.tilt_live_start.specs.After.{after_tick}
use Rattle.tilt_stream.proofs.Cut.{snapshots-none}
use Rattle.tilt_stream.proofs.Filling.{Fill-up, snapshots-Fill}
use Rattle.tilt_stream.proofs.Joined.{snapshots-last, snapshots-parted}
use Rattle.tilt_stream.specs.Agreement.{ChangesOnlyAtMarks}
use Rattle.tilt_stream.specs.Pieces.{joined_from, without_last}
use Rattle.tilt_stream.specs.Snap.{Fill, Snapshot}
use Rattle.tilt_stream.specs.Snapshots.{snapshots}
use Rattle.tilt_stream.specs.Stream.{Stream}

-- none of those that end by the tick is left
pub none-after : (tick lo hi : ℤ) (list : List Snapshot) → Fill lo hi list → hi ≤ℤ tick → after_tick tick list ≡ []
none-after tick lo hi [] fill past = refl
none-after tick lo hi (s ∷ list) fill past =
    let up = Fill-up s.end hi list fill.2 in
    let test : int_le s.end tick ≡ true = grind (arith, ints) in
    rw test (none-after tick s.end hi list fill.2 past)

-- of those that start at a tick or after it, and end after it, each ends after the tick
none-ended : (tick known lo hi : ℤ) (list : List Snapshot) → Fill lo hi list → known ≤ℤ lo → ended_by known (after_tick tick list) ≡ []
none-ended tick known lo hi [] fill low = refl
none-ended tick known lo hi (s ∷ list) fill low =
    let forward = fill.1 in
    elim (cases_Bool (int_le s.end tick)) [
      | inl is ↦ rw is (none-ended tick known s.end hi list fill.2 (omega (arith, ints, forward, low)))
      | inr none ↦ (let late : int_le s.end known ≡ false = grind (arith, ints) in rw (none, late) refl)
    ]

-- those that end after one tick, and by another
pub ended-after : (tick known lo hi : ℤ) (list : List Snapshot) → Fill lo hi list → ended_by known (after_tick tick list) ≡ after_tick tick (ended_by known list)
ended-after tick known lo hi [] fill = refl
ended-after tick known lo hi (s ∷ list) fill =
    elim (cases_Bool (int_le s.end tick)) [
      | inl is ↦ elim (cases_Bool (int_le s.end known)) [
        | inl in_time ↦ rw (is, in_time) (rw is (ended-after tick known s.end hi list fill.2))
        | inr late ↦ rw (is, late) (none-ended tick known s.end hi list fill.2 (grind (arith, ints)))
      ]
      | inr none ↦ elim (cases_Bool (int_le s.end known)) [
        | inl in_time ↦ rw (none, in_time) (rw none refl)
        | inr late ↦ rw (none, late) refl
      ]
    ]

-- all but the last of those up to the tick after end by the tick
before-last : (tick lo hi : ℤ) (list rest : List Snapshot) → Fill lo hi list → hi ≡ tick +ℤ pos 1 → after_tick tick (without_last list ++ rest) ≡ after_tick tick rest
before-last tick lo hi [] rest fill at = refl
before-last tick lo hi (s ∷ []) rest fill at = refl
before-last tick lo hi (s ∷ next ∷ list) rest fill at =
    let more = fill.2 in
    let begins = more.0 in
    let forward = more.1 in
    let up = Fill-up next.end hi list more.2 in
    let test : int_le s.end tick ≡ true = grind (arith, ints) in
    rw test (before-last tick s.end hi (next ∷ list) rest fill.2 at)

-- a snapshot that begins earlier is cut at the tick again
cut-again : (tick start hi : ℤ) (list : List Snapshot) → Fill tick hi list → start ≤ℤ tick → after_tick tick (joined_from (Some start) list) ≡ list
cut-again tick start hi [] fill low = refl
cut-again tick start hi (s ∷ list) fill low =
    let begins = fill.0 in
    let forward = fill.1 in
    let test : int_le s.end tick ≡ false = grind (arith, ints) in
    let at : int_max tick start ≡ s.start = grind (arith, ints, clamps) in
    rw test (ap (λ (t : ℤ). record { start = t; end = s.end; value = s.value } ∷ list) at)

module _ (x : Stream) (changes : ChangesOnlyAtMarks x) where
  after-some : (tick lo hi : ℤ) → lo ≤ℤ tick → tick <ℤ hi → snapshots x tick hi ≡ after_tick tick (snapshots x lo hi)
  after-some tick lo hi low some =
      let mid = tick +ℤ pos 1 in
      let front = snapshots x lo mid in
      let last = snapshots-last x lo mid (omega (arith, ints)) in
      let high = last.high in
      let back : mid -ℤ pos 1 ≡ tick = omega (arith, ints) in
      let parts = snapshots-parted x changes lo mid hi (omega (arith, ints)) (omega (arith, ints)) in
      let rest = snapshots x tick hi in
      sym (
      ap (after_tick tick) (parts ∙ (λ i. without_last front ++ joined_from (last.is i) (snapshots x (back i) hi)))
      ∙ before-last tick lo mid front (joined_from (Some last.start) rest) (snapshots-Fill x lo mid (omega (arith, ints))) refl
      ∙ cut-again tick last.start hi rest (snapshots-Fill x tick hi some) (omega (arith, ints)))

  -- whatever was before the tick
  pub snapshots-after : (tick lo hi : ℤ) → lo ≤ℤ tick → tick ≤ℤ hi → snapshots x tick hi ≡ after_tick tick (snapshots x lo hi)
  snapshots-after tick lo hi low high =
      by_lt_z tick hi
      (λ some. after-some tick lo hi low some)
      (λ none. snapshots-none x tick hi none ∙ sym (none-left none))
    where
      none-left : hi ≤ℤ tick → after_tick tick (snapshots x lo hi) ≡ []
      none-left none =
          by_lt_z lo hi
          (λ some. none-after tick lo hi (snapshots x lo hi) (snapshots-Fill x lo hi some) none)
          (λ empty. ap (after_tick tick) (snapshots-none x lo hi empty))
