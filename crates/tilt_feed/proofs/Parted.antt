-- What of all snapshots ends at a tick or below it, and what begins next, by the snapshots up to that tick.
use Rattle.std.proofs.Common.{◌≡◌, ◌<◌, ℕ, zero, suc, ◌+◌, ℤ, pos, ◌+ℤ◌, ◌≤ℤ◌, ◌<ℤ◌, Bool, true, false, List, [], ◌∷◌, length, drop, Option, None, int_lt, int_le}
use Rattle.std.proofs.Common.{refl, ap, sym, ◌∙◌, inl, inr, arith}
use Rattle.std.specs.Int.{int_gap}
use Rattle.std.proofs.lemmas.Bool.{cases_Bool}
use Rattle.std.proofs.lemmas.Int.{ints, by_lt_z}
use Rattle.tilt_base.proofs.Comparisons.{true_le, true_lt}
use Rattle.tilt_feed.specs.Printed.{begun_of, closed_of}
use Rattle.tilt_feed.specs.Resting.{begun_next, ended_by}
use Rattle.tilt_stream.proofs.Cut.{int_gap_is, snapshots-none}
use Rattle.tilt_stream.specs.Snap.{Snapshot}
use Rattle.tilt_stream.specs.Snapshots.{snapshot_on, cut_behind, snapshots}
use Rattle.tilt_stream.specs.Stream.{Stream}

-- of the snapshots up to a tick, all or all but the last one end there in a longer list, and what has begun comes next in it
pub record IsPart (mid : ℤ) (all : Bool) (part list : List Snapshot) : Type 0 where
  pub ended : ended_by mid list ≡ closed_of all part
  pub next : begun_next mid (drop (length (closed_of all part)) list) ≡ begun_of all part

-- one more in front of both
part-more : (mid : ℤ) (all : Bool) (s : Snapshot) (part list : List Snapshot) → s.end ≤ℤ mid → 0 < length part → IsPart mid all part list → IsPart mid all (s ∷ part) (s ∷ list)
part-more mid all s [] list low some h = absurd (omega arith)
part-more mid true s (p ∷ part) list low some h =
    let test = true_le s.end mid low in
    record { ended = rw test (ap (λ (l : List Snapshot). s ∷ l) h.ended); next = h.next }
part-more mid false s (p ∷ part) list low some h =
    let test = true_le s.end mid low in
    record { ended = rw test (ap (λ (l : List Snapshot). s ∷ l) h.ended); next = h.next }

-- the first one starts at a tick and doesn't end before another
record IsHeadedTo (start tick : ℤ) (value : Option ℤ) (list : List Snapshot) : Type 0 where
  pub end : ℤ
  pub rest : List Snapshot
  pub is : list ≡ record { start = start; end = end; value = value } ∷ rest
  pub far : tick ≤ℤ end

headed-none : (mid start tick : ℤ) (value : Option ℤ) (list : List Snapshot) → mid <ℤ tick → IsHeadedTo start tick value list → ended_by mid list ≡ []
headed-none mid start tick value list before h =
    let far = h.far in
    let end = h.end in
    let test : int_le end mid ≡ false = grind (arith, ints) in
    ap (ended_by mid) h.is ∙ rw test refl

headed-late : (mid start tick : ℤ) (value : Option ℤ) (list : List Snapshot) → mid ≤ℤ start → IsHeadedTo start tick value list → begun_next mid list ≡ None
headed-late mid start tick value list late h =
    let test : int_lt start mid ≡ false = grind (arith, ints) in
    ap (begun_next mid) h.is ∙ rw test refl

headed-begun : (mid start tick : ℤ) (x : Stream) (list : List Snapshot) → start <ℤ mid → IsHeadedTo start tick (x.cell (start +ℤ pos 1)) list
    → begun_next mid list ≡ begun_of false (snapshot_on x start mid ∷ [])
headed-begun mid start tick x list begins h =
    let test = true_lt start mid begins in
    ap (begun_next mid) h.is ∙ rw test refl

module _ (x : Stream) where
  cut-headed : (start tick : ℤ) (more : ℕ) → IsHeadedTo start tick (x.cell (start +ℤ pos 1)) (cut_behind x start tick more)
  cut-headed start tick zero = record { end = tick; rest = []; is = refl; far = omega (arith, ints) }
  cut-headed start tick (suc more) =
      elim (cases_Bool (x.mark (tick +ℤ pos 1))) [
        | inl is ↦ rw is (record { end = tick; rest = cut_behind x tick (tick +ℤ pos 1) more; is = refl; far = omega (arith, ints) })
        | inr none ↦ (let h = cut-headed start (tick +ℤ pos 1) more in
            let far = h.far in
            rw none (record { end = h.end; rest = h.rest; is = h.is; far = omega (arith, ints) }))
      ]

  cut-some : (start tick : ℤ) (more : ℕ) → 0 < length (cut_behind x start tick more)
  cut-some start tick more = let h = cut-headed start tick more in rw h.is (omega arith)

  module _ (mid : ℤ) (all : Bool) (rest : ℕ) (mark : 0 < rest → x.mark (mid +ℤ pos 1) ≡ all) (end : rest ≡ zero → all ≡ true) where
    -- where the part ends
    cut-end : (start : ℤ) → start <ℤ mid → (after : ℕ) → after ≡ rest → (more : Bool) → all ≡ more → IsPart mid more (snapshot_on x start mid ∷ []) (cut_behind x start mid after)
    cut-end start some zero is true closed =
        let test = true_le mid mid (omega (arith, ints)) in
        record { ended = rw test refl; next = refl }
    cut-end start some zero is false closed = absurd (cc (end (sym is), closed))
    cut-end start some (suc after) is true closed =
        let next : x.mark (mid +ℤ pos 1) ≡ true = mark (omega arith) ∙ closed in
        let test = true_le mid mid (omega (arith, ints)) in
        let h = cut-headed mid (mid +ℤ pos 1) after in
        rw next (record {
          ended = rw test (ap (λ (l : List Snapshot). snapshot_on x start mid ∷ l) (headed-none mid mid (mid +ℤ pos 1) _ _ (omega (arith, ints)) h));
          next = headed-late mid mid (mid +ℤ pos 1) _ _ (omega (arith, ints)) h;
        })
    cut-end start some (suc after) is false closed =
        let next : x.mark (mid +ℤ pos 1) ≡ false = mark (omega arith) ∙ closed in
        let h = cut-headed start (mid +ℤ pos 1) after in
        rw next (record {
          ended = headed-none mid start (mid +ℤ pos 1) _ _ (omega (arith, ints)) h;
          next = headed-begun mid start (mid +ℤ pos 1) x _ some h;
        })

    cut-part : (start tick : ℤ) (more total : ℕ) → start <ℤ tick → tick +ℤ pos more ≡ mid → total ≡ more + rest → IsPart mid all (cut_behind x start tick more) (cut_behind x start tick total)
    cut-part start tick zero total some at sum =
        let here : tick ≡ mid = omega (arith, ints) in
        rw here (cut-end start (omega (arith, ints)) total (omega arith) all refl)
    cut-part start tick (suc more) zero some at sum = absurd (omega arith)
    cut-part start tick (suc more) (suc total) some at sum =
        elim (cases_Bool (x.mark (tick +ℤ pos 1))) [
          | inl is ↦ rw is
              (part-more mid all (snapshot_on x start tick) (cut_behind x tick (tick +ℤ pos 1) more) (cut_behind x tick (tick +ℤ pos 1) total) (omega (arith, ints))
              (cut-some tick (tick +ℤ pos 1) more) (cut-part tick (tick +ℤ pos 1) more total (omega (arith, ints)) (omega (arith, ints)) (omega arith)))
          | inr none ↦ rw none (cut-part start (tick +ℤ pos 1) more total (omega (arith, ints)) (omega (arith, ints)) (omega arith))
        ]

  snapshots-headed_to : (lo hi : ℤ) → lo <ℤ hi → IsHeadedTo lo (lo +ℤ pos 1) (x.cell (lo +ℤ pos 1)) (snapshots x lo hi)
  snapshots-headed_to lo hi some =
      let n = int_gap (lo +ℤ pos 1) hi in
      let e1 = int_gap_is lo hi (omega (arith, ints)) in
      let e2 = int_gap_is (lo +ℤ pos 1) hi (omega (arith, ints)) in
      let all : int_gap lo hi ≡ suc n = omega (arith, ints) in
      rw all (cut-headed lo (lo +ℤ pos 1) n)

  module _ (lo mid hi : ℤ) (on : mid ≤ℤ hi) (all : Bool) (mark : mid <ℤ hi → x.mark (mid +ℤ pos 1) ≡ all) (end : mid ≡ hi → all ≡ true) where
    some-part : lo <ℤ mid → IsPart mid all (snapshots x lo mid) (snapshots x lo hi)
    some-part some =
        let n = int_gap (lo +ℤ pos 1) mid in
        let rest = int_gap mid hi in
        let e1 = int_gap_is lo mid (omega (arith, ints)) in
        let e2 = int_gap_is (lo +ℤ pos 1) mid (omega (arith, ints)) in
        let e3 = int_gap_is mid hi on in
        let e4 = int_gap_is lo hi (omega (arith, ints)) in
        let part : int_gap lo mid ≡ suc n = omega (arith, ints) in
        let list : int_gap lo hi ≡ suc (n + rest) = omega (arith, ints) in
        rw (part, list)
        (cut-part mid all rest (λ more. mark (omega (arith, ints))) (λ none. end (omega (arith, ints))) lo (lo +ℤ pos 1) n (n + rest) (omega (arith, ints)) e2 refl)

    none-part : (more : Bool) → mid ≤ℤ lo → (list : List Snapshot) → (list ≡ []) → IsPart mid more [] list
    none-part true low list is = record { ended = ap (ended_by mid) is; next = ap (begun_next mid) is }
    none-part false low list is = record { ended = ap (ended_by mid) is; next = ap (begun_next mid) is }

    late-part : (more : Bool) → mid ≤ℤ lo → lo <ℤ hi → IsPart mid more [] (snapshots x lo hi)
    late-part true low some =
        let h = snapshots-headed_to lo hi some in
        record { ended = headed-none mid lo (lo +ℤ pos 1) _ _ (omega (arith, ints)) h; next = headed-late mid lo (lo +ℤ pos 1) _ _ low h }
    late-part false low some =
        let h = snapshots-headed_to lo hi some in
        record { ended = headed-none mid lo (lo +ℤ pos 1) _ _ (omega (arith, ints)) h; next = headed-late mid lo (lo +ℤ pos 1) _ _ low h }

    -- the snapshots up to a tick within all, if the last one ends there exactly if a mark follows, or if all end there
    pub snapshots-part : IsPart mid all (snapshots x lo mid) (snapshots x lo hi)
    snapshots-part =
        by_lt_z lo mid some-part
        (λ low.
        rw (snapshots-none x lo mid low)
        (by_lt_z lo hi (late-part all low) (λ none. none-part all low (snapshots x lo hi) (snapshots-none x lo hi none))))
