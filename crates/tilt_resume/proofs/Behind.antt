-- The snapshots that come after some of all.
use Rattle.std.proofs.Common.{◌≡◌, ℕ, zero, suc, ℤ, pos, ◌+ℤ◌, ◌≤ℤ◌, List, [], ◌∷◌, ◌++◌, inl, inr, refl, sym, ap, ◌∙◌, arith, unwrap_or}
use Rattle.std.specs.Int.{int_gap}
use Rattle.std.proofs.lemmas.Bool.{cases_Bool}
use Rattle.std.proofs.lemmas.Int.{ints}
use Rattle.tilt_stream.proofs.Cut.{int_gap_is, snapshots-none}
use Rattle.tilt_stream.specs.Snap.{Snapshot, last_end}
use Rattle.tilt_stream.specs.Snapshots.{snapshot_on, cut_behind, snapshots_from, snapshots}
use Rattle.tilt_stream.specs.Stream.{Stream}

-- where the last of some snapshots ends, or a tick if there is none
abbrev pub ends_or : ℤ → List Snapshot → ℤ
ends_or lo list = unwrap_or (last_end list) lo

pub ends_or-more : (lo : ℤ) (s : Snapshot) (list : List Snapshot) → ends_or lo (s ∷ list) ≡ ends_or s.end list
ends_or-more lo s [] = refl
ends_or-more lo s (r ∷ list) = unwrap-same (r ∷ list) lo s.end r list refl
  where
    unwrap-same : (all : List Snapshot) (a b : ℤ) (r : Snapshot) (rs : List Snapshot) → all ≡ r ∷ rs → ends_or a all ≡ ends_or b all
    unwrap-same all a b r [] is = rw is refl
    unwrap-same all a b r (q ∷ rs) is = rw is (unwrap-same (q ∷ rs) a b q rs refl)

module _ (x : Stream) (hi : ℤ) where
  -- the snapshots from a tick on, by how many ticks follow
  from-count : (tick : ℤ) (more : ℕ) → hi ≡ tick +ℤ pos more → snapshots_from x tick more ≡ snapshots x tick hi
  from-count tick more at = let e = int_gap_is tick hi (omega (arith, ints)) in let same : more ≡ int_gap tick hi = omega (arith, ints) in ap (snapshots_from x tick) same

  -- all of them but the first ones are those from the end of the first ones on
  cut-rest : (start tick : ℤ) (more : ℕ) (s : Snapshot) (front rest : List Snapshot) → hi ≡ tick +ℤ pos more → cut_behind x start tick more ≡ s ∷ (front ++ rest)
      → rest ≡ snapshots x (ends_or s.end front) hi
  cut-rest start tick zero s [] rest at is =
      let none : [] ≡ rest = cc is in
      let first : snapshot_on x start tick ≡ s = cc is in
      let end : tick ≡ s.end = ap (λ (t : Snapshot). t.end) first in
      sym none ∙ sym (snapshots-none x s.end hi (omega (arith, ints)))
  cut-rest start tick zero s (f ∷ front) rest at is = absurd (cc is)
  cut-rest start tick (suc more) s [] rest at is =
      let next = tick +ℤ pos 1 in
      elim (cases_Bool (x.mark next)) [
        | inl marked ↦
            let all : snapshot_on x start tick ∷ cut_behind x tick next more ≡ s ∷ rest = rw marked at is in
            let left : cut_behind x tick next more ≡ rest = cc all in
            let first : snapshot_on x start tick ≡ s = cc all in
            let end : tick ≡ s.end = ap (λ (t : Snapshot). t.end) first in
            sym left ∙ from-count tick (suc more) at ∙ ap (λ (t : ℤ). snapshots x t hi) end
        | inr none ↦ cut-rest start next more s [] rest (omega (arith, ints)) (rw none at is)
      ]
  cut-rest start tick (suc more) s (f ∷ front) rest at is =
      let next = tick +ℤ pos 1 in
      elim (cases_Bool (x.mark next)) [
        | inl marked ↦
            let all : snapshot_on x start tick ∷ cut_behind x tick next more ≡ s ∷ (f ∷ (front ++ rest)) = rw marked at is in
            let left : cut_behind x tick next more ≡ f ∷ (front ++ rest) = cc all in
            cut-rest tick next more f front rest (omega (arith, ints)) left ∙ ap (λ (t : ℤ). snapshots x t hi) (sym (ends_or-more s.end f front))
        | inr none ↦ cut-rest start next more s (f ∷ front) rest (omega (arith, ints)) (rw none at is)
      ]

  count-rest : (lo : ℤ) (more : ℕ) (s : Snapshot) (front rest : List Snapshot) → hi ≡ lo +ℤ pos more → snapshots_from x lo more ≡ s ∷ (front ++ rest)
      → rest ≡ snapshots x (ends_or s.end front) hi
  count-rest lo zero s front rest at is = absurd (cc is)
  count-rest lo (suc more) s front rest at is = cut-rest lo (lo +ℤ pos 1) more s front rest (omega (arith, ints)) is

  pub snapshots-rest : (lo : ℤ) (front rest : List Snapshot) → lo ≤ℤ hi → snapshots x lo hi ≡ front ++ rest → rest ≡ snapshots x (ends_or lo front) hi
  snapshots-rest lo [] rest on is = sym is
  snapshots-rest lo (s ∷ front) rest on is =
      count-rest lo (int_gap lo hi) s front rest (sym (int_gap_is lo hi on)) is ∙ ap (λ (t : ℤ). snapshots x t hi) (sym (ends_or-more lo s front))
