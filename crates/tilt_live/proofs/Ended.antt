-- Of snapshots, those that end at a tick or below it, after the first ones.
use Rattle.std.proofs.Common.{◌≡◌, ◌≤◌, ◌+◌, ℕ, zero, suc, ℤ, pos, ◌+ℤ◌, ◌≤ℤ◌, ◌<ℤ◌, true, List, [], ◌∷◌, ◌++◌, length, take, drop, slice_get, Some, refl, sym, ap, ◌∙◌, subst}
use Rattle.std.proofs.Common.{arith, inl, inr}
use Rattle.std.specs.Int.{int_gap}
use Rattle.std.specs.Prelude.{int_le}
use Rattle.std.proofs.lemmas.Bool.{cases_Bool}
use Rattle.std.proofs.lemmas.Int.{ints}
use Rattle.std.proofs.lemmas.List.{drop-drop, length-drop}
use Rattle.tilt_engine.proofs.Gone.{drop-none}
use Rattle.tilt_engine.specs.Engines.{given_after}
use Rattle.tilt_feed.specs.Resting.{ended_by}
use Rattle.tilt_resume.proofs.Behind.{ends_or, ends_or-more}
use Rattle.tilt_stream.proofs.Cut.{int_gap_is}
use Rattle.tilt_stream.proofs.Filling.{Fill-up}
use Rattle.tilt_stream.specs.Snap.{Snapshot, Fill}
use Rattle.tilt_stream.specs.Snapshots.{snapshot_on, snapshots, snapshots_from}
use Rattle.tilt_stream.specs.Stream.{Stream}

-- the snapshot with a number is the first one after as many
pub slice-drop : (list : List Snapshot) (n : ℕ) → slice_get list n ≡ slice_get (drop n list) 0
slice-drop list zero = ap (λ (l : List Snapshot). slice_get l 0) (sym (drop-none list))
slice-drop [] (suc n) = refl
slice-drop (s ∷ list) (suc n) = slice-drop list n

-- those that end by a tick, after the first ones of them
pub ended-drop : (tick : ℤ) (n : ℕ) (list : List Snapshot) → n ≤ length (ended_by tick list) → drop n (ended_by tick list) ≡ ended_by tick (drop n list)
ended-drop tick zero list within = drop-none (ended_by tick list) ∙ ap (ended_by tick) (sym (drop-none list))
ended-drop tick (suc n) [] within = refl
ended-drop tick (suc n) (s ∷ list) within =
    elim (cases_Bool (int_le s.end tick)) [
      | inl is ↦ (let fits : suc n ≤ suc (length (ended_by tick list)) = rw is at within in rw is (ended-drop tick n list (omega (arith, fits))))
      | inr none ↦ (let fits : suc n ≤ 0 = rw none at within in absurd (omega (arith, fits)))
    ]

pub ended-length : (tick : ℤ) (n : ℕ) (list : List Snapshot) → n ≤ length (ended_by tick list)
    → length (ended_by tick list) ≡ n + length (ended_by tick (drop n list))
ended-length tick n list within =
    omega (arith, within, length-drop n (ended_by tick list), ap length (ended-drop tick n list within))

pub ended-next : (tick : ℤ) (n : ℕ) (list : List Snapshot) → n ≤ length (ended_by tick list)
    → slice_get (ended_by tick list) n ≡ slice_get (ended_by tick (drop n list)) 0
ended-next tick n list within =
    slice-drop (ended_by tick list) n ∙ ap (λ (l : List Snapshot). slice_get l 0) (ended-drop tick n list within)

-- lists with the same rest have the same rest of those that end by a tick
module _ (tick : ℤ) (list other : List Snapshot) (n m : ℕ) (same : drop n list ≡ drop m other) (within : n ≤ length (ended_by tick list)) (there : m ≤ length (ended_by tick other)) where
  pub same-next : slice_get (ended_by tick list) n ≡ slice_get (ended_by tick other) m
  same-next = ended-next tick n list within ∙ ap (λ (l : List Snapshot). slice_get (ended_by tick l) 0) same ∙ sym (ended-next tick m other there)

  pub same-length : length (ended_by tick list) + m ≡ length (ended_by tick other) + n
  same-length =
      omega (arith, ended-length tick n list within, ended-length tick m other there, ap (λ (l : List Snapshot). length (ended_by tick l)) same)

-- after one more of each
pub drop-next : (n : ℕ) (list : List Snapshot) → drop (n + 1) list ≡ drop 1 (drop n list)
drop-next n list = sym (drop-drop 1 n list)

-- the last end of the first ones, with one more
pub taken-end : (lo : ℤ) (list : List Snapshot) (n : ℕ) (s : Snapshot) → Some s ≡ slice_get list n → ends_or lo (take (n + 1) list) ≡ s.end
taken-end lo [] n s is = absurd (cc is)
taken-end lo (x ∷ list) zero s is = let same : s ≡ x = cc is in ap (λ (t : Snapshot). t.end) (sym same)
taken-end lo (x ∷ list) (suc n) s is =
    let on : suc n + 1 ≡ suc (n + 1) = omega arith in
    ap (λ (k : ℕ). ends_or lo (take k (x ∷ list))) on ∙ ends_or-more lo x (take (n + 1) list) ∙ taken-end x.end list n s is

-- all snapshots that end by a tick end below any greater one
pub ended-low : (tick hi lo : ℤ) (list : List Snapshot) → tick <ℤ hi → lo <ℤ hi → ends_or lo (ended_by tick list) <ℤ hi
ended-low tick hi lo [] below low = low
ended-low tick hi lo (s ∷ list) below low =
    elim (cases_Bool (int_le s.end tick)) [
      | inl is ↦ (
          let rest = ended-low tick hi s.end list below (grind (arith, ints)) in
          rw is (subst (λ (t : ℤ). t <ℤ hi) (sym (ends_or-more lo s (ended_by tick list))) rest))
      | inr none ↦ rw none low
    ]

-- snapshots that fill a stretch end where it does
pub filled-end : (lo hi : ℤ) (list : List Snapshot) → Fill lo hi list → ends_or lo list ≡ hi
filled-end lo hi [] fill = fill
filled-end lo hi (s ∷ list) fill = ends_or-more lo s list ∙ filled-end s.end hi list fill.2

-- of a list of one, as many are returned as there are
pub one-given : (list : List Snapshot) → length list ≤ 1 → given_after 0 (slice_get list 0) ≡ length list
one-given [] few = refl
one-given (s ∷ []) few = refl
one-given (s ∷ x ∷ list) few = absurd (omega arith)

pub ended-few : (tick : ℤ) (list : List Snapshot) → length (ended_by tick list) ≤ length list
ended-few tick [] = omega arith
ended-few tick (s ∷ list) =
    elim (cases_Bool (int_le s.end tick)) [
      | inl is ↦ (let rest = ended-few tick list in rw is (omega arith))
      | inr none ↦ rw none (omega arith)
    ]

-- snapshots that fill a stretch all end by its end
pub ended-all : (tick lo hi : ℤ) (list : List Snapshot) → hi ≤ℤ tick → Fill lo hi list → ended_by tick list ≡ list
ended-all tick lo hi [] low fill = refl
ended-all tick lo hi (s ∷ list) low fill =
    let below = Fill-up s.end hi list fill.2 in
    let is : int_le s.end tick ≡ true = grind (arith, ints) in
    rw is (ap (λ (l : List Snapshot). s ∷ l) (ended-all tick s.end hi list low fill.2))

-- one snapshot that ends by a tick
pub one-ended : (tick : ℤ) (s : Snapshot) → s.end ≤ℤ tick → ended_by tick (s ∷ []) ≡ s ∷ []
one-ended tick s low = let is : int_le s.end tick ≡ true = grind (arith, ints) in rw is refl

-- the snapshots of one tick
pub one-tick : (x : Stream) (lo hi : ℤ) → hi ≡ lo +ℤ pos 1 → snapshots x lo hi ≡ snapshot_on x lo (lo +ℤ pos 1) ∷ []
one-tick x lo hi at =
    let e = int_gap_is lo hi (omega (arith, ints)) in
    let one : int_gap lo hi ≡ 1 = omega (arith, ints) in
    ap (snapshots_from x lo) one

-- snapshots that begin a stretch which others fill end within it
pub ends-within : (lo hi : ℤ) (list rest : List Snapshot) → Fill lo hi (list ++ rest) → (lo ≤ℤ ends_or lo list) × (ends_or lo list ≤ℤ hi)
ends-within lo hi [] rest fill = let up = Fill-up lo hi rest fill in (omega (arith, ints), up)
ends-within lo hi (s ∷ list) rest fill =
    let more = ends-within s.end hi list rest fill.2 in
    let low = more.0 in
    let forward = fill.1 in
    subst (λ (t : ℤ). (lo ≤ℤ t) × (t ≤ℤ hi)) (sym (ends_or-more lo s list)) (omega (arith, ints, low, forward), more.1)
