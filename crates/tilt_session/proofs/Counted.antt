-- How many rows start before a cut: the first ones.
use Rattle.std.proofs.Common.{◌≡◌, ◌≤◌, ℕ, zero, suc, ℤ, Bool, true, false, if◌then◌else◌, int_lt, List, [], ◌∷◌, length, take, drop, Some, refl, arith, ap}
use Rattle.std.specs.List.Sorted.{IsPartitionPoint, IsPartitionedBy}
use Rattle.std.proofs.lemmas.Int.{ints}
use Rattle.tilt_stream.proofs.Rising.{parted}
use Rattle.tilt_session.specs.Parts.{early, behind}
use Rattle.tilt_stream.specs.Snap.{Snapshot, InOrder}

-- those that start before a cut come before the others
pub starts-parted : (from limit : ℤ) (rows : List Snapshot) (cut : ℤ) → InOrder from limit rows → IsPartitionedBy (λ (r : Snapshot). int_lt r.start cut) rows
starts-parted from limit rows cut h = parted (λ r. r.start) (λ r width. (omega (arith, ints), omega (arith, ints))) from limit rows cut h

-- a search that parts them finds how many they are
pub starts-counted : (rows : List Snapshot) (cut : ℤ) (i : ℕ) → i ≤ length rows
    → IsPartitionPoint (λ (r : Snapshot). int_lt r.start cut ≡ true) (λ (r : Snapshot). int_lt r.start cut ≡ false) rows i
    → i ≡ length (early (Some cut) rows)
starts-counted [] cut i within point = omega arith
starts-counted (r ∷ rs) cut zero within point =
    let out = point.1 0 r (omega arith) (omega arith) in
    rw out refl
starts-counted (r ∷ rs) cut (suc i) within point =
    let in_ = point.0 0 r (omega arith) (omega arith) in
    rw in_ (ap suc (starts-counted rs cut i (omega arith) ((λ k d l h. point.0 (suc k) d (omega arith) (omega arith)), (λ k d l h. point.1 (suc k) d (omega arith) (omega arith)))))

-- that many are the first rows
pub take-early : (cut : ℤ) (rows : List Snapshot) → take (length (early (Some cut) rows)) rows ≡ early (Some cut) rows
take-early cut [] = refl
take-early cut (r ∷ rs) = by (int_lt r.start cut) (take-early cut rs)
  where
    by : (b : Bool) → take (length (early (Some cut) rs)) rs ≡ early (Some cut) rs
        → take (length (if b then r ∷ early (Some cut) rs else [])) (r ∷ rs) ≡ (if b then r ∷ early (Some cut) rs else [])
    by true rest = ap (λ (l : List Snapshot). r ∷ l) rest
    by false rest = refl

-- and without them the rows after them are left
pub drop-early : (cut : ℤ) (rows : List Snapshot) → drop (length (early (Some cut) rows)) rows ≡ behind cut rows
drop-early cut [] = refl
drop-early cut (r ∷ rs) = by (int_lt r.start cut) (drop-early cut rs)
  where
    by : (b : Bool) → drop (length (early (Some cut) rs)) rs ≡ behind cut rs
        → drop (length (if b then r ∷ early (Some cut) rs else [])) (r ∷ rs) ≡ (if b then behind cut rs else r ∷ rs)
    by true rest = rest
    by false rest = refl
