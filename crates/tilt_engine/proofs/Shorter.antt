-- Lists of which the first snapshots are let go: they stay in order, and so many fewer are held.
use Rattle.std.proofs.Common.{◌≡◌, ◌<◌, ◌≤◌, ◌+◌, ℕ, zero, suc, ℤ, ◌≤ℤ◌, List, [], ◌∷◌, ◌++◌, length, drop, take, get_or, slice_get, slice_set, Some, refl, sym, ap, subst, arith}
use Rattle.std.proofs.lemmas.Int.{ints}
use Rattle.std.proofs.lemmas.List.{take-append-drop}
use Rattle.std.proofs.lemmas.Option.{same_Some}
use Rattle.tilt_engine.proofs.LeftLists.{Fill-rest}
use Rattle.tilt_engine.specs.Forgetting.{each_later, later_inlet, later_made}
use Rattle.tilt_engine.specs.Stock.{InletParts, IsInlet, IsMade, MadeParts}
use Rattle.tilt_feed.specs.Feed.{closed_at}
use Rattle.tilt_pipe.specs.Rings.{held}
use Rattle.tilt_stream.proofs.Filling.{Fill-AreSnapshots, Fill-up}
use Rattle.tilt_stream.proofs.Order.{InOrder-rest}
use Rattle.tilt_stream.specs.Snap.{AreSnapshots, Fill, InOrder, Snapshot}

-- what is left of a list in order is in order, and so is what follows it
pub order-later : (low high : ℤ) (n : ℕ) (list more : List Snapshot) → InOrder low high (list ++ more) → InOrder low high (drop n list ++ more)
order-later low high n [] more order = subst (λ (rest : List Snapshot). InOrder low high (rest ++ more)) (sym (drop-nothing n)) order
  where
    drop-nothing : (n : ℕ) → drop {A = Snapshot} n [] ≡ []
    drop-nothing zero = refl
    drop-nothing (suc n) = refl
order-later low high zero (s ∷ ss) more order = order
order-later low high (suc n) (s ∷ ss) more order = order-later low high n ss more (InOrder-rest low high s (ss ++ more) order)

pub inlet-later : (n : ℕ) (i : InletParts) → IsInlet i → IsInlet (later_inlet n i)
inlet-later n i is = record {
  order = record {
    rows = order-later _ _ n i.input.rows (closed_at i.input.edge.watermark i.input.edge.open_row) is.order.rows;
    low = is.order.low;
    high = is.order.high;
  };
  low = is.low;
  high = is.high;
}

-- what is left of settled snapshots goes up to where they end
made-filled : (n : ℕ) (m : MadeParts) (is : IsMade m) → (mid : ℤ) × (is.lo ≤ℤ mid) × Fill mid m.settled (drop n m.made)
made-filled n m is =
    let parts = Fill-rest is.lo m.settled (take n m.made) (drop n m.made) (subst (Fill is.lo m.settled) (sym (take-append-drop n m.made)) is.fill) in
    (parts.0, Fill-up is.lo parts.0 (take n m.made) parts.1, parts.2)

pub made-later : (n : ℕ) (m : MadeParts) → IsMade m → IsMade (later_made n m)
made-later n m is =
    let f = made-filled n m is in
    let low = is.low in
    let up = f.1 in
    record { lo = f.0; low = omega (arith, ints); fill = f.2; within = is.within; high = is.high; waiting = is.waiting }

pub made-snapshots : (n : ℕ) (m : MadeParts) → IsMade m → AreSnapshots (drop n m.made)
made-snapshots n m is =
    let f = made-filled n m is in
    let low = is.low in
    let up = f.1 in
    let within = is.within in
    let high = is.high in
    Fill-AreSnapshots f.0 m.settled (drop n m.made) (omega (arith, ints)) (omega (arith, ints)) f.2

take-zero : {A : Type 0} (list : List A) → take 0 list ≡ []
take-zero [] = refl
take-zero (x ∷ list) = refl

-- of some of which the first ones were made later by their numbers: how many there are, the next one, and all
module _ {A : Type 0} (later : ℕ → A → A) where
  pub each-long : (counts : List ℕ) (list : List A) → length (each_later later counts list) ≡ length list
  each-long [] list = refl
  each-long (n ∷ counts) [] = refl
  each-long (n ∷ counts) (x ∷ list) = ap suc (each-long counts list)

  pub each-there : (counts : List ℕ) (list : List A) (place : ℕ) → slice_get (each_later later (take place counts) list) place ≡ slice_get list place
  each-there [] list place = ap (λ (c : List ℕ). slice_get (each_later later c list) place) (take-empty place)
    where
      take-empty : (n : ℕ) → take {A = ℕ} n [] ≡ []
      take-empty zero = refl
      take-empty (suc n) = refl
  each-there (n ∷ counts) list zero = refl
  each-there (n ∷ counts) [] (suc place) = refl
  each-there (n ∷ counts) (x ∷ list) (suc place) = each-there counts list place

  pub each-next : (counts : List ℕ) (list : List A) (place : ℕ) (x : A) → place < length counts → slice_get list place ≡ Some x
      → slice_set (each_later later (take place counts) list) place (later (get_or counts place 0) x) ≡ each_later later (take (suc place) counts) list
  each-next [] list place x within at = absurd (omega arith)
  each-next (n ∷ counts) [] place x within at = absurd (cc at)
  each-next (n ∷ counts) (y ∷ list) zero x within at =
      rw (same_Some y x at) (ap (λ (c : List ℕ). later n x ∷ each_later later c list) (sym (take-zero counts)))
  each-next (n ∷ counts) (y ∷ list) (suc place) x within at =
      ap (λ (rest : List A). later n y ∷ rest) (each-next counts list place x (omega arith) at)

  pub each-all : (counts : List ℕ) (list : List A) (place : ℕ) → length list ≤ place
      → each_later later (take place counts) list ≡ each_later later counts list
  each-all [] list zero past = refl
  each-all [] list (suc place) past = refl
  each-all (n ∷ counts) [] zero past = refl
  each-all (n ∷ counts) [] (suc place) past = refl
  each-all (n ∷ counts) (x ∷ list) zero past = absurd (omega arith)
  each-all (n ∷ counts) (x ∷ list) (suc place) past = ap (λ (rest : List A). later n x ∷ rest) (each-all counts list place (omega arith))

-- how many are held with one list more
pub held-push : (lists : List (List Snapshot)) (list : List Snapshot) → held (lists ++ list ∷ []) ≡ held lists + length list
held-push [] list = omega arith
held-push (x ∷ lists) list = omega (arith, held-push lists list)

pub held-append : (lists more : List (List Snapshot)) → held (lists ++ more) ≡ held lists + held more
held-append [] more = omega arith
held-append (x ∷ lists) more = omega (arith, held-append lists more)
