-- A part is finished if as many of its snapshots were taken as there are.
use Rattle.std.proofs.Common.{option_map, slice_get, ◌-◌, ◌≡◌, ◌<◌, ℕ, zero, suc, ℤ, true, false, List, [], ◌∷◌, length, take, Option, Some, None, ap, ◌∙◌, arith}
use Rattle.std.specs.Option.{option_map_or}
use Rattle.std.specs.Ordering.{int_eq}
use Rattle.std.proofs.lemmas.Int.{ints}
use Rattle.std.proofs.lemmas.Option.{same_Some, none-some}
use Rattle.tilt_stream.proofs.Filling.{Fill-up}
use Rattle.tilt_stream.proofs.Order.{last_end-get}
use Rattle.tilt_stream.specs.Snap.{Snapshot, Fill, last_end}

-- snapshots that fill a stretch end where it does
pub fill-ends : (lo hi : ℤ) (s : Snapshot) (ss : List Snapshot) → Fill lo hi (s ∷ ss) → last_end (s ∷ ss) ≡ Some hi
fill-ends lo hi s [] fill = ap (λ (end : ℤ). Some end) fill.2
fill-ends lo hi s (next ∷ ss) fill = fill-ends s.end hi next ss fill.2

-- and fewer of them don't
pub fewer-end : (lo hi : ℤ) (list : List Snapshot) (count : ℕ) → Fill lo hi list → count < length list → last_end (take count list) ≡ Some hi → ⊥
fewer-end lo hi [] count fill fewer ends = omega arith
fewer-end lo hi (s ∷ ss) zero fill fewer ends = none-some hi ends
fewer-end lo hi (s ∷ []) (suc count) fill fewer ends = omega arith
fewer-end lo hi (s ∷ next ∷ ss) (suc zero) fill fewer ends =
    let same = same_Some s.end hi ends in
    let low = fill.2.1 in
    let high = Fill-up next.end hi ss fill.2.2 in
    omega (arith, ints)
fewer-end lo hi (s ∷ next ∷ ss) (suc (suc count)) fill fewer ends = fewer-end s.end hi (next ∷ ss) (suc count) fill.2 (omega arith) ends

-- whether the last one ends there
pub ends-there : (hi : ℤ) (last : Option ℤ) → option_map_or (λ end. int_eq end hi) last false ≡ true → last ≡ Some hi
ends-there hi None is = absurd (cc is)
ends-there hi (Some end) is = ap (λ (e : ℤ). Some e) (grind (arith, ints))

pub there-ends : (hi : ℤ) (last : Option ℤ) → last ≡ Some hi → option_map_or (λ end. int_eq end hi) last false ≡ true
there-ends hi None is = absurd (none-some hi is)
there-ends hi (Some end) is = let same = same_Some end hi is in grind (arith, ints)

-- the same, of the last snapshot
pub last-ends : (list : List Snapshot) (s : Snapshot) (hi : ℤ) → Some s ≡ slice_get list (length list - 1)
    → int_eq s.end hi ≡ option_map_or (λ end. int_eq end hi) (last_end list) false
last-ends list s hi is =
    ap (λ (o : Option ℤ). option_map_or (λ end. int_eq end hi) o false) (ap (option_map (λ (t : Snapshot). t.end)) is ∙ last_end-get list)
