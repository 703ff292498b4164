-- The values of snapshots that aren't null.
use Rattle.std.proofs.Common.{◌≡◌, suc, ◌≤◌, ℤ, List, [], ◌∷◌, ◌++◌, Option, Some, None, length, map, refl, ap, arith}
use Rattle.tilt_base.proofs.Lists.{length-numbers}
use Rattle.tilt_stream.specs.Snap.{Snapshot}
use Rattle.tilt_base.specs.Reduce.{numbers}
use Rattle.tilt_made.specs.Summary.{values}

push_some : (cells : List (Option ℤ)) (value : ℤ) → numbers (cells ++ Some value ∷ []) ≡ numbers cells ++ value ∷ []
push_some [] value = refl
push_some (None ∷ cells) value = push_some cells value
push_some (Some n ∷ cells) value = ap (λ (rest : List ℤ). n ∷ rest) (push_some cells value)

push_none : (cells : List (Option ℤ)) → numbers (cells ++ None ∷ []) ≡ numbers cells
push_none [] = refl
push_none (None ∷ cells) = push_none cells
push_none (Some n ∷ cells) = ap (λ (rest : List ℤ). n ∷ rest) (push_none cells)

cells_push : (list : List Snapshot) (s : Snapshot) → map (λ (x : Snapshot). x.value) (list ++ s ∷ []) ≡ map (λ (x : Snapshot). x.value) list ++ s.value ∷ []
cells_push [] s = refl
cells_push (x ∷ list) s = ap (λ (rest : List (Option ℤ)). x.value ∷ rest) (cells_push list s)

-- one with a value after the others
pub values_some : (list : List Snapshot) (s : Snapshot) (value : ℤ) → s.value ≡ Some value → values (list ++ s ∷ []) ≡ values list ++ value ∷ []
values_some list s value is = rw (cells_push list s, is) (push_some (map (λ (x : Snapshot). x.value) list) value)

-- a null one after the others
pub values_none : (list : List Snapshot) (s : Snapshot) → s.value ≡ None → values (list ++ s ∷ []) ≡ values list
values_none list s is = rw (cells_push list s, is) (push_none (map (λ (x : Snapshot). x.value) list))

same_length : (list : List Snapshot) → length (map (λ (x : Snapshot). x.value) list) ≡ length list
same_length [] = refl
same_length (x ∷ list) = ap suc (same_length list)

-- no more values than snapshots
pub values_few : (list : List Snapshot) → length (values list) ≤ length list
values_few list = omega (arith, length-numbers (map (λ (x : Snapshot). x.value) list), same_length list)
