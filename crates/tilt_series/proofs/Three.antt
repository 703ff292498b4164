-- The fields of a record that has three.
use Rattle.std.proofs.Common.{◌≡◌, ℕ, zero, suc, ◌<◌, List, [], ◌∷◌, length, Some, None, arith}
use Rattle.csv.specs.Records.{field_at}
use Rattle.tilt_series.specs.Series.{three_of}

-- a field is there at each place below the number of fields
pub field_there : (fields : List (List ℕ)) (i : ℕ) → i < length fields → None ≡ field_at fields i → ⊥
unfolding field_at
field_there [] i h e = absurd (omega arith)
field_there (f ∷ fs) zero h e = cc e
field_there (f ∷ fs) (suc i) h e = field_there fs i (omega arith) e

-- the three fields, one by one
pub three_fields_of : (fields : List (List ℕ)) (a b c : List ℕ) → length fields ≡ 3 → Some a ≡ field_at fields 0 → Some b ≡ field_at fields 1 → Some c
    ≡ field_at fields 2 → Some (a, b, c) ≡ three_of fields
unfolding field_at
three_fields_of [] a b c h e0 e1 e2 = cc e0
three_fields_of (x ∷ []) a b c h e0 e1 e2 = cc e1
three_fields_of (x ∷ y ∷ []) a b c h e0 e1 e2 = cc e2
three_fields_of (x ∷ y ∷ z ∷ []) a b c h e0 e1 e2 = cc
three_fields_of (x ∷ y ∷ z ∷ w ∷ more) a b c h e0 e1 e2 = absurd (omega arith)
