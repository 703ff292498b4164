-- The fields of a record at their places.
use Rattle.std.proofs.Common.{◌≡◌, ℕ, zero, suc, ◌<◌, List, [], ◌∷◌, length, Some, None, arith}
use Rattle.csv.specs.Records.{field_at}

-- there is a field at each place below the number of fields
pub field_there : (fields : List (List ℕ)) (i : ℕ) → i < length fields → None ≡ field_at fields i → ⊥
unfolding field_at
field_there [] i h e = absurd (omega arith)
field_there (f ∷ fs) zero h e = cc
field_there (f ∷ fs) (suc i) h e = field_there fs i (omega arith) e

-- the fields of a record that has four
pub four_fields : (fields : List (List ℕ)) (a b c d : List ℕ) → length fields ≡ 4 → field_at fields 0 ≡ Some a → field_at fields 1 ≡ Some b
    → field_at fields 2 ≡ Some c → field_at fields 3 ≡ Some d → fields ≡ a ∷ b ∷ c ∷ d ∷ []
unfolding field_at
four_fields [] a b c d h e0 e1 e2 e3 = cc
four_fields (v ∷ []) a b c d h e0 e1 e2 e3 = cc e1
four_fields (v ∷ w ∷ []) a b c d h e0 e1 e2 e3 = cc e2
four_fields (v ∷ w ∷ x ∷ []) a b c d h e0 e1 e2 e3 = cc e3
four_fields (v ∷ w ∷ x ∷ y ∷ []) a b c d h e0 e1 e2 e3 = cc
four_fields (v ∷ w ∷ x ∷ y ∷ z ∷ more) a b c d h e0 e1 e2 e3 = absurd (omega arith)

-- the fields of a record that has five
pub five_fields : (fields : List (List ℕ)) (a b c d e : List ℕ) → length fields ≡ 5 → field_at fields 0 ≡ Some a
    → field_at fields 1 ≡ Some b → field_at fields 2 ≡ Some c → field_at fields 3 ≡ Some d
    → field_at fields 4 ≡ Some e → fields ≡ a ∷ b ∷ c ∷ d ∷ e ∷ []
unfolding field_at
five_fields [] a b c d e h e0 e1 e2 e3 e4 = cc
five_fields (v ∷ []) a b c d e h e0 e1 e2 e3 e4 = cc e1
five_fields (v ∷ w ∷ []) a b c d e h e0 e1 e2 e3 e4 = cc e2
five_fields (v ∷ w ∷ x ∷ []) a b c d e h e0 e1 e2 e3 e4 = cc e3
five_fields (v ∷ w ∷ x ∷ y ∷ []) a b c d e h e0 e1 e2 e3 e4 = cc e4
five_fields (v ∷ w ∷ x ∷ y ∷ z ∷ []) a b c d e h e0 e1 e2 e3 e4 = cc
five_fields (v ∷ w ∷ x ∷ y ∷ z ∷ u ∷ more) a b c d e h e0 e1 e2 e3 e4 = absurd (omega arith)
