-- The fields of a record at their places.
use Rattle.std.proofs.Common.{◌≡◌, ℕ, zero, suc, List, [], ◌∷◌, get_or, Some, None, refl}
use Rattle.csv.specs.Records.{field_at}

-- a field at its place
pub field_found : (fields : List (List ℕ)) (place : ℕ) (field : List ℕ) → Some field ≡ field_at fields place → field ≡ get_or fields place []
unfolding field_at
field_found [] place field is = cc is
field_found (first ∷ fields) zero field is = cc is
field_found (first ∷ fields) (suc place) field is = field_found fields place field is

-- no field at a place
pub field_missing : (fields : List (List ℕ)) (place : ℕ) → None ≡ field_at fields place → [] ≡ get_or fields place []
unfolding field_at
field_missing [] place is = refl
field_missing (first ∷ fields) zero is = cc is
field_missing (first ∷ fields) (suc place) is = field_missing fields place is
