-- The last of a list is one place before its end.
use Rattle.std.proofs.Common.{◌≡◌, ℤ, List, [], ◌∷◌, length, ◌-◌, suc, slice_get, Some, refl, arith, ap, ◌∙◌}
use Rattle.tilt_base.specs.Reduce.{last_of}

pub last_of_get : (n : ℤ) (ns : List ℤ) → slice_get (n ∷ ns) (length (n ∷ ns) - 1) ≡ Some (last_of n ns)
last_of_get n [] = refl
last_of_get n (next ∷ ns) =
    let place : length (n ∷ next ∷ ns) - 1 ≡ suc (length (next ∷ ns) - 1) = omega arith in
    ap (slice_get (n ∷ next ∷ ns)) place ∙ last_of_get next ns
