-- Faults that are the same.
use Rattle.std.proofs.Common.{◌≡◌, Result, Err}

-- what holds one fault holds no other
pub same_fault : {A B : Type 0} {x y : B} → (let r : Result A B = Err x in r ≡ Err y) → x ≡ y
same_fault e = cc
