-- The reducers on a list that isn't empty.
use Rattle.std.proofs.Common.{◌≡◌, ℤ, List, [], ◌∷◌, Option, length, refl}
use Rattle.tilt_base.specs.Reduce.{reduce}
use Rattle.tilt_base.specs.declared.reducer.Reducer.{Reducer}

-- an answer that is the reducer's on each list with a first number is so on each list that isn't empty
pub reduce_on_some : (answer : List ℤ → Option ℤ) (reducer : Reducer) → ((n : ℤ) (ns : List ℤ) → answer (n ∷ ns) ≡ reduce reducer (n ∷ ns)) →
    (ns : List ℤ) → (length ns ≡ 0 → ⊥) → answer ns ≡ reduce reducer ns
reduce_on_some answer reducer same [] some = absurd (some refl)
reduce_on_some answer reducer same (n ∷ ns) some = same n ns
