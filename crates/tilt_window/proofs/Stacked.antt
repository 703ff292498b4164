-- Laws of two stacks.
use Rattle.std.proofs.Common.{◌≡◌, ◌<◌, ◌≤◌, ℤ, List, [], ◌∷◌, ◌++◌, Option, length, get_or, arith}
use Rattle.tilt_base.proofs.Lists.{numbers-append, length-numbers}
use Rattle.tilt_base.specs.Reduce.{numbers}
use Rattle.tilt_window.specs.Stacked.{AreStatesFromEach}

-- the first state is that of all the cells
pub first_state : {S : Type 0} (Holds : S → List ℤ → Type 0) (states : List S) (state : S) (cells : List (Option ℤ)) →
    0 < length states → state ≡ get_or states 0 state → AreStatesFromEach Holds states cells → Holds state (numbers cells)
first_state Holds [] state cells some is each = absurd (omega (arith, some))
first_state Holds (first ∷ states) state [] some is each = absurd each
first_state Holds (first ∷ states) state (cell ∷ cells) some is each = rw is each.0

-- the numbers of older and newer cells are not too many to be joined
pub few_joined : (older newer : List (Option ℤ)) → length (older ++ newer) ≤ 4611686018427387904 →
    length (numbers older ++ numbers newer) < 9223372036854775808
few_joined older newer few = rw (← numbers-append older newer) (omega (arith, few, length-numbers (older ++ newer)))
