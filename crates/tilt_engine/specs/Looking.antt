-- A state that looks again.
use Rattle.std.specs.Prelude.{ℤ, neg_ℤ, ◌≤ℤ◌, List}
use Rattle.std.specs.List.{AllByRecursion}
use Rattle.tilt_base.specs.declared.limits.TheConstants.{WIDE}
use Rattle.tilt_code.specs.Code.{LoopParts}
use Rattle.tilt_stream.specs.Snap.{Snapshot}
use Rattle.tilt_turn.specs.Held.{IsFit}
use Rattle.tilt_turn.specs.Same.{IsAlikeFor}
use Rattle.tilt_turn.specs.declared.state.LoopState.{LoopState}

-- it is fit for all lists that are alike up to the last tick that the loop reads
abbrev pub LooksAgain : LoopState → LoopState → Type 0
LooksAgain state after = (a b : List (List Snapshot)) (l : LoopParts) (point : ℤ) → neg_ℤ WIDE ≤ℤ point → IsFit a l point state
    → AllByRecursion (IsAlikeFor a b point) l.body → IsFit b l point after
