use Rattle.std.proofs.Common.{◌≡◌, length, slice_get, Some, ℕ}
use Rattle.tilt_code.specs.Code.{LoopParts}
use Rattle.tilt_engine.specs.Standing.{IsFresh}
use Rattle.tilt_turn.specs.declared.state.LoopState.{LoopState}
use Rattle.tilt_engine.proofs.starting.new_states.Given as goal

abbrev pub invariant-loop-each : goal.invariant-loop-each
invariant-loop-each l =
    (length l.states.items ≡ l.each-index)
    × ((k : ℕ) (loop : LoopParts) (state : LoopState) → slice_get l.fn.code.loops k ≡ Some loop → slice_get l.states.items k ≡ Some state → IsFresh loop state)
