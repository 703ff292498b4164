use Rattle.std.proofs.Common.{◌≡◌, ◌++◌, map, take, drop}
use Rattle.tilt_turn.specs.Again.{placed_again}
use Rattle.tilt_turn.proofs.state.LoopState.look_again.Given as goal

abbrev pub invariant-loop-leaf : goal.invariant-loop-leaf
invariant-loop-leaf l =
    l.leaf-items ≡ map placed_again (take l.leaf-index l.initial.leaf-items) ++ drop l.leaf-index l.initial.leaf-items
