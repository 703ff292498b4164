use Rattle.std.proofs.Common.{◌<◌, ◌≤◌, ℕ, ℤ, List, Option, drop, length, length-drop, arith}
use Rattle.tilt_window.proofs.turn.put_states.Goals as goal

few_left : (index : ℕ) (cells : List (Option ℤ)) → 0 < index → length cells ≤ 4611686018427387904 → length (drop index cells) < 4611686018427387904
few_left index cells some few = omega (arith, some, few, length-drop index cells)

pub state_from-state-requires : goal.state_from-state-requires
state_from-state-requires g c =
    let cells = c.args.cells.now.items in
    (drop c.loop-index.index cells, few_left c.loop-index.index cells c.loop-index-test.true c.requires.few, c.loop-index.invariant)
