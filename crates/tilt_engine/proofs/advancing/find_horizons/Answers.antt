use Rattle.std.proofs.Common.{◌+◌, length, subst, sym}
use Rattle.std.specs.List.{AllByRecursion}
use Rattle.tilt_engine.proofs.Readied.{loops-ready}
use Rattle.tilt_turn.specs.Ready.{IsReady}
use Rattle.tilt_engine.proofs.advancing.find_horizons.Goals as goal

pub add_loops-requires-clause-loops : goal.add_loops-requires-clause-loops
add_loops-requires-clause-loops c =
    let code = c.args.code.now in
    let many = length code.inputs + length code.loops in
    (many, subst (AllByRecursion (IsReady many)) (sym c.loops.ensures.loops) (loops-ready code c.loops.ensures.code))
