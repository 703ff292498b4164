use Rattle.std.proofs.Common.{◌≡◌, ◌++◌, map, take, drop}
use Rattle.tilt_engine.specs.Stock.{restarted}
use Rattle.tilt_engine.proofs.advancing.restart_all.Given as goal

abbrev pub invariant-loop-made : goal.invariant-loop-made
invariant-loop-made l = l.loops ≡ map restarted (take l.made-index l.fn.loops) ++ drop l.made-index l.fn.loops
