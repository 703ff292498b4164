use Rattle.std.proofs.Common.{◌≡◌, map, take}
use Rattle.tilt_engine.specs.Stock.{nothing_made}
use Rattle.tilt_engine.proofs.starting.new_loops.Given as goal

abbrev pub invariant-loop-each : goal.invariant-loop-each
invariant-loop-each l = l.loops.items ≡ map nothing_made (take l.each-index l.fn.code.loops)
