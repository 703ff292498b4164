use Rattle.std.proofs.Common.{◌≡◌, map, take}
use Rattle.tilt_engine.specs.Stock.{resting_inlet}
use Rattle.tilt_engine.proofs.fed_rows.inlets_of.Given as goal

abbrev pub invariant-loop-input : goal.invariant-loop-input
invariant-loop-input l = l.inlets.items ≡ map resting_inlet (take l.input-index l.fn.inputs)
