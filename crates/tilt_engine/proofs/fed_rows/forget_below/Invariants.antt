use Rattle.std.proofs.Common.{◌≡◌, ◌++◌, map, take, drop}
use Rattle.tilt_engine.specs.FedRows.{left_inlet}
use Rattle.tilt_engine.proofs.fed_rows.forget_below.Given as goal

abbrev pub invariant-loop-input : goal.invariant-loop-input
invariant-loop-input l = l.inputs ≡ map (left_inlet l.fn.first) (take l.input-index l.fn.inputs) ++ drop l.input-index l.fn.inputs
