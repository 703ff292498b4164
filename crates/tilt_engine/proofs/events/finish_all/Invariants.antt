use Rattle.std.proofs.Common.{◌≡◌, ◌++◌, map, take, drop}
use Rattle.tilt_engine.specs.Stock.{InletParts, finished_inlet}
use Rattle.tilt_engine.proofs.events.finish_all.Given as goal

abbrev pub invariant-loop-input : goal.invariant-loop-input
invariant-loop-input l =
    l.inputs ≡ map (λ (i : InletParts). finished_inlet i.input) (take l.input-index l.fn.inputs) ++ drop l.input-index l.fn.inputs
