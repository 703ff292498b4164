use Rattle.std.proofs.Common.{◌≡◌, map, take}
use Rattle.tilt_engine.specs.Stock.{InletParts}
use Rattle.tilt_input_state.specs.Resume.{left_input}
use Rattle.tilt_engine.proofs.fed_rows.FedRows.inputs.Given as goal

abbrev pub invariant-loop-input : goal.invariant-loop-input
invariant-loop-input l = l.inputs.items ≡ map (λ (i : InletParts). left_input l.fn.first i.input) (take l.input-index l.fn.self.inputs.items)
