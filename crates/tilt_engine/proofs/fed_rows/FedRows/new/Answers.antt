use Rattle.std.proofs.Common.{refl}
use Rattle.tilt_engine.proofs.Fed.{none-kept}
use Rattle.tilt_engine.proofs.fed_rows.FedRows.new.Goals as goal

pub returns : goal.returns
returns c = λ first. record { finished = refl; inputs = λ _. rw c.in_ok-new_inputs.ensures (none-kept first c.args.inputs) }
