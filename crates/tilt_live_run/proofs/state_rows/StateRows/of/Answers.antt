use Rattle.tilt_engine.specs.FedRows.{KeepsRowsOf}
use Rattle.tilt_engine.specs.declared.fed_rows.FedRows.{FedRows}
use Rattle.tilt_live_run.proofs.KeepingRows.{some-is}
use Rattle.tilt_live_run.proofs.state_rows.StateRows.of.Goals as goal

pub returns-in_ok-of-in-State-clause-rows : goal.returns-in_ok-of-in-State-clause-rows
returns-in_ok-of-in-State-clause-rows c = λ first feed left going.
    some-is (λ (f : FedRows). KeepsRowsOf f first feed) c.in_ok-of-in-State.field-0 (c.in_ok-of-in-State.ensures first feed going (left going))
