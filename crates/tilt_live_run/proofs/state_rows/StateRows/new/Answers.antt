use Rattle.tilt_engine.specs.FedRows.{KeepsRowsOf}
use Rattle.tilt_engine.specs.declared.fed_rows.FedRows.{FedRows}
use Rattle.tilt_feed.specs.Feed.{empty_feed}
use Rattle.tilt_live_run.proofs.KeepingRows.{some-is}
use Rattle.tilt_live_run.proofs.state_rows.StateRows.new.Goals as goal

pub returns-in_ok-new-in-State-clause-rows : goal.returns-in_ok-new-in-State-clause-rows
returns-in_ok-new-in-State-clause-rows c = λ first going.
    some-is (λ (f : FedRows). KeepsRowsOf f first (empty_feed c.args.inputs)) c.in_ok-new-in-State.field-0 (c.in_ok-new-in-State.ensures first)
