use Rattle.tilt_engine.specs.FedRows.{KeepsRowsOf}
use Rattle.tilt_engine.specs.declared.fed_rows.FedRows.{FedRows}
use Rattle.tilt_feed.specs.Events.{after}
use Rattle.tilt_live_run.proofs.KeepingRows.{some-later}
use Rattle.tilt_live_run.proofs.state_rows.StateRows.take.Goals as goal

pub returns-in-Some-clause-rows : goal.returns-in-Some-clause-rows
returns-in-Some-clause-rows c = λ first feed keeps.
    some-later (after c.args.event feed).finished (λ (f : FedRows). KeepsRowsOf f first (after c.args.event feed)) c.take_event.new.fed c.take_event.result
    (c.take_event.ensures first feed (λ going. keeps going c.in-Some.fed c.in-Some.is))
