use Rattle.std.proofs.Common.{◌∙◌}
use Rattle.tilt_live_run.proofs.line_run.LineRun.take_content.Goals as goal

pub returns-clause-taken : goal.returns-clause-taken
returns-clause-taken c = λ accepted state given is kept.
    let names = c.inputs-inputs.ensures.names accepted state.feed given is in
    let events = c.deref.ensures.value ∙ rw (names, kept) at c.in_ok-why.ensures.events in (
      rw (names, kept) at c.in_ok-why.ensures.why,
      rw (names, kept) at c.in_ok-why.ensures.kept,
      rw events at (c.in_ok-take_events.ensures.taken accepted state.feed given is),
    )

pub returns-clause-rows : goal.returns-clause-rows
returns-clause-rows c = λ accepted state given first is kept keeps.
    let names = c.inputs-inputs.ensures.names accepted state.feed given is in
    let events = c.deref.ensures.value ∙ rw (names, kept) at c.in_ok-why.ensures.events in
    rw events at (c.in_ok-take_events.ensures.rows first state.feed keeps)
