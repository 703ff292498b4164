use Rattle.std.proofs.Common.{subst, sym}
use Rattle.tilt_engine.specs.Engines.{IsEngineOf}
use Rattle.tilt_feed.specs.Feed.{Feed}
use Rattle.tilt_live.proofs.Events.{event-untaken}
use Rattle.tilt_live.proofs.restoring.take_event.Goals as goal

pub returns-in-Ok-clause-engine : goal.returns-in-Ok-clause-engine
returns-in-Ok-clause-engine c = λ code feed given is. (c.in-Ok.ensures.taken code feed given is).1

pub returns-in-Err-Fault-clause-engine : goal.returns-in-Err-Fault-clause-engine
returns-in-Err-Fault-clause-engine c = λ code feed given is.
    let taken = rw c.in-Err-Fault.field-0-is at (c.in-Err-Fault.ensures.taken code feed given is) in
    subst (λ (f : Feed). IsEngineOf c.take.new.self code f given) (sym (event-untaken feed c.args.event c.in-Err-Fault.field-0-0 taken.0)) taken.1
