use Rattle.std.proofs.Common.{[], ◌∷◌, subst, sym}
use Rattle.tilt_engine.specs.Engines.{IsEngineOf}
use Rattle.tilt_feed.specs.Feed.{Feed}
use Rattle.tilt_feed.specs.declared.event.Event.TheVariants.{Finish}
use Rattle.tilt_resume.proofs.Restored.{after_all-append}
use Rattle.tilt_resume.specs.Restoring.{all_events}
use Rattle.tilt_live.proofs.restoring.restore.Goals as goal

pub returns-in_ok-take_event-clause-engine : goal.returns-in_ok-take_event-clause-engine
returns-in_ok-take_event-clause-engine c = λ code feed given is.
    let one = c.in_ok-restore_inputs.ensures.engine code feed given is in
    let two = c.in_ok-take_event.ensures.engine code _ given one in
    rw c.if-finished.true
    (subst (λ (f : Feed). IsEngineOf c.take_event.new.engine code f given) (sym (after_all-append (all_events 0 c.args.inputs.now) (Finish ∷ []) feed)) two)

pub returns-else-finished-clause-engine : goal.returns-else-finished-clause-engine
returns-else-finished-clause-engine c = λ code feed given is.
    let one = c.in_ok-restore_inputs.ensures.engine code feed given is in
    rw c.if-finished.false
    (subst (λ (f : Feed). IsEngineOf c.restore_inputs.new.engine code f given) (sym (after_all-append (all_events 0 c.args.inputs.now) [] feed)) one)
