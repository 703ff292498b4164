use Rattle.std.proofs.Common.{◌≡◌, ◌∙◌, IfOk, ap, subst, sym}
use Rattle.tilt_live_run.proofs.Leaving.{both-ok, if-ok, left-fits, left-state, on-into, state-belongs, state-ended}
use Rattle.tilt_live_run.specs.Runs.{number_of, state_after}
use Rattle.tilt_live_run.specs.declared.place.Place.{Place}
use Rattle.tilt_live_state.specs.Valid.{IsStateOf}
use Rattle.tilt_run_state.specs.State.{RunStateParts}
use Rattle.tilt_run_state.specs.Valid.{FitsForm}
use Rattle.tilt_live_run.proofs.live_run.LiveRun.state.Goals as goal

pub state-requires-clause-live : goal.state-requires-clause-live
state-requires-clause-live c = c.requires.sound.live

pub returns-clause-is : goal.returns-clause-is
returns-clause-is c = λ accepted options bytes is placed.
    let core = accepted.core in
    let count = ap (λ (p : Place). p.ended) placed in
    let made = c.state.ensures.is accepted options (number_of bytes) (state_after options core bytes) is.after.line_run (state-belongs options core bytes) in
    subst (λ (s : RunStateParts). IfOk c.state.result (λ left. left ≡ s)) (state-ended options core c.args.query bytes _ c.args.written count) made

pub returns-clause-valid : goal.returns-clause-valid
returns-clause-valid c = λ accepted options bytes is.
    let core = accepted.core in
    let live = is.after.line_run.live in
    let state = state_after options core bytes in
    let belongs = state-belongs options core bytes in
    let valid = left-state accepted options state live.events c.args.query c.args.self.now.place.ended (number_of bytes) c.args.written live.running.valid live.feed_is belongs.kept in
    if-ok _ _ c.state.result (λ left e. subst (λ (s : RunStateParts). IsStateOf core s.state) (sym e) valid)
    (c.state.ensures.is accepted options (number_of bytes) state is.after.line_run belongs)

pub returns-clause-fits : goal.returns-clause-fits
returns-clause-fits c = λ accepted options bytes is.
    let core = accepted.core in
    let state = state_after options core bytes in
    let belongs = state-belongs options core bytes in
    both-ok _ _ (FitsForm options.form) c.state.result (λ s e fit.
    left-fits core options.form state.kept state.feed s belongs.of_form (ap (λ (s : RunStateParts). s.state.progress.options) e)
    (ap (λ (s : RunStateParts). s.state.inputs) e) (ap (λ (s : RunStateParts). s.kept) e) fit)
    (c.state.ensures.is accepted options (number_of bytes) state is.after.line_run belongs)
    (c.state.ensures.fits accepted options (number_of bytes) state is.after.line_run belongs)

pub returns-clause-goes_on : goal.returns-clause-goes_on
returns-clause-goes_on c = λ accepted options bytes is.
    on-into _ _ c.state.result (λ of. record {
      after = record { line_run = of; pending = is.after.pending };
      begun = λ yes. c.state.ensures.shown ∙ is.begun yes;
    })
    (c.state.ensures.goes_on accepted options (number_of bytes) (state_after options accepted.core bytes) is.after.line_run)

pub returns-clause-still_sound : goal.returns-clause-still_sound
returns-clause-still_sound c = record { live = c.state.ensures.live; pending = c.requires.sound.pending }
