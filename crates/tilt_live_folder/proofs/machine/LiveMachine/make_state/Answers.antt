use Rattle.std.proofs.Common.{◌∙◌, refl}
use Rattle.std.proofs.lemmas.Result.{IfOk-weaker}
use Rattle.tilt_live_folder.proofs.Running.{state-valid}
use Rattle.tilt_live_folder.specs.Feeds.{state_of}
use Rattle.tilt_live_run.proofs.Leaving.{left-asked}
use Rattle.tilt_live_folder.proofs.machine.LiveMachine.make_state.Goals as goal

pub returns-clause-is : goal.returns-clause-is
returns-clause-is c = λ feed bytes is.
    rw (c.in_ok-query.ensures ∙ is.query) at c.state.ensures.is feed.accepted feed.options bytes is.is is.placed

pub returns-clause-valid : goal.returns-clause-valid
returns-clause-valid c = λ feed bytes is.
    state-valid feed.accepted.core feed.options.form (state_of feed bytes c.args.written) c.state.result is.accepted is.core (left-asked feed.options.form (state_of feed bytes c.args.written) refl)
    (rw (c.in_ok-query.ensures ∙ is.query) at c.state.ensures.is feed.accepted feed.options bytes is.is is.placed)
    (c.state.ensures.valid feed.accepted feed.options bytes is.is) (c.state.ensures.fits feed.accepted feed.options bytes is.is)

pub returns-clause-goes_on : goal.returns-clause-goes_on
returns-clause-goes_on c = λ feed bytes is.
    IfOk-weaker c.state.result _ _ (λ _ on. record {
      is = on;
      placed = c.state.ensures.placed bytes is.placed;
      no_stop = is.no_stop;
      tail = is.tail;
      taken = is.taken;
      opening = is.opening;
      query = is.query;
      accepted = is.accepted;
      core = is.core;
    }) (c.state.ensures.goes_on feed.accepted feed.options bytes is.is)
