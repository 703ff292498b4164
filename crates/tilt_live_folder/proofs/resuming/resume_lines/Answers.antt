use Rattle.std.proofs.Common.{◌≡◌, ◌∙◌, ap, refl, subst, sym}
use Rattle.std.proofs.lemmas.Result.{err_from_is_err_and}
use Rattle.tilt_feed_text.proofs.Splitting.{are-ended}
use Rattle.tilt_feed_text.specs.Split.{ended}
use Rattle.tilt_live_folder.proofs.Tails.{stopped-ended}
use Rattle.tilt_live_folder.specs.Feeds.{IsLeft, LiveFeed, state_of}
use Rattle.tilt_live_folder.specs.Machines.{IsRunning}
use Rattle.tilt_run_state.specs.State.{RunStateParts}
use Rattle.tilt_live_folder.proofs.resuming.resume_lines.Goals as goal

pub returns-in_err-state-clause-taken : goal.returns-in_err-state-clause-taken
returns-in_err-state-clause-taken c = λ bytes written left.
    let p = err_from_is_err_and c.from_residual.result c.from_residual.ensures.1 in
    rw (p.1, p.2) (c.in_err-state.ensures.only (state_of c.args.recipe bytes written) left.valid left.in_range left.spelled refl)

pub returns-in-Ok-resume-clause-is : goal.returns-in-Ok-resume-clause-is
returns-in-Ok-resume-clause-is c = λ bytes written left.
    let feed : LiveFeed = record { query = c.recipe.inside.query; accepted = c.recipe.inside.accepted; options = c.recipe.inside.options } in
    let view : feed ≡ c.args.recipe = c.recipe.view_is in
    let s = c.in_ok-state.ensures.only (state_of c.args.recipe bytes written) left.valid left.in_range left.spelled refl in
    let is = s ∙ ap (λ (f : LiveFeed). state_of f bytes written) (sym view) in
    subst (λ (f : LiveFeed). IsRunning (record {
      run = c.in-Ok-resume.run';
      query = c.recipe.inside.query;
      opening = c.in-Ok.opening;
      tail = c.new-tail.result;
      taken = c.state-inside.inside.0.0.progress.bytes;
    }) f (ended bytes)) view (record {
      is = c.in-Ok-resume.ensures.is feed.query bytes written is;
      placed = c.in-Ok-resume.ensures.placed feed.query bytes written is;
      opening = c.in-Ok.ensures;
      no_stop = stopped-ended feed.options feed.accepted.core bytes ∙ (subst (λ (f : LiveFeed). IsLeft f bytes written c.args.text.now) (sym view) left).no_stop;
      tail = c.new-tail.ensures.items ∙ sym (are-ended bytes).none;
      taken = (λ k. (c.state-inside.view_is k).state.progress.bytes) ∙ ap (λ (x : RunStateParts). x.state.progress.bytes) (c.state.view_is ∙ s);
      query = refl;
      accepted = c.recipe.invariant.0;
      core = c.recipe.invariant.1;
    })

pub returns-in-Ok-resume-clause-written : goal.returns-in-Ok-resume-clause-written
returns-in-Ok-resume-clause-written c = λ bytes written left.
    let s = c.in_ok-state.ensures.only (state_of c.args.recipe bytes written) left.valid left.in_range left.spelled refl in
    (λ k. (c.state-inside.view_is k).state.progress.written) ∙ ap (λ (x : RunStateParts). x.state.progress.written) (c.state.view_is ∙ s)
