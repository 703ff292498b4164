use Rattle.std.proofs.Common.{◌∙◌, ap}
use Rattle.tilt_feed_text.proofs.Splitting.{are-ended}
use Rattle.tilt_feed_text.specs.Split.{ended}
use Rattle.tilt_live_run.proofs.KeepingRows.{needs-state}
use Rattle.tilt_live_run.proofs.Leaving.{state-left}
use Rattle.tilt_live_run.proofs.Placing.{place-ended}
use Rattle.tilt_live_run.specs.Runs.{state_after}
use Rattle.tilt_run_state.specs.State.{RunStateParts}
use Rattle.tilt_live_run.proofs.live_run.LiveRun.resume.Goals as goal

pub returns-clause-is : goal.returns-clause-is
returns-clause-is c = λ query bytes written is.
    let options = c.args.options in
    let accepted = c.args.accepted in
    let state = state_after options accepted.core (ended bytes) in
    let left = state-left options accepted.core query (ended bytes) written c.args.state is in
    let of = c.in_ok-run.ensures.is state left.0 left.1 in
    let lines = ap (λ (s : RunStateParts). s.state.progress.lines) is in
    record {
      after = record {
        line_run = rw lines at of;
        pending = rw (are-ended bytes).none c.new.ensures.items;
      };
      begun = λ _. c.in_ok-run.ensures.shown ∙ ap (λ (s : RunStateParts). s.state.progress.shown) is;
    }

pub returns-clause-placed : goal.returns-clause-placed
returns-clause-placed c = λ query bytes written is.
    place-ended bytes _ ((λ k. (c.state-inside.view_is k).state.progress.bytes) ∙ ap (λ (s : RunStateParts). s.state.progress.bytes) (c.state.view_is ∙ is))

pub returns-clause-keeps : goal.returns-clause-keeps
returns-clause-keeps c = needs-state c.args.keep _ c.in_ok-run.ensures.keeps
