-- A run without a header that takes one line more.
use Rattle.std.proofs.Common.{◌≡◌, ℕ, true, List, [], ◌∷◌, ◌++◌, length, ap, ◌∙◌, subst, sym, inr}
use Rattle.tilt_compiler.specs.Accepted.{AcceptedParts}
use Rattle.tilt_core.specs.Core.{CoreParts}
use Rattle.tilt_feed.specs.Feed.{Feed}
use Rattle.tilt_feed.specs.Printed.{begun, printed}
use Rattle.tilt_feed_form.proofs.Saying.{after_lines-append}
use Rattle.tilt_feed_form.specs.Machine.{form_of, kept_of}
use Rattle.tilt_feed_form.specs.Said.{FeedState, after_line, first_state}
use Rattle.tilt_feed_text.proofs.Saying.{number-append}
use Rattle.tilt_feed_text.specs.Said.{number_after}
use Rattle.tilt_input_state.specs.Resume.{first_read}
use Rattle.tilt_live.specs.Lives.{IsLive, IsLiveOf, tick_of_live}
use Rattle.tilt_live.specs.declared.live.Live.{Live}
use Rattle.tilt_live_run.specs.Bare.{IsBareRunOf, state_of}
use Rattle.tilt_live_run.specs.KeptRows.{KeepsRows}
use Rattle.tilt_live_run.specs.Output.{begun_start}
use Rattle.tilt_live_run.specs.Runs.{IsLineRunOf}
use Rattle.tilt_live_run.specs.declared.bare_run.BareRun.{BareRun}
use Rattle.tilt_live_run.specs.declared.line_run.LineRun.{LineRun}
use Rattle.tilt_live_run.specs.declared.run_options.RunOptions.{RunOptions}
use Rattle.tilt_outside.specs.Counts.{next_count}

-- where a feed is after a line more
pub state-push : (options : RunOptions) (core : CoreParts) (lines : List (List ℕ)) (line : List ℕ)
    → state_of options core (lines ++ line ∷ []) ≡ after_line options.form core.inputs (number_after 0 lines) line (state_of options core lines)
state-push options core lines line =
    after_lines-append options.form core.inputs 0 (first_state options.form (length core.inputs)) lines (line ∷ [])

-- its engine runs
pub bare-live : (live : Live) (accepted : AcceptedParts) (feed : Feed) (given : ℕ) → IsLiveOf live accepted feed given → IsLive live
bare-live live accepted feed given is = inr (accepted, is.code, is.left, is.returned, is.running)

-- the run after a line, if it was shown
pub bare-more : (later : BareRun) (run : LineRun) (accepted : AcceptedParts) (options : RunOptions) (lines : List (List ℕ)) (line : List ℕ) (given : ℕ)
    → (let after = after_line options.form accepted.core.inputs (number_after 0 lines) line (state_of options accepted.core lines) in
    IsLineRunOf run accepted options (next_count (number_after 0 lines)) after given
    → IsLiveOf later.run.live accepted after.feed (length (printed accepted.core after.feed))
    → (options.display.with_begun ≡ true → later.run.shown ≡ begun_start (begun accepted.core after.feed))
    → (later.run.number ≡ run.number) × (later.run.display ≡ run.display) × (later.run.strict ≡ run.strict) × (later.run.text ≡ run.text)
    → KeepsRows later.run.rows (first_read accepted.core (tick_of_live later.run.live)) after.feed
    → IsBareRunOf later accepted options (lines ++ line ∷ []))
bare-more later run accepted options lines line given is live begun_is same rows =
    let core = accepted.core in
    let push = sym (state-push options core lines line) in
    record {
      line_run = record {
        live = subst (λ (s : FeedState). IsLiveOf later.run.live accepted s.feed (length (printed core s.feed))) push live;
        kept_is = ap kept_of same.3 ∙ is.kept_is ∙ ap (λ (s : FeedState). s.kept) push;
        form_is = ap form_of same.3 ∙ is.form_is;
        number_is = same.0 ∙ is.number_is ∙ sym (number-append 0 lines (line ∷ []));
        display_is = same.1 ∙ is.display_is;
        strict_is = same.2 ∙ is.strict_is;
        rows = subst (λ (s : FeedState). KeepsRows later.run.rows (first_read core (tick_of_live later.run.live)) s.feed) push rows;
      };
      begun = λ yes. subst (λ (s : FeedState). later.run.shown ≡ begun_start (begun core s.feed)) push (begun_is yes);
    }
