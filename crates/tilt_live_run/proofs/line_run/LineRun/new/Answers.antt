use Rattle.std.proofs.Common.{◌∙◌, ℕ, List, ap, length, refl, subst}
use Rattle.tilt_feed.specs.Feed.{empty_feed}
use Rattle.tilt_feed_form.specs.Said.{first_kept}
use Rattle.tilt_input_state.specs.Resume.{first_read}
use Rattle.tilt_live.specs.Lives.{tick_of_live}
use Rattle.tilt_live_run.specs.KeptRows.{KeepsRows}
use Rattle.tilt_live_run.proofs.line_run.LineRun.new.Goals as goal

pub returns-clause-is : goal.returns-clause-is
returns-clause-is c =
    let core = c.args.accepted.core in
    let live = c.in_ok-live.ensures.live in
    let many = ap (λ (names : List (List ℕ)). length names) (c.inputs-inputs.ensures.names c.args.accepted (empty_feed (length core.inputs)) 0 live) in
    let first = first_read core (tick_of_live c.in_ok-live.live) in
    record {
      live = live;
      kept_is = c.in_ok-new-2.ensures.kept ∙ ap (first_kept c.args.options.form) many;
      form_is = c.in_ok-new-2.ensures.form;
      number_is = refl;
      display_is = refl;
      strict_is = refl;
      rows = subst (λ (n : ℕ). KeepsRows c.in_ok-new.field-0 first (empty_feed n)) many (c.in_ok-new.ensures.rows first);
    }

pub returns-clause-live : goal.returns-clause-live
returns-clause-live c = c.in_ok-live.ensures.usable

pub returns-clause-keeps : goal.returns-clause-keeps
returns-clause-keeps c = c.in_ok-new.ensures.keeps
