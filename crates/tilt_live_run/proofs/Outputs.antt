-- What is written for lines, one after another.
use Rattle.std.proofs.Common.{◌≡◌, ℕ, false, List, [], ◌∷◌, ◌++◌, refl, sym, append_assoc, length}
use Rattle.tilt_core.specs.Core.{CoreParts}
use Rattle.tilt_feed_form.proofs.Saying.{taken-all, taken-append}
use Rattle.tilt_feed_form.specs.Said.{FeedState, after_line, after_lines, first_state, stop_among, taken_from}
use Rattle.tilt_feed_text.specs.Said.{number_after}
use Rattle.tilt_live_run.specs.Output.{first_news, news, news_from, output}
use Rattle.tilt_live_run.specs.declared.run_options.RunOptions.{RunOptions}
use Rattle.tilt_outside.specs.Counts.{next_count}

pub news-append : (options : RunOptions) (core : CoreParts) (number : ℕ) (state : FeedState) (xs ys : List (List ℕ))
    → news_from options core number state (xs ++ ys)
    ≡ news_from options core number state xs
    ++ news_from options core (number_after number xs) (after_lines options.form core.inputs number state xs) ys
news-append options core number state [] ys = refl
news-append options core number state (x ∷ xs) ys =
    let after = after_line options.form core.inputs number x state in
    rw (news-append options core (next_count number) after xs ys)
    (sym (append_assoc (news options.display core state.feed after.feed) (news_from options core (next_count number) after xs)
    (news_from options core (number_after (next_count number) xs) (after_lines options.form core.inputs (next_count number) after xs) ys)))

-- what is written for some lines and then more, if none of the first stops the run
pub output-append : (options : RunOptions) (core : CoreParts) (xs ys : List (List ℕ))
    → stop_among options.strict options.form core.inputs 0 (first_state options.form (length core.inputs)) xs ≡ false
    → output options core (xs ++ ys)
    ≡ (let after = after_lines options.form core.inputs 0 (first_state options.form (length core.inputs)) xs in
    output options core xs ++ news_from options core (number_after 0 xs) after
    (taken_from options.strict options.form core.inputs (number_after 0 xs) after ys))
output-append options core xs ys none =
    let state = first_state options.form (length core.inputs) in
    let after = after_lines options.form core.inputs 0 state xs in
    let later = taken_from options.strict options.form core.inputs (number_after 0 xs) after ys in
    rw (
      taken-append options.strict options.form core.inputs 0 state xs ys none,
      taken-all options.strict options.form core.inputs 0 state xs none,
      news-append options core 0 state xs later,
    )
    (sym (append_assoc (first_news options.display core) (news_from options core 0 state xs) (news_from options core (number_after 0 xs) after later)))
