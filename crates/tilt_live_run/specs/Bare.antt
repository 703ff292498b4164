-- Runs over the lines of a feed that write no header and report nothing (our own rule).
use Rattle.std.specs.Prelude.{◌≡◌, ℕ, true, List, [], ◌∷◌, ◌++◌, length, Option}
use Rattle.tilt_compiler.specs.Accepted.{AcceptedParts}
use Rattle.tilt_core.specs.Core.{CoreParts}
use Rattle.tilt_feed.specs.Printed.{begun, printed}
use Rattle.tilt_feed_form.specs.Said.{FeedState, after_lines, first_state, line_fault}
use Rattle.tilt_feed_form.specs.declared.bad_feed_line.BadFeedLine.{BadFeedLine}
use Rattle.tilt_feed_text.specs.Said.{number_after}
use Rattle.tilt_live_run.specs.Output.{begun_start, news}
use Rattle.tilt_live_run.specs.Runs.{IsLineRunOf}
use Rattle.tilt_live_run.specs.declared.bare_run.BareRun.{BareRun}
use Rattle.tilt_live_run.specs.declared.run_options.RunOptions.{RunOptions}

-- where the feed of a query is after lines
abbrev pub state_of : RunOptions → CoreParts → List (List ℕ) → FeedState
state_of options core lines = after_lines options.form core.inputs 0 (first_state options.form (length core.inputs)) lines

-- what is written for a line after others
abbrev pub line_news : RunOptions → CoreParts → List (List ℕ) → List ℕ → List ℕ
line_news options core before line =
    news options.display core (state_of options core before).feed (state_of options core (before ++ line ∷ [])).feed

-- why a line after others is bad, if it is
abbrev pub bad_after : RunOptions → CoreParts → List (List ℕ) → List ℕ → Option BadFeedLine
bad_after options core before line =
    line_fault options.form core.inputs (state_of options core before).kept (number_after 0 before) line

-- it is the run of a query after lines, and all that can be printed was written
pub record IsBareRunOf (run : BareRun) (accepted : AcceptedParts) (options : RunOptions) (lines : List (List ℕ)) : Type 0 where
  pub line_run : IsLineRunOf run.run accepted options (number_after 0 lines) (state_of options accepted.core lines)
      (length (printed accepted.core (state_of options accepted.core lines).feed))
  pub begun : options.display.with_begun ≡ true → run.run.shown ≡ begun_start (begun accepted.core (state_of options accepted.core lines).feed)
