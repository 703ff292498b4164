-- Which run is one of a query's feed, and what a piece of the feed adds (our own rule).
use Rattle.std.specs.Prelude.{◌≡◌, ◌≤◌, ◌+◌, ◌==◌, ℕ, Bool, true, not, List, [], length, take, if◌then◌else◌}
use Rattle.tilt_compiler.specs.Accepted.{AcceptedParts}
use Rattle.tilt_core.specs.Core.{CoreParts}
use Rattle.tilt_feed.specs.Feed.{Feed}
use Rattle.tilt_feed.specs.Laws.{fed}
use Rattle.tilt_feed.specs.Printed.{begun, printed}
use Rattle.tilt_feed_form.specs.Machine.{form_of, kept_of}
use Rattle.tilt_feed_form.specs.Report.{report, reports_from}
use Rattle.tilt_feed_form.specs.Said.{FeedState, after_lines, events_of, first_state, no_end, stop_among, taken_from}
use Rattle.tilt_feed_text.specs.Said.{number_after}
use Rattle.tilt_feed_text.specs.Split.{lines_after, unfinished, whole_lines}
use Rattle.tilt_feed_text.specs.declared.pending.TheConstants.{LINE}
use Rattle.tilt_input_state.specs.Resume.{first_read}
use Rattle.tilt_live.specs.Lives.{IsLive, IsLiveOf, tick_of_live}
use Rattle.tilt_live_run.specs.KeptRows.{KeepsRows}
use Rattle.tilt_live_run.specs.Output.{begun_start, news_from}
use Rattle.tilt_live_run.specs.Places.{place_of}
use Rattle.tilt_live_run.specs.declared.line_run.LineRun.{LineRun}
use Rattle.tilt_live_run.specs.declared.live_run.LiveRun.{LiveRun}
use Rattle.tilt_live_run.specs.declared.run_options.RunOptions.{RunOptions}
use Rattle.tilt_outside.specs.Counts.{next_count}

-- the run of a query with these options after so many lines, after which its feed is there; so many snapshots were written. If it keeps
-- rows, the rest of its output reads no others
pub record IsLineRunOf (run : LineRun) (accepted : AcceptedParts) (options : RunOptions) (number : ℕ) (state : FeedState) (given : ℕ) : Type 0 where
  pub live : IsLiveOf run.live accepted state.feed given
  pub kept_is : kept_of run.text ≡ state.kept
  pub form_is : form_of run.text ≡ options.form
  pub number_is : run.number ≡ number
  pub display_is : run.display ≡ options.display
  pub strict_is : run.strict ≡ options.strict
  pub rows : KeepsRows run.rows (first_read accepted.core (tick_of_live run.live)) state.feed

-- the same, and the first bytes of the next line
pub record IsRunAfter (run : LiveRun) (accepted : AcceptedParts) (options : RunOptions) (number : ℕ) (state : FeedState) (front : List ℕ) (given : ℕ) : Type 0 where
  pub line_run : IsLineRunOf run.run accepted options number state given
  pub pending : run.pending.items ≡ take (LINE + 1) front

-- all that can be printed was written, and what has begun
pub record IsShown (run : LiveRun) (accepted : AcceptedParts) (options : RunOptions) (number : ℕ) (state : FeedState) (front : List ℕ) : Type 0 where
  pub after : IsRunAfter run accepted options number state front (length (printed accepted.core state.feed))
  pub begun : options.display.with_begun ≡ true → run.run.shown ≡ begun_start (begun accepted.core state.feed)

-- a run that can go on: its engine runs, or memory was refused to it; and of a line no more is kept than shows that it is too long
pub record IsSound (run : LiveRun) : Type 0 where
  pub live : IsLive run.run.live
  pub pending : length run.pending.items ≤ LINE + 1

-- how many lines bytes have, as far as the count goes
abbrev pub number_of : List ℕ → ℕ
number_of bytes = number_after 0 (whole_lines bytes)

-- where the feed of a query is after bytes
abbrev pub state_after : RunOptions → CoreParts → List ℕ → FeedState
state_after options core bytes = after_lines options.form core.inputs 0 (first_state options.form (length core.inputs)) (whole_lines bytes)

-- the feed of a query after the events of lines, up to the first one that stops the run
abbrev pub feed_of_lines : RunOptions → CoreParts → List (List ℕ) → Feed
feed_of_lines options core lines =
    fed core (events_of options.form core.inputs
    (taken_from options.strict options.form core.inputs 0 (first_state options.form (length core.inputs)) lines))

-- the run of a query after bytes of its feed
abbrev pub IsRunOf : LiveRun → AcceptedParts → RunOptions → List ℕ → Type 0
IsRunOf run accepted options bytes =
    IsShown run accepted options (number_of bytes) (state_after options accepted.core bytes) (unfinished bytes)

-- the lines that end in a piece of the feed that comes after bytes
abbrev pub new_lines : List ℕ → List ℕ → List (List ℕ)
new_lines bytes piece = lines_after (unfinished bytes) piece

-- of them, those that are taken: all, or those before the first one that stops the run
abbrev pub taken_of : RunOptions → CoreParts → List ℕ → List ℕ → List (List ℕ)
taken_of options core bytes piece =
    taken_from options.strict options.form core.inputs (number_of bytes) (state_after options core bytes) (new_lines bytes piece)

-- what is written for them
abbrev pub added : RunOptions → CoreParts → List ℕ → List ℕ → List ℕ
added options core bytes piece =
    news_from options core (number_of bytes) (state_after options core bytes) (taken_of options core bytes piece)

-- where the feed is after them
abbrev pub state_taken : RunOptions → CoreParts → List ℕ → List ℕ → FeedState
state_taken options core bytes piece =
    after_lines options.form core.inputs (number_of bytes) (state_after options core bytes) (taken_of options core bytes piece)

-- what is reported of the lines that end in it
abbrev pub reported : RunOptions → CoreParts → List ℕ → List ℕ → List ℕ
reported options core bytes piece =
    reports_from options.strict options.form core.inputs (number_of bytes) (state_after options core bytes) (new_lines bytes piece)

-- whether one of them stops the run
abbrev pub is_stopped : RunOptions → CoreParts → List ℕ → List ℕ → Bool
is_stopped options core bytes piece =
    stop_among options.strict options.form core.inputs (number_of bytes) (state_after options core bytes) (new_lines bytes piece)

-- whether bytes end in the middle of a line
abbrev pub is_unfinished : List ℕ → Bool
is_unfinished bytes = not (length (unfinished bytes) == 0)

-- the report of the line in the middle of which the feed ended, if it did
abbrev pub end_report : RunOptions → List ℕ → List ℕ
end_report options bytes = if is_unfinished bytes then report (next_count (number_of bytes)) (no_end options.form) else []

-- it has counted the bytes of a feed
abbrev pub IsPlaced : LiveRun → List ℕ → Type 0
IsPlaced run bytes = run.place ≡ place_of bytes
