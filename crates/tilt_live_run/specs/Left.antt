-- What a run that took bytes of a feed hands on to the next run (our own rule). Times are in ticks.
use Rattle.std.specs.Prelude.{◌≡◌, ℕ, Bool, true, List, [], ◌∷◌, length, map, Option, None, Some, if◌then◌else◌}
use Rattle.tilt_core.specs.Core.{CoreParts}
use Rattle.tilt_feed.specs.Feed.{Feed, InputFeed}
use Rattle.tilt_feed.specs.Printed.{begun}
use Rattle.tilt_feed_form.specs.Said.{FeedState, TextKept}
use Rattle.tilt_feed_form.specs.Said.TextKept.{OfReadings, OfRows}
use Rattle.tilt_feed_form.specs.declared.feed_form.FeedForm.{FeedForm}
use Rattle.tilt_feed_form.specs.declared.feed_form.FeedForm.TheVariants.{Readings, Rows}
use Rattle.tilt_feed_form.specs.declared.kept_feed.KeptFeed.{KeptFeed}
use Rattle.tilt_feed_form.specs.declared.kept_feed.KeptFeed.TheVariants as bare
use Rattle.tilt_input_state.specs.Resume.{first_read, resume_tick}
use Rattle.tilt_live_run.specs.KeptRows.{has_rows}
use Rattle.tilt_live_run.specs.Output.{begun_start}
use Rattle.tilt_live_run.specs.Runs.{number_of, state_after}
use Rattle.tilt_live_run.specs.declared.line_run.LineRun.{LineRun}
use Rattle.tilt_live_run.specs.declared.live_run.LiveRun.{LiveRun}
use Rattle.tilt_live_run.specs.declared.run_options.RunOptions.{RunOptions}
use Rattle.tilt_live_state.specs.State.{InputParts, LiveStateParts, kept_of}
use Rattle.tilt_live_state.specs.declared.progress.Progress.{Progress}
use Rattle.tilt_outside.specs.Counts.{added_count}
use Rattle.tilt_reading_text.specs.Kept.{BareText, bare_text}
use Rattle.tilt_run_state.specs.State.{RunStateParts}
use Rattle.tilt_stream.specs.Pieces.{kept}
use Rattle.tilt_stream.specs.Snap.{Snapshot}
use Rattle.tilt_syntax.specs.Tree.{StatementTree}
use Rattle.tilt_watermarks.specs.Held.{Waiting}
use Rattle.tilt_watermarks.specs.Laws.{no_options}
use Rattle.tilt_watermarks.specs.Steps.{Kept}
use Rattle.tilt_watermarks.specs.declared.options.Options.{Options}

-- what is asked of the watermarks of a feed: nothing of those of readings
abbrev pub watermark_options : FeedForm → Options
watermark_options (Rows options) = options
watermark_options (Readings setup) = no_options

-- an input of which no update is held
abbrev pub none_held : InputFeed → Waiting
none_held input = record { edge = input.edge; held = [] }

-- what watermarks keep of a feed: those of readings hold no update
abbrev pub kept_beside : TextKept → Feed → Kept
kept_beside (OfRows kept) feed = kept
kept_beside (OfReadings kept) feed = record { inputs = map none_held feed.inputs; finished = feed.finished; greatest = None; latest = None }

-- what the text of a feed of readings keeps
abbrev pub readings_kept : TextKept → Option BareText
readings_kept (OfRows kept) = None
readings_kept (OfReadings kept) = Some (bare_text kept)

-- of the closed rows of an input those that the rest of the output reads. Of a finished feed no row is needed
abbrev pub rows_left : CoreParts → Feed → List Snapshot → List Snapshot
rows_left core feed rows = if feed.finished then [] else kept (first_read core (resume_tick core feed)) rows

-- of an input these rows, its edge, and the updates that its watermarks hold
abbrev pub left_of : CoreParts → Feed → InputFeed → Waiting → InputParts
left_of core feed input waiting = record { rows = rows_left core feed input.rows; edge = input.edge; held = waiting.held }

-- the same of each input, with what the watermarks keep of it
abbrev pub each_left : CoreParts → Feed → List InputFeed → List Waiting → List InputParts
each_left core feed [] waiting = []
each_left core feed (input ∷ inputs) [] = []
each_left core feed (input ∷ inputs) (first ∷ waiting) = left_of core feed input first ∷ each_left core feed inputs waiting

-- the same of a feed and its watermarks
abbrev pub inputs_left : CoreParts → FeedState → List InputParts
inputs_left core state = each_left core state.feed state.feed.inputs (kept_beside state.kept state.feed).inputs

-- how far a run is after this many bytes and lines of its feed, when this many bytes of output were written
abbrev pub progress_of : RunOptions → CoreParts → FeedState → ℕ → ℕ → ℕ → Progress
progress_of options core state bytes lines written = record {
  options = watermark_options options.form;
  bytes = bytes;
  lines = lines;
  written = written;
  from = resume_tick core state.feed;
  shown = begun_start (begun core state.feed);
  finished = state.feed.finished;
  greatest = (kept_beside state.kept state.feed).greatest;
  latest = (kept_beside state.kept state.feed).latest;
}

-- how far it is after these bytes
abbrev pub progress_left : RunOptions → CoreParts → List ℕ → ℕ → Progress
progress_left options core bytes written =
    progress_of options core (state_after options core bytes) (added_count 0 (length bytes)) (number_of bytes) written

-- the state of a run of a query after bytes that end with a line
abbrev pub state_left : RunOptions → CoreParts → List StatementTree → List ℕ → ℕ → RunStateParts
state_left options core query bytes written = record {
  state = record {
    query = query;
    progress = progress_left options core bytes written;
    inputs = inputs_left core (state_after options core bytes);
  };
  kept = readings_kept (state_after options core bytes).kept;
}

-- what a state gives the text of a feed that goes on from it
abbrev pub given_by : LiveStateParts → Option BareText → KeptFeed
given_by state None = bare.Rows (kept_of state)
given_by state (Some kept) = bare.Readings kept

abbrev pub kept_given : RunStateParts → KeptFeed
kept_given s = given_by s.state s.kept

-- whether a run keeps what its state needs
abbrev pub keeps_state : LineRun → Bool
keeps_state run = has_rows run.rows

abbrev pub KeepsState : LiveRun → Type 0
KeepsState run = keeps_state run.run ≡ true
