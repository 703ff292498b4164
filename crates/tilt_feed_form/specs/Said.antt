-- What the lines of a feed say, in either form: the events that they make, and why a line is bad (our own rule). A line is numbered by how
-- many lines are before it.
use Rattle.std.specs.Prelude.{ℕ, Bool, false, ◌||◌, if◌then◌else◌, List, [], ◌∷◌}
use Rattle.std.specs.Prelude.{Option, None, Some, is_none, option_map, Result, Ok, Err}
use Rattle.tilt_feed.specs.Events.{after_all}
use Rattle.tilt_feed.specs.Feed.{Feed, empty_feed}
use Rattle.tilt_feed.specs.declared.event.Event.{Event}
use Rattle.tilt_feed_form.specs.declared.bad_feed_line.BadFeedLine.{BadFeedLine}
use Rattle.tilt_feed_form.specs.declared.bad_feed_line.BadFeedLine.TheVariants as bad
use Rattle.tilt_feed_form.specs.declared.feed_form.FeedForm.{FeedForm}
use Rattle.tilt_feed_form.specs.declared.feed_form.FeedForm.TheVariants as forms
use Rattle.tilt_feed_line.specs.declared.line.Line.{Line}
use Rattle.tilt_feed_text.specs.Said.{content, content_fault}
use Rattle.tilt_feed_text.specs.Said as rows
use Rattle.tilt_feed_text.specs.declared.bad_line.BadLine.{BadLine}
use Rattle.tilt_feed_text.specs.declared.bad_line.BadLine.TheVariants as bad_row
use Rattle.tilt_outside.specs.Counts.{next_count}
use Rattle.tilt_reading_text.specs.Said.{TextStep}
use Rattle.tilt_reading_text.specs.Said as readings
use Rattle.tilt_reading_text.specs.declared.bad_reading_line.BadReadingLine.TheVariants as bad_reading
use Rattle.tilt_watermarks.specs.Laws.{stepped}
use Rattle.tilt_watermarks.specs.Steps.{Kept, Step, nothing_kept}
use Rattle.tilt_watermarks.specs.declared.options.Options.{Options}

-- what is kept of a feed after some lines: by the watermarks of a feed of rows, or by the text of a feed of readings
pub data TextKept : Type 0 where
  OfRows : (kept : Kept) → TextKept
  OfReadings : (kept : readings.TextKept) → TextKept

-- what is kept after a line, and the events that it hands on
pub record LineStep : Type 0 where
  pub kept : TextKept
  pub events : List Event

-- where a feed is after some lines: what is kept of it, and the feed after the events that they have handed on
pub record FeedState : Type 0 where
  pub kept : TextKept
  pub feed : Feed

-- what is asked of the watermarks of a feed, if it is one of rows
abbrev pub options_if_rows : FeedForm → Option Options
options_if_rows (forms.Rows options) = Some options
options_if_rows (forms.Readings setup) = None

-- what is kept of a feed of so many inputs before its first line
abbrev pub first_kept : FeedForm → ℕ → TextKept
first_kept (forms.Rows options) inputs = OfRows (nothing_kept inputs)
first_kept (forms.Readings setup) inputs = OfReadings (readings.first_kept setup.options)

-- nothing happens
abbrev pub no_step : TextKept → LineStep
no_step kept = record { kept = kept; events = [] }

-- what a line of rows does to what watermarks keep, by what it says
abbrev pub content_step : Options → Result (Option Line) BadLine → Kept → Step
content_step options (Ok None) kept = record { kept = kept; events = [] }
content_step options (Ok (Some said)) kept = stepped options said kept
content_step options (Err why) kept = record { kept = kept; events = [] }

-- the same steps, of a feed in either form
abbrev pub of_rows : Step → LineStep
of_rows step = record { kept = OfRows step.kept; events = step.events }

abbrev pub of_readings : TextStep → LineStep
of_readings step = record { kept = OfReadings step.kept; events = step.events }

-- what the line with a number does. What is kept of the other form never comes, and nothing happens to it
abbrev pub line_step : FeedForm → List (List ℕ) → ℕ → List ℕ → TextKept → LineStep
line_step (forms.Rows options) inputs number line (OfRows kept) = of_rows (content_step options (content inputs number line) kept)
line_step (forms.Rows options) inputs number line (OfReadings kept) = no_step (OfReadings kept)
line_step (forms.Readings setup) inputs number line (OfRows kept) = no_step (OfRows kept)
line_step (forms.Readings setup) inputs number line (OfReadings kept) = of_readings (readings.line_step setup.form line kept)

-- why the line with a number is bad, if it is
abbrev pub line_fault : FeedForm → List (List ℕ) → TextKept → ℕ → List ℕ → Option BadFeedLine
line_fault (forms.Rows options) inputs (OfRows kept) number line =
    option_map bad.Rows (content_fault options kept (content inputs number line))
line_fault (forms.Rows options) inputs (OfReadings kept) number line = None
line_fault (forms.Readings setup) inputs (OfRows kept) number line = None
line_fault (forms.Readings setup) inputs (OfReadings kept) number line =
    option_map bad.Readings (readings.line_fault setup.form kept line)

-- why a line is bad if the feed ends before its LF
abbrev pub no_end : FeedForm → BadFeedLine
no_end (forms.Rows options) = bad.Rows bad_row.NoEnd
no_end (forms.Readings setup) = bad.Readings bad_reading.NoEnd

-- where a feed of so many inputs is before its first line
abbrev pub first_state : FeedForm → ℕ → FeedState
first_state form inputs = record { kept = first_kept form inputs; feed = empty_feed inputs }

-- where it is after a step
abbrev pub after_step : LineStep → Feed → FeedState
after_step step feed = record { kept = step.kept; feed = after_all step.events feed }

-- where it is after the line with a number
abbrev pub after_line : FeedForm → List (List ℕ) → ℕ → List ℕ → FeedState → FeedState
after_line form inputs number line state = after_step (line_step form inputs number line state.kept) state.feed

-- where it is after lines, of which the first one has a number
abbrev pub after_lines : FeedForm → List (List ℕ) → ℕ → FeedState → List (List ℕ) → FeedState
after_lines form inputs number state [] = state
after_lines form inputs number state (line ∷ lines) =
    after_lines form inputs (next_count number) (after_line form inputs number line state) lines

-- whether a bad line ends the feed even if bad lines are skipped: it is one of readings, and its header hasn't come
abbrev pub is_headless : TextKept → Bool
is_headless (OfRows kept) = false
is_headless (OfReadings kept) = is_none kept.layout

-- whether a line ends the run, by why it is bad: bad lines do if they are to, and all do that come before a header
abbrev pub ends : Bool → TextKept → Option BadFeedLine → Bool
ends strict kept None = false
ends strict kept (Some why) = strict || is_headless kept

abbrev pub stops : Bool → FeedForm → List (List ℕ) → FeedState → ℕ → List ℕ → Bool
stops strict form inputs state number line = ends strict state.kept (line_fault form inputs state.kept number line)

-- the lines that are taken after some, of which the first one has a number: all, or those before the first one that ends the run
abbrev pub taken_from : Bool → FeedForm → List (List ℕ) → ℕ → FeedState → List (List ℕ) → List (List ℕ)
taken_from strict form inputs number state [] = []
taken_from strict form inputs number state (line ∷ lines) =
    if stops strict form inputs state number line then []
    else line ∷ taken_from strict form inputs (next_count number) (after_line form inputs number line state) lines

-- whether one of the lines ends the run
abbrev pub stop_among : Bool → FeedForm → List (List ℕ) → ℕ → FeedState → List (List ℕ) → Bool
stop_among strict form inputs number state [] = false
stop_among strict form inputs number state (line ∷ lines) =
    stops strict form inputs state number line
    || stop_among strict form inputs (next_count number) (after_line form inputs number line state) lines

-- the events of a feed: what its lines say, handed on by watermarks or as its readings mean it
abbrev pub events_of : FeedForm → List (List ℕ) → List (List ℕ) → List Event
events_of (forms.Rows options) inputs lines = rows.events_of options inputs lines
events_of (forms.Readings setup) inputs lines = readings.events_of setup.form setup.options lines
