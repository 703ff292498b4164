-- What the lines of a feed of readings say: the events that they make, and why a line is bad (our own rule). A bad line changes nothing.
use Rattle.std.specs.Prelude.{ℕ, Bool, false, ◌||◌, is_none, if◌then◌else◌, List, [], ◌∷◌, ◌++◌, length, nat_lt}
use Rattle.std.specs.Prelude.{Option, None, Some, option_map, Result, Ok, Err}
use Rattle.tilt_conventions.specs.declared.options.Options.{Options}
use Rattle.tilt_feed.specs.Events.{after_all}
use Rattle.tilt_feed.specs.Feed.{Feed, empty_feed}
use Rattle.tilt_feed.specs.declared.event.Event.{Event}
use Rattle.tilt_feed_text.specs.Said.{is_blank}
use Rattle.tilt_feed_text.specs.declared.pending.TheConstants.{LINE}
use Rattle.tilt_reading_feed.specs.Laws.{events_now, line_stepped, nothing_read}
use Rattle.tilt_reading_feed.specs.Steps.{FeedKept, FeedStep}
use Rattle.tilt_reading_feed.specs.Steps as feed
use Rattle.tilt_reading_lines.specs.Header.{header_said}
use Rattle.tilt_reading_lines.specs.Lines.{Said, line_said}
use Rattle.tilt_reading_lines.specs.Rules.{Layout}
use Rattle.tilt_reading_lines.specs.declared.fault.HeaderFault.{HeaderFault}
use Rattle.tilt_reading_lines.specs.declared.fault.LineFault.{LineFault}
use Rattle.tilt_reading_text.specs.declared.bad_reading_line.BadReadingLine.{BadReadingLine}
use Rattle.tilt_reading_text.specs.declared.bad_reading_line.BadReadingLine.TheVariants as bad
use Rattle.tilt_reading_text.specs.Form.{FormValue}

-- what a line is: blank, the header with its columns, or readings
pub data Content : Type 0 where
  Blank : Content
  Header : (layout : Layout) → Content
  Readings : (said : Said) → Content

-- what was read, or why it was bad
abbrev pub header_or_bad : Result Layout HeaderFault → Result Content BadReadingLine
header_or_bad (Ok layout) = Ok (Header layout)
header_or_bad (Err cause) = Err (bad.BadHeader cause)

abbrev pub readings_or_bad : Result Said LineFault → Result Content BadReadingLine
readings_or_bad (Ok said) = Ok (Readings said)
readings_or_bad (Err cause) = Err (bad.Unreadable cause)

-- what a line is that isn't blank: the first one is the header, and the others have its columns
abbrev pub record_content : FormValue → Option Layout → List ℕ → Result Content BadReadingLine
record_content form None line = header_or_bad (header_said form.delimiter form.titles form.sources line)
record_content form (Some layout) line = readings_or_bad (line_said form.delimiter layout form.rules form.sources line)

-- what a line is, or why it can't be read
abbrev pub content : FormValue → Option Layout → List ℕ → Result Content BadReadingLine
content form layout line =
    if nat_lt LINE (length line) then Err bad.TooLong
    else if is_blank line then Ok Blank
    else record_content form layout line

-- where the fields of the next lines are after a line, if the header has come
abbrev pub layout_after : Option Layout → Result Content BadReadingLine → Option Layout
layout_after layout (Ok Blank) = layout
layout_after layout (Ok (Header found)) = Some found
layout_after layout (Ok (Readings said)) = layout
layout_after layout (Err why) = layout

-- what a line does to the feed: only readings change it
abbrev pub feed_step : Result Content BadReadingLine → FeedKept → FeedStep
feed_step (Ok Blank) kept = record { kept = kept; events = [] }
feed_step (Ok (Header layout)) kept = record { kept = kept; events = [] }
feed_step (Ok (Readings said)) kept = line_stepped said kept
feed_step (Err why) kept = record { kept = kept; events = [] }

-- why a line is bad, by what it is, if it is
abbrev pub content_fault : FeedKept → Result Content BadReadingLine → Option BadReadingLine
content_fault kept (Ok Blank) = None
content_fault kept (Ok (Header layout)) = None
content_fault kept (Ok (Readings said)) = option_map bad.NotTaken (feed.line_fault kept said)
content_fault kept (Err why) = Some why

-- what is kept of a text after some lines: where the fields of a line are, if the header has come, and what is kept of the feed
pub record TextKept : Type 0 where
  pub layout : Option Layout
  pub feed : FeedKept

-- what is kept after a line, and the events that it hands on
pub record TextStep : Type 0 where
  pub kept : TextKept
  pub events : List Event

-- what is kept before the first line
abbrev pub first_kept : List Options → TextKept
first_kept options = record { layout = None; feed = nothing_read options }

-- a step of the feed, and where fields are then
abbrev pub text_step : Option Layout → FeedStep → TextStep
text_step layout step = record { kept = record { layout = layout; feed = step.kept }; events = step.events }

-- what a line does
abbrev pub line_step : FormValue → List ℕ → TextKept → TextStep
line_step form line kept =
    text_step (layout_after kept.layout (content form kept.layout line)) (feed_step (content form kept.layout line) kept.feed)

-- why a line is bad, if it is
abbrev pub line_fault : FormValue → TextKept → List ℕ → Option BadReadingLine
line_fault form kept line = content_fault kept.feed (content form kept.layout line)

-- what the end does
abbrev pub text_finished : TextKept → TextStep
text_finished kept = text_step kept.layout (feed.feed_finished kept.feed)

-- whether a line ends the feed, by why it is bad: bad lines do if they are to, and one in place of the header always does
abbrev pub ends : Bool → Option Layout → Option BadReadingLine → Bool
ends strict layout None = false
ends strict layout (Some why) = strict || is_none layout

-- where a feed is after some lines: what is kept of its text, and the feed after the events that they have handed on
pub record TextState : Type 0 where
  pub kept : TextKept
  pub feed : Feed

-- where it is before the first line
abbrev pub first_state : List Options → TextState
first_state options = record { kept = first_kept options; feed = empty_feed (length options) }

-- where it is after a step
abbrev pub after_step : TextStep → Feed → TextState
after_step step feed = record { kept = step.kept; feed = after_all step.events feed }

-- where it is after a line
abbrev pub after_line : FormValue → List ℕ → TextState → TextState
after_line form line state = after_step (line_step form line state.kept) state.feed

-- where it is after lines
abbrev pub after_lines : FormValue → TextState → List (List ℕ) → TextState
after_lines form state [] = state
after_lines form state (line ∷ lines) = after_lines form (after_line form line state) lines

-- whether a line ends the feed
abbrev pub stops : Bool → FormValue → TextState → List ℕ → Bool
stops strict form state line = ends strict state.kept.layout (line_fault form state.kept line)

-- the lines that are taken after some: all, or those before the first one that ends the feed
abbrev pub taken_from : Bool → FormValue → TextState → List (List ℕ) → List (List ℕ)
taken_from strict form state [] = []
taken_from strict form state (line ∷ lines) =
    if stops strict form state line then [] else line ∷ taken_from strict form (after_line form line state) lines

-- whether one of the lines ends the feed
abbrev pub stop_among : Bool → FormValue → TextState → List (List ℕ) → Bool
stop_among strict form state [] = false
stop_among strict form state (line ∷ lines) =
    stops strict form state line || stop_among strict form (after_line form line state) lines

-- what a line says, by what it is, if it says something
abbrev pub said_by : Result Content BadReadingLine → List Said
said_by (Ok Blank) = []
said_by (Ok (Header layout)) = []
said_by (Ok (Readings said)) = said ∷ []
said_by (Err why) = []

-- whether a line is in place of the header, and can't be read
abbrev pub is_lost : Option Layout → Result Content BadReadingLine → Bool
is_lost layout (Ok content) = false
is_lost layout (Err why) = is_none layout

-- what lines say; without a header they say nothing
abbrev pub lines_said : FormValue → Option Layout → List (List ℕ) → List Said
lines_said form layout [] = []
lines_said form layout (line ∷ lines) =
    if is_lost layout (content form layout line) then []
    else said_by (content form layout line) ++ lines_said form (layout_after layout (content form layout line)) lines

-- the events of a feed: those of what its lines say, for inputs whose readings mean this
abbrev pub events_of : FormValue → List Options → List (List ℕ) → List Event
events_of form options lines = events_now options (lines_said form None lines)
