-- What the lines of a feed say: the events that they make, and why a line is bad (our own rule). A line is numbered by how many lines are
-- before it.
use Rattle.std.specs.Prelude.{◌≡◌, ℕ, ◌==◌, Bool, false, is_some, ◌||◌, ◌&&◌, if◌then◌else◌, List, [], ◌∷◌, ◌++◌, length, codes, nat_lt}
use Rattle.std.specs.Prelude.{Option, None, Some, Result, Ok, Err, ⊤}
use Rattle.std.specs.Str.{bytes_eq}
use Rattle.tilt_feed.specs.Events.{after_all}
use Rattle.tilt_feed.specs.Feed.{Feed, empty_feed}
use Rattle.tilt_feed.specs.declared.event.Event.{Event}
use Rattle.tilt_feed_line.specs.Lines.{line_said}
use Rattle.tilt_feed_line.specs.declared.line.Line.{Line}
use Rattle.tilt_feed_line.specs.declared.fault.LineFault.{LineFault}
use Rattle.tilt_feed_text.specs.declared.bad_line.BadLine.{BadLine}
use Rattle.tilt_feed_text.specs.declared.bad_line.BadLine.TheVariants as bad
use Rattle.tilt_feed_text.specs.declared.bad_line.ReadContentFault.{ReadContentFault}
use Rattle.tilt_feed_text.specs.declared.bad_line.ReadContentFault.TheVariants as fault
use Rattle.tilt_feed_text.specs.declared.pending.TheConstants.{LINE}
use Rattle.tilt_outside.specs.Counts.{next_count}
use Rattle.tilt_watermarks.specs.Laws.{stepped, watermarked}
use Rattle.tilt_watermarks.specs.Steps.{Kept, Step, nothing_kept}
use Rattle.tilt_watermarks.specs.Steps as steps
use Rattle.tilt_watermarks.specs.declared.fault.TakeFault.{TakeFault}
use Rattle.tilt_watermarks.specs.declared.options.Options.{Options}

-- whether a line is blank: empty, or a lone CR
abbrev pub is_blank : List ℕ → Bool
is_blank bytes = bytes_eq bytes [] || bytes_eq bytes (codes "\r")

-- whether a line is a header, perhaps with a CR at its end
abbrev pub is_header : List ℕ → Bool
is_header bytes = bytes_eq bytes (codes "name,start,end,value") || bytes_eq bytes (codes "name,start,end,value\r")

-- whether a line is skipped: a blank one, and a header if it is the first line
abbrev pub is_skipped : ℕ → List ℕ → Bool
is_skipped number bytes = is_blank bytes || (number == 0 && is_header bytes)

-- what was read, or why it was bad
abbrev pub read_or_bad : Result Line LineFault → Result (Option Line) BadLine
read_or_bad (Ok said) = Ok (Some said)
read_or_bad (Err fault) = Err (bad.Unreadable fault)

-- what the line with a number says, if it isn't skipped; or why it says nothing
abbrev pub content : List (List ℕ) → ℕ → List ℕ → Result (Option Line) BadLine
content inputs number bytes =
    if nat_lt LINE (length bytes) then Err bad.TooLong
    else if is_skipped number bytes then Ok None
    else read_or_bad (line_said inputs bytes)

-- what it says, if it says something
abbrev pub said_by : Result (Option Line) BadLine → List Line
said_by (Ok None) = []
said_by (Ok (Some said)) = said ∷ []
said_by (Err why) = []

-- what lines say, of which the first one has a number
abbrev pub lines_said : List (List ℕ) → ℕ → List (List ℕ) → List Line
lines_said inputs number [] = []
lines_said inputs number (bytes ∷ lines) = said_by (content inputs number bytes) ++ lines_said inputs (next_count number) lines

-- the events of a feed: what its lines say, handed on by watermarks with these options
abbrev pub events_of : Options → List (List ℕ) → List (List ℕ) → List Event
events_of options inputs lines = (watermarked options (length inputs) (lines_said inputs 0 lines)).events

-- where a feed is after some lines: what its watermarks keep, and the feed after the events that they have handed on
pub record FeedState : Type 0 where
  pub kept : Kept
  pub feed : Feed

-- where a feed of so many inputs is before its first line
abbrev pub first_state : ℕ → FeedState
first_state inputs = record { kept = nothing_kept inputs; feed = empty_feed inputs }

-- where it is after a step of its watermarks
abbrev pub after_step : Step → Feed → FeedState
after_step step feed = record { kept = step.kept; feed = after_all step.events feed }

-- where it is after what a line says
abbrev pub after_content : Options → Result (Option Line) BadLine → FeedState → FeedState
after_content options (Ok None) state = state
after_content options (Ok (Some said)) state = after_step (stepped options said state.kept) state.feed
after_content options (Err why) state = state

-- where it is after the line with a number
abbrev pub after_line : Options → List (List ℕ) → ℕ → List ℕ → FeedState → FeedState
after_line options inputs number bytes state = after_content options (content inputs number bytes) state

-- where it is after lines, of which the first one has a number
abbrev pub after_lines : Options → List (List ℕ) → ℕ → FeedState → List (List ℕ) → FeedState
after_lines options inputs number state [] = state
after_lines options inputs number state (bytes ∷ lines) =
    after_lines options inputs (next_count number) (after_line options inputs number bytes state) lines

-- how many lines there are after some more, as far as the count goes
abbrev pub number_after : ℕ → List (List ℕ) → ℕ
number_after number [] = number
number_after number (bytes ∷ lines) = number_after (next_count number) lines

-- that watermarks don't take what a line says, as why the line is bad
abbrev pub not_taken : Option TakeFault → Option BadLine
not_taken None = None
not_taken (Some fault) = Some (bad.NotTaken fault)

-- why what a line says is bad, if it is
abbrev pub content_fault : Options → Kept → Result (Option Line) BadLine → Option BadLine
content_fault options kept (Ok None) = None
content_fault options kept (Ok (Some said)) = not_taken (steps.line_fault options kept said)
content_fault options kept (Err why) = Some why

-- why the line with a number is bad, if it is
abbrev pub line_fault : Options → List (List ℕ) → FeedState → ℕ → List ℕ → Option BadLine
line_fault options inputs state number bytes = content_fault options state.kept (content inputs number bytes)

-- whether a line ends the run: it is bad, and bad lines stop it
abbrev pub stops : Bool → Options → List (List ℕ) → FeedState → ℕ → List ℕ → Bool
stops strict options inputs state number bytes = strict && is_some (line_fault options inputs state number bytes)

-- the lines that are taken after some, of which the first one has a number: all, or those before the first bad one if bad lines stop the
-- run
abbrev pub taken_from : Bool → Options → List (List ℕ) → ℕ → FeedState → List (List ℕ) → List (List ℕ)
taken_from strict options inputs number state [] = []
taken_from strict options inputs number state (bytes ∷ lines) =
    if stops strict options inputs state number bytes then []
    else bytes ∷ taken_from strict options inputs (next_count number) (after_line options inputs number bytes state) lines

-- whether one of the lines ends the run
abbrev pub stop_among : Bool → Options → List (List ℕ) → ℕ → FeedState → List (List ℕ) → Bool
stop_among strict options inputs number state [] = false
stop_among strict options inputs number state (bytes ∷ lines) =
    stops strict options inputs state number bytes
    || stop_among strict options inputs (next_count number) (after_line options inputs number bytes state) lines

-- the result is what was said, unless memory ran out
abbrev pub IsContent : Result (Option Line) ReadContentFault → Result (Option Line) BadLine → Type 0
IsContent (Ok said) content = content ≡ Ok said
IsContent (Err (fault.Bad why)) content = content ≡ Err why
IsContent (Err fault.OutOfMemory) content = ⊤
