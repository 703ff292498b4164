-- What a turn of an input does (our own rule). `taken` is the definition.
use Rattle.std.specs.Prelude.{ℕ, ◌+◌, ◌-◌, ◌^◌, min, ℤ, pos, neg_ℤ, ◌+ℤ◌, Bool, true, false, ◌&&◌, not, if◌then◌else◌, int_lt, int_le}
use Rattle.std.specs.Prelude.{List, [], ◌∷◌, ◌++◌, Option, Some, None, option_map}
use Rattle.std.specs.Int.{int_min}
use Rattle.std.specs.Ordering.{int_eq}
use Rattle.tilt_base.specs.declared.limits.TheConstants.{T}
use Rattle.tilt_conventions.specs.Rows.{age_of, is_at, moved_past, start_of}
use Rattle.tilt_conventions.specs.declared.fault.TurnFault.{TurnFault}
use Rattle.tilt_conventions.specs.declared.fault.TurnFault.TheVariants.{OutOfRange, Late, Tie}
use Rattle.tilt_conventions.specs.declared.options.Convention.{Convention}
use Rattle.tilt_conventions.specs.declared.options.Convention.TheVariants.{Hold, Event}
use Rattle.tilt_conventions.specs.declared.options.Options.{Options}
use Rattle.tilt_conventions.specs.declared.options.Ties.{Ties}
use Rattle.tilt_conventions.specs.declared.options.Ties.TheVariants.{First, Last, Refuse, Spread}
use Rattle.tilt_conventions.specs.declared.turn.Reading.{Reading}
use Rattle.tilt_conventions.specs.declared.turn.Turn.{Turn}
use Rattle.tilt_conventions.specs.declared.turn.Turn.TheVariants as turn
use Rattle.tilt_feed.specs.Events.{is_time, opened_by, watermark_after}
use Rattle.tilt_feed.specs.Feed.{unknown_input}
use Rattle.tilt_feed.specs.declared.edge.Edge.{Edge}
use Rattle.tilt_feed.specs.declared.open_row.OpenRow.{OpenRow}
use Rattle.tilt_feed.specs.declared.update.Update.{Update}
use Rattle.tilt_feed.specs.declared.update.Update.TheVariants.{Row, Value, NoValue, KnownUpTo}

-- what is kept of an input: the edge of its feed after what was handed on, and where the latest turn starts. Then the reading that counts
-- in the latest tick that has one, and how many readings were skipped
pub record Kept : Type 0 where
  pub edge : Edge
  pub mark : ℤ
  pub latest : Option Reading
  pub skipped : ℕ

-- what is kept after a turn, and the updates that it hands on
pub record Step : Type 0 where
  pub kept : Kept
  pub updates : List Update

-- before the first turn
abbrev pub nothing_kept : Kept
nothing_kept = record { edge = unknown_input.edge; mark = neg_ℤ T; latest = None; skipped = 0 }

-- an edge after updates, one after another
abbrev pub moved : Update → Edge → Edge
moved update edge = record { open_row = opened_by edge update; watermark = watermark_after update }

abbrev pub moved_all : List Update → Edge → Edge
moved_all [] edge = edge
moved_all (update ∷ updates) edge = moved_all updates (moved update edge)

-- where an update starts
abbrev pub update_start : Update → ℤ
update_start (Row start end value) = start
update_start (Value start value) = start
update_start (NoValue start) = start
update_start (KnownUpTo tick) = tick

-- where a turn starts: nothing that it says is about a tick up to there
abbrev pub turn_start : Turn → ℤ
turn_start (turn.Reading reading) = start_of reading
turn_start (turn.KnownUpTo watermark) = watermark

-- whether a tick can be that of a reading: its row, from the tick before, has both times within `-T..T`
abbrev pub is_reading_time : ℤ → Bool
is_reading_time tick = int_lt (neg_ℤ T) tick && int_le tick T

-- whether a reading is a second one in the tick of the latest
abbrev pub is_tie : Ties → Option Reading → Reading → Bool
is_tie Spread latest reading = false
is_tie ties latest reading = is_at (option_map (λ r. r.tick) latest) reading

-- a reading as it counts: spread readings move past the latest one
abbrev pub placed : Ties → Option Reading → Reading → Reading
placed Spread latest reading = moved_past (option_map (λ r. r.tick) latest) reading
placed ties latest reading = reading

-- whether all times of a turn are in range
abbrev pub is_in_range : Ties → Option Reading → Turn → Bool
is_in_range ties latest (turn.Reading reading) = is_reading_time reading.tick && is_reading_time (placed ties latest reading).tick
is_in_range ties latest (turn.KnownUpTo watermark) = is_time watermark

-- whether a turn is a second reading in one tick that is refused
abbrev pub is_refused : Ties → Option Reading → Turn → Bool
is_refused Refuse latest (turn.Reading reading) = is_tie Refuse latest reading
is_refused ties latest turn = false

-- why a turn isn't taken, if it isn't
abbrev pub turn_fault : Ties → Kept → Turn → Option TurnFault
turn_fault ties kept turn =
    if not (is_in_range ties kept.latest turn) then Some OutOfRange
    else if int_lt (turn_start turn) kept.mark then Some Late
    else if is_refused ties kept.latest turn then Some Tie
    else None

-- the open row ends by its age before a tick
abbrev pub aged : Option ℕ → ℤ → Option OpenRow → List Update
aged None tick row = []
aged (Some age) tick None = []
aged (Some age) tick (Some row) = if int_lt (row.start +ℤ pos age) tick then NoValue (row.start +ℤ pos age) ∷ [] else []

-- "known up to" a tick, if the watermark is below it
abbrev pub rising : ℤ → ℤ → List Update
rising tick watermark = if int_lt watermark tick then KnownUpTo tick ∷ [] else []

-- an input becomes known up to a tick at least
abbrev pub known : Option ℕ → ℤ → Edge → List Update
known age tick edge = aged age tick edge.open_row ++ rising tick (moved_all (aged age tick edge.open_row) edge).watermark

-- what a reading says from a start on: an event has one tick, and the end of what holds isn't known yet
abbrev pub said : Convention → ℤ → Option ℤ → Update
said convention start None = NoValue start
said (Hold max_age) start (Some value) = Value start value
said Event start (Some value) = Row start (start +ℤ pos 1) (Some value)

-- a reading is handed on
abbrev pub handed : Convention → Reading → Edge → List Update
handed convention reading edge =
    aged (age_of convention) (start_of reading) edge.open_row ++ said convention (start_of reading) reading.value ∷ []

-- whether the last one of several readings in a tick counts
abbrev pub takes_last : Ties → Bool
takes_last First = false
takes_last Last = true
takes_last Refuse = false
takes_last Spread = false

-- a reading, if its tick hasn't ended at a mark
abbrev pub unended : ℤ → Option Reading → Option Reading
unended mark None = None
unended mark (Some reading) = if int_eq mark (start_of reading) then Some reading else None

-- the latest reading, if it waits until its tick has ended
abbrev pub waiting : Ties → Kept → Option Reading
waiting ties kept = if takes_last ties then unended kept.mark kept.latest else None

-- a reading that waits is handed on if its tick has ended at a tick
abbrev pub due : Convention → ℤ → Edge → Option Reading → List Update
due convention tick edge None = []
due convention tick edge (Some reading) = if int_lt (start_of reading) tick then handed convention reading edge else []

-- an input is known up to a tick: first what waited is handed on
abbrev pub settled : Options → ℤ → Kept → List Update
settled options tick kept =
    due options.convention tick kept.edge (waiting options.ties kept)
    ++ known (age_of options.convention) tick (moved_all (due options.convention tick kept.edge (waiting options.ties kept)) kept.edge)

-- a reading comes: it waits, or it is handed on at once, unless it is skipped
abbrev pub read : Options → Reading → Kept → List Update
read options reading kept =
    if takes_last options.ties then settled options (start_of reading) kept
    else if is_tie options.ties kept.latest reading then []
    else handed options.convention (placed options.ties kept.latest reading) kept.edge

-- the reading that counts after a reading
abbrev pub latest_after : Ties → Reading → Option Reading → Option Reading
latest_after ties reading latest =
    if not (takes_last ties) && is_tie ties latest reading then latest else Some (placed ties latest reading)

-- how many readings were skipped after one more; from `u64::MAX` on they aren't counted
abbrev pub one_more : ℕ → ℕ
one_more skipped = min (skipped + 1) (2 ^ 64 - 1)

-- what was handed on, where the turn started, the reading that counts, and how many were skipped
abbrev pub step_to : List Update → ℤ → Option Reading → ℕ → Edge → Step
step_to updates mark latest skipped edge = record {
  kept = record { edge = moved_all updates edge; mark = mark; latest = latest; skipped = skipped };
  updates = updates;
}

-- what a turn that is taken does
abbrev pub taken : Options → Turn → Kept → Step
taken options (turn.Reading reading) kept = step_to (read options reading kept) (start_of reading)
    (latest_after options.ties reading kept.latest) (if is_tie options.ties kept.latest reading then one_more kept.skipped else kept.skipped) kept.edge
taken options (turn.KnownUpTo watermark) kept = step_to (settled options watermark kept) watermark kept.latest kept.skipped kept.edge

-- the open row ends by its age, at `T` at the latest
abbrev pub aged_at_last : Option ℕ → Option OpenRow → List Update
aged_at_last None row = []
aged_at_last (Some age) None = []
aged_at_last (Some age) (Some row) = NoValue (int_min T (row.start +ℤ pos age)) ∷ []

-- what is handed on when nothing more comes
abbrev pub last_updates : Options → Kept → List Update
last_updates options kept =
    due options.convention T kept.edge (waiting options.ties kept)
    ++ aged_at_last (age_of options.convention)
    (moved_all (due options.convention T kept.edge (waiting options.ties kept)) kept.edge).open_row
