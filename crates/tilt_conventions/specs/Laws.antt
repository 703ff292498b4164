-- What the laws of conventions say.
use Rattle.std.specs.Prelude.{◌≡◌, ◌<◌, ℤ, neg_ℤ, if◌then◌else◌, List, [], ◌∷◌, ◌++◌}
use Rattle.std.specs.Prelude.{map, Option, Some, None, is_none, is_some, ⊤}
use Rattle.std.specs.Int.{int_max}
use Rattle.std.specs.Option.{ForSome}
use Rattle.tilt_base.specs.declared.limits.TheConstants.{T}
use Rattle.tilt_conventions.specs.Rows.{age_of, counted, rows_of}
use Rattle.tilt_conventions.specs.Steps.{Kept, Step, last_updates, nothing_kept, taken, takes_last, turn_fault, turn_start}
use Rattle.tilt_conventions.specs.declared.options.Convention.{Convention}
use Rattle.tilt_conventions.specs.declared.options.Options.{Options}
use Rattle.tilt_conventions.specs.declared.options.Ties.{Ties}
use Rattle.tilt_conventions.specs.declared.turn.Reading.{Reading}
use Rattle.tilt_conventions.specs.declared.turn.Turn.{Turn}
use Rattle.tilt_conventions.specs.declared.turn.Turn.TheVariants as turn
use Rattle.tilt_feed.specs.Events.{after, after_all, event_fault}
use Rattle.tilt_feed.specs.Feed.{Feed, empty_feed}
use Rattle.tilt_feed.specs.declared.event.Event.{Event}
use Rattle.tilt_feed.specs.declared.event.Event.TheVariants.{Input}
use Rattle.tilt_feed.specs.declared.update.Update.{Update}
use Rattle.tilt_stream.specs.Snap.{Snapshot}

-- a reading holds for a tick at least
abbrev pub HoldsATick : Convention → Type 0
HoldsATick convention = ForSome (age_of convention) (λ age. 0 < age)

-- what is kept after turns, one after another, and the updates that they hand on: a turn that isn't taken changes nothing
abbrev pub stepped : Options → Turn → Kept → Step
stepped options turn kept =
    if is_none (turn_fault options.ties kept turn) then taken options turn kept else record { kept = kept; updates = [] }

abbrev pub stepped_all : Options → List Turn → Kept → Step
stepped_all options [] kept = record { kept = kept; updates = [] }
stepped_all options (turn ∷ turns) kept = record {
  kept = (stepped_all options turns (stepped options turn kept).kept).kept;
  updates = (stepped options turn kept).updates ++ (stepped_all options turns (stepped options turn kept).kept).updates;
}

-- the same from the start
abbrev pub converted : Options → List Turn → Step
converted options turns = stepped_all options turns nothing_kept

-- of turns, those that are taken
abbrev pub taken_from : Options → List Turn → Kept → List Turn
taken_from options [] kept = []
taken_from options (turn ∷ turns) kept = (if is_none (turn_fault options.ties kept turn) then turn ∷ [] else [])
    ++ taken_from options turns (stepped options turn kept).kept

abbrev pub taken_turns : Options → List Turn → List Turn
taken_turns options turns = taken_from options turns nothing_kept

-- the readings among turns
abbrev pub readings_of : List Turn → List Reading
readings_of [] = []
readings_of (turn.Reading reading ∷ turns) = reading ∷ readings_of turns
readings_of (turn.KnownUpTo watermark ∷ turns) = readings_of turns

-- where the last one of turns starts, or a tick if there is none
abbrev pub last_start : ℤ → List Turn → ℤ
last_start mark [] = mark
last_start mark (turn ∷ turns) = last_start (turn_start turn) turns

-- the tick of the last one of readings, or that of the reading before them if there is none
abbrev pub last_tick : Option ℤ → List Reading → Option ℤ
last_tick before [] = before
last_tick before (reading ∷ readings) = last_tick (Some reading.tick) readings

-- a tick, and another one that isn't below it if there is one
abbrev pub at_least : Option ℤ → ℤ → ℤ
at_least None tick = tick
at_least (Some other) tick = int_max tick other

-- up to where an input has readings or is known: to where the last one of its turns starts, and to the tick of the last reading that counts
abbrev pub reached : Ties → List Turn → ℤ
reached ties turns = at_least (last_tick None (counted ties (readings_of turns))) (last_start (neg_ℤ T) turns)

-- up to where its rows are known: a reading that waits isn't known yet
abbrev pub cut_of : Ties → List Turn → ℤ
cut_of ties turns = if takes_last ties then last_start (neg_ℤ T) turns else reached ties turns

-- the same when nothing more comes: readings with a maximum age hold for it, as far as times go
abbrev pub end_of : Options → List Turn → ℤ
end_of options turns = if is_some (age_of options.convention) then T else reached options.ties turns

-- the rows that turns mean up to a cut: those of the readings that were taken and count
abbrev pub meant : Options → List Turn → ℤ → List Snapshot
meant options turns cut = rows_of (age_of options.convention) (counted options.ties (readings_of turns)) cut

-- the feed of one input with these updates
abbrev pub events_of : List Update → List Event
events_of updates = map (Input 0) updates

abbrev pub feed_of : List Update → Feed
feed_of updates = after_all (events_of updates) (empty_feed 1)

-- the updates of turns, and those when nothing more comes
abbrev pub updates_now : Options → List Turn → List Update
updates_now options turns = (converted options turns).updates

abbrev pub updates_at_last : Options → List Turn → List Update
updates_at_last options turns = updates_now options turns ++ last_updates options (converted options turns).kept

-- each event is allowed after those before it
abbrev pub AreAllowed : List Event → Feed → Type 0
AreAllowed [] feed = ⊤
AreAllowed (event ∷ events) feed = (event_fault feed event ≡ None) × AreAllowed events (after event feed)
