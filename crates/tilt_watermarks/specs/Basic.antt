-- The basic rule: what lines do without options.
use Rattle.std.specs.Prelude.{ℕ, zero, suc, ℤ, Bool, if◌then◌else◌, int_lt, List, [], ◌∷◌, ◌++◌, map, Option, Some, None}
use Rattle.tilt_feed.specs.Events.{is_time, update_fault}
use Rattle.tilt_feed.specs.Feed.{unknown_input}
use Rattle.tilt_feed.specs.declared.edge.Edge.{Edge}
use Rattle.tilt_feed.specs.declared.event.Event.{Event}
use Rattle.tilt_feed.specs.declared.event.Event.TheVariants as event
use Rattle.tilt_feed.specs.declared.fault.EventFault.{EventFault}
use Rattle.tilt_feed.specs.declared.fault.EventFault.TheVariants.{Finished, OutOfRange}
use Rattle.tilt_feed.specs.declared.update.Update.{Update}
use Rattle.tilt_feed.specs.declared.update.Update.TheVariants.{KnownUpTo}
use Rattle.tilt_feed_line.specs.declared.line.Line.{Line}
use Rattle.tilt_feed_line.specs.declared.line.Line.TheVariants as line
use Rattle.tilt_watermarks.specs.Held.{bare, moved}

-- the edge of the input with a number, and that of an unknown input if there is none
abbrev pub edge_at : List Edge → ℕ → Edge
edge_at [] number = unknown_input.edge
edge_at (edge ∷ edges) zero = edge
edge_at (edge ∷ edges) (suc number) = edge_at edges number

-- the first rule of feeds that a line breaks
abbrev pub basic_fault : Bool → List Edge → Line → Option EventFault
basic_fault finished edges (line.Update number update) = update_fault finished (edge_at edges number) update
basic_fault finished edges (line.AllKnownUpTo tick) = if finished then Some Finished else if is_time tick then None else Some OutOfRange
basic_fault finished edges line.Finish = if finished then Some Finished else None

-- the edges after an update of the input with a number
abbrev pub moved_at : ℕ → Update → List Edge → List Edge
moved_at number update [] = []
moved_at zero update (edge ∷ edges) = moved update edge ∷ edges
moved_at (suc number) update (edge ∷ edges) = edge ∷ moved_at number update edges

-- an edge that is known up to a tick at least
abbrev pub raised_edge : ℤ → Edge → Edge
raised_edge tick edge = if int_lt edge.watermark tick then moved (KnownUpTo tick) edge else edge

-- "known up to" a tick for each input whose watermark is below it, if inputs are counted from a number
abbrev pub raising_edges : ℕ → ℤ → List Edge → List Event
raising_edges number tick [] = []
raising_edges number tick (edge ∷ edges) =
    (if int_lt edge.watermark tick then event.Input number (KnownUpTo tick) ∷ [] else []) ++ raising_edges (suc number) tick edges

-- the edges after a line,
abbrev pub basic_edges : Line → List Edge → List Edge
basic_edges (line.Update number update) edges = moved_at number update edges
basic_edges (line.AllKnownUpTo tick) edges = map (raised_edge tick) edges
basic_edges line.Finish edges = map (λ edge. bare edge.watermark) edges

-- and its events: an update is the event of its input, and "known up to" for all inputs is that of each input whose watermark is below it
abbrev pub basic_events : Line → List Edge → List Event
basic_events (line.Update number update) edges = event.Input number update ∷ []
basic_events (line.AllKnownUpTo tick) edges = raising_edges 0 tick edges
basic_events line.Finish edges = event.Finish ∷ []
