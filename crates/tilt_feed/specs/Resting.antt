-- The rows of a feed at rest: what each input has if nothing more happens, with an open row that goes on. The output on these rows says
-- what is printed (our own rule).
use Rattle.std.specs.Prelude.{◌≡◌, ℕ, ℤ, ◌≤ℤ◌, true, if◌then◌else◌, int_lt, int_le, List, [], ◌∷◌, ◌++◌, length, map, get_or}
use Rattle.std.specs.Prelude.{Option, Some, None}
use Rattle.std.specs.Ordering.{int_eq}
use Rattle.tilt_base.specs.declared.limits.TheConstants.{REACH, T, WIDE}
use Rattle.tilt_core.specs.Core.{CoreParts, emitted_number}
use Rattle.tilt_core.specs.Meaning.{meaning}
use Rattle.tilt_core.specs.Needs.{reach}
use Rattle.tilt_feed.specs.Events.{edge_of}
use Rattle.tilt_feed.specs.Feed.{InputFeed, Feed, closed_at}
use Rattle.tilt_feed.specs.Horizon.{Horizon, IsKnownAt, input_horizon, output_domain}
use Rattle.tilt_feed.specs.Printed.{Begun}
use Rattle.tilt_feed.specs.declared.edge.Edge.{Edge}
use Rattle.tilt_stream.specs.Snap.{Snapshot, ended_below}
use Rattle.tilt_stream.specs.Snapshots.{snapshots}
use Rattle.tilt_stream.specs.Stream.{Stream, cell_at, mark_at}

-- where an open row is taken to end while its end isn't known: at `T` if the watermark is `T`, otherwise beyond all times of queries
abbrev pub resting_end : Edge → ℤ
resting_end edge = if int_eq edge.watermark T then T else WIDE

-- the rows of an input at rest: the closed ones, and the open one, ended there
abbrev pub resting : InputFeed → List Snapshot
resting input = input.rows ++ closed_at (resting_end input.edge) input.edge.open_row

-- the same of each input
abbrev pub all_resting : Feed → List (List Snapshot)
all_resting feed = map resting feed.inputs

-- what a source means on these rows
abbrev pub meaning_at_rest : CoreParts → Feed → ℕ → Stream
meaning_at_rest core feed source = meaning (all_resting feed) core.defs source

-- the whole output on these rows
abbrev pub whole : CoreParts → Feed → List Snapshot
whole core feed = snapshots (meaning_at_rest core feed (emitted_number core)) (output_domain core).start (output_domain core).end

-- the snapshots that end at a tick or below it, up to the first that doesn't
abbrev pub ended_by : ℤ → List Snapshot → List Snapshot
ended_by tick [] = []
ended_by tick (s ∷ ss) = if int_le s.end tick then s ∷ ended_by tick ss else []

-- of the snapshots that come after the printed ones, the start and the value of the first one, if it starts below a tick
abbrev pub begun_next : ℤ → List Snapshot → Option Begun
begun_next tick [] = None
begun_next tick (s ∷ ss) = if int_lt s.start tick then Some (record { start = s.start; value = s.value }) else None

-- a query looks ahead by the limit at most, as each accepted query does
abbrev pub LooksNear : CoreParts → Type 0
LooksNear core = (reach (length core.inputs) core.defs).ahead ≤ℤ REACH

-- rows go on as others do: up to a horizon as many end below each tick, with the same cells and marks, and no mark is lost
pub record RestsOn (h : Horizon) (a b : List Snapshot) : Type 0 where
  pub ended : (tick : ℤ) → IsKnownAt h tick → ended_below tick a ≡ ended_below tick b
  pub cells : (tick : ℤ) → IsKnownAt h tick → cell_at a tick ≡ cell_at b tick
  pub marks : (tick : ℤ) → IsKnownAt h tick → mark_at a tick ≡ mark_at b tick
  pub kept : (tick : ℤ) → tick ≤ℤ WIDE → mark_at a tick ≡ true → mark_at b tick ≡ true

-- the rows at rest of each input of a feed go on in a later feed, up to the horizon of the input
abbrev pub AllRestOn : Feed → Feed → Type 0
AllRestOn feed later = (number : ℕ)
    → RestsOn (input_horizon feed.finished (edge_of feed.inputs number)) (get_or (all_resting feed) number [])
    (get_or (all_resting later) number [])
