-- Small feeds, computed from the definitions. For each rule of the horizon, two completions that differ one tick above it.
use Rattle.std.proofs.Common.{◌≡◌, ℕ, ℤ, pos, negsuc, List, [], ◌∷◌, Option, Some, None, true, false, drop, refl}
use Rattle.tilt_base.specs.Expression.{Leaf, Two}
use Rattle.tilt_base.specs.declared.limits.TheConstants.{T, WIDE}
use Rattle.tilt_base.specs.declared.operator.Op2.TheVariants.{IfNull, Gt, When}
use Rattle.tilt_base.specs.declared.reducer.Reducer.TheVariants.{Sum, Avg}
use Rattle.tilt_base.specs.declared.span.Span.{Span}
use Rattle.tilt_checkpoint.specs.Decided.{decided, frame_of}
use Rattle.tilt_core.specs.Core.{CoreParts, emitted_number}
use Rattle.tilt_core.specs.CoreTree.{Const, Read, Reduce, CoreTree, Definition}
use Rattle.tilt_feed.specs.Events.{after_all, event_fault}
use Rattle.tilt_feed.specs.Feed.{all_rows_now}
use Rattle.tilt_feed.specs.Horizon.{horizon}
use Rattle.tilt_feed.specs.Laws.{fed}
use Rattle.tilt_feed.specs.Printed.{begun, meaning_now, printed}
use Rattle.tilt_feed.specs.Resting.{all_resting, begun_next, ended_by, whole}
use Rattle.tilt_feed.specs.Sure.{is_sure}
use Rattle.tilt_feed.specs.declared.event.Event.{Event}
use Rattle.tilt_feed.specs.declared.event.Event.TheVariants.{Input, Finish}
use Rattle.tilt_feed.specs.declared.fault.EventFault.TheVariants.{Finished, OutOfRange, Late, NoTick}
use Rattle.tilt_feed.specs.declared.update.Update.TheVariants.{Row, Value, NoValue, KnownUpTo}
use Rattle.tilt_stream.specs.Snap.{Snapshot}

-- a body on a grid, and over a span
abbrev defined : CoreTree → ℕ → Option Span → Definition
defined body period over = record { body = body; over = over; grid = record { period = pos period; offset = pos 0 } }

abbrev between : ℕ → ℕ → Option Span
between start end = Some (record { start = pos start; end = pos end })

-- a query of one input, or of two, and these definitions, of which the last one is emitted
abbrev query : List Definition → CoreParts
query (first ∷ []) = record { inputs = [] ∷ []; names = []; defs = first ∷ [] }
query defs = record { inputs = [] ∷ []; names = [] ∷ []; defs = defs }

abbrev query_of_two : Definition → CoreParts
query_of_two def = record { inputs = [] ∷ [] ∷ []; names = []; defs = def ∷ [] }

abbrev read : ℤ → CoreTree
read offset = Leaf (Read 0 offset)

abbrev up_to : ℕ → Event
up_to watermark = Input 0 (KnownUpTo (pos watermark))

abbrev row : ℕ → ℕ → ℕ → Event
row start end value = Input 0 (Row (pos start) (pos end) (Some (pos value)))

abbrev snap : ℕ → ℕ → Option ℤ → Snapshot
snap start end value = record { start = pos start; end = pos end; value = value }

-- the cell of the output at a tick, after events and further ones
abbrev cell_after : CoreParts → List Event → List Event → ℕ → Option ℤ
cell_after core events more tick = (meaning_now core (after_all more (fed core events)) (emitted_number core)).cell (pos tick)

-- `emit x over (0, 10]`
abbrev itself : CoreParts
itself = query (defined (read (pos 0)) 1 (between 0 10) ∷ [])

-- an input is known up to its watermark
itself_horizon : horizon itself (fed itself (up_to 5 ∷ [])) ≡ pos 5
itself_horizon = refl

itself_without : cell_after itself (up_to 5 ∷ []) [] 6 ≡ None
itself_without = refl

itself_with : cell_after itself (up_to 5 ∷ []) (row 5 6 1 ∷ []) 6 ≡ Some (pos 1)
itself_with = refl

-- and for ever if the feed is finished, or the watermark is `T`
itself_finished : horizon itself (fed itself (up_to 5 ∷ Finish ∷ [])) ≡ pos 10
itself_finished = refl

itself_last : horizon itself (fed itself (Input 0 (KnownUpTo T) ∷ [])) ≡ pos 10
itself_last = refl

-- a closed row that ends at the watermark is printed at once, since the mark after it is sure
closed_known : printed itself (fed itself (row 0 3 7 ∷ [])) ≡ snap 0 3 (Some (pos 7)) ∷ []
closed_known = refl

closed_sure : is_sure itself (fed itself (row 0 3 7 ∷ [])) 1 (pos 4) ≡ true
closed_sure = refl

-- a row that is open isn't, but it has begun
open_known : printed itself (fed itself (Input 0 (Value (pos 0) (pos 7)) ∷ up_to 5 ∷ [])) ≡ []
open_known = refl

open_unsure : is_sure itself (fed itself (Input 0 (Value (pos 0) (pos 7)) ∷ up_to 5 ∷ [])) 1 (pos 6) ≡ false
open_unsure = refl

open_begun : begun itself (fed itself (Input 0 (Value (pos 0) (pos 7)) ∷ up_to 5 ∷ [])) ≡ Some (record { start = pos 0; value = Some (pos 7) })
open_begun = refl

-- until a row says where it ends
open_closed : printed itself (fed itself (Input 0 (Value (pos 0) (pos 7)) ∷ up_to 5 ∷ row 0 5 7 ∷ [])) ≡ snap 0 5 (Some (pos 7)) ∷ []
open_closed = refl

-- nor is a gap, until it ends
gap_known : printed itself (fed itself (row 0 3 7 ∷ up_to 5 ∷ [])) ≡ snap 0 3 (Some (pos 7)) ∷ []
gap_known = refl

gap_begun : begun itself (fed itself (row 0 3 7 ∷ up_to 5 ∷ [])) ≡ Some (record { start = pos 3; value = None })
gap_begun = refl

-- the open row ends where a row of its start and value says, where another row starts, or where no value holds any more
open_joined : all_rows_now (fed itself (Input 0 (Value (pos 0) (pos 7)) ∷ row 0 4 7 ∷ [])) ≡ (snap 0 4 (Some (pos 7)) ∷ []) ∷ []
open_joined = refl

open_followed : all_rows_now (fed itself (Input 0 (Value (pos 0) (pos 7)) ∷ row 3 4 8 ∷ [])) ≡ (snap 0 3 (Some (pos 7)) ∷ snap 3 4 (Some (pos 8)) ∷ []) ∷ []
open_followed = refl

open_ended : all_rows_now (fed itself (Input 0 (Value (pos 0) (pos 7)) ∷ Input 0 (NoValue (pos 3)) ∷ [])) ≡ (snap 0 3 (Some (pos 7)) ∷ []) ∷ []
open_ended = refl

-- at rest an open row goes on beyond all times of queries, or ends at `T` if that is the watermark
abbrev half_open : List Event
half_open = row 0 3 7 ∷ Input 0 (Value (pos 3) (pos 8)) ∷ up_to 5 ∷ []

rest_rows : all_resting (fed itself half_open) ≡ (snap 0 3 (Some (pos 7)) ∷ record { start = pos 3; end = WIDE; value = Some (pos 8) } ∷ []) ∷ []
rest_rows = refl

rest_last : all_resting (fed itself (Input 0 (Value (pos 3) (pos 8)) ∷ Input 0 (KnownUpTo T) ∷ [])) ≡ (record { start = pos 3; end = T; value = Some (pos 8) } ∷ []) ∷ []
rest_last = refl

-- of the whole output on these rows, what ends at the horizon or below it is printed, and what comes next has begun
rest_whole : whole itself (fed itself half_open) ≡ snap 0 3 (Some (pos 7)) ∷ snap 3 10 (Some (pos 8)) ∷ []
rest_whole = refl

rest_printed : printed itself (fed itself half_open) ≡ snap 0 3 (Some (pos 7)) ∷ []
rest_printed = refl

rest_ended : ended_by (pos 5) (whole itself (fed itself half_open)) ≡ snap 0 3 (Some (pos 7)) ∷ []
rest_ended = refl

rest_begun : begun itself (fed itself half_open) ≡ Some (record { start = pos 3; value = Some (pos 8) })
rest_begun = refl

rest_next : begun_next (pos 5) (drop 1 (whole itself (fed itself half_open))) ≡ Some (record { start = pos 3; value = Some (pos 8) })
rest_next = refl

-- the rules, in order, and what breaks them
late_rule : event_fault (fed itself (up_to 5 ∷ [])) (row 4 4 1) ≡ Some Late
late_rule = refl

tick_rule : event_fault (fed itself (up_to 5 ∷ [])) (row 5 5 1) ≡ Some NoTick
tick_rule = refl

last_rule : event_fault (fed itself (up_to 5 ∷ [])) (Input 0 (Value T (pos 1))) ≡ Some NoTick
last_rule = refl

range_rule : event_fault (fed itself (up_to 5 ∷ [])) (Input 0 (Row (pos 0) (pos 5000000000000000000) None)) ≡ Some OutOfRange
range_rule = refl

finished_rule : event_fault (fed itself (Finish ∷ [])) (row 4 4 1) ≡ Some Finished
finished_rule = refl

joined_rule : event_fault (fed itself (Input 0 (Value (pos 0) (pos 7)) ∷ up_to 5 ∷ [])) (row 0 4 7) ≡ Some Late
joined_rule = refl

-- `emit x[t+2] over (0, 10]`: earlier by the offset
abbrev ahead : CoreParts
ahead = query (defined (read (pos 2)) 1 (between 0 10) ∷ [])

ahead_horizon : horizon ahead (fed ahead (up_to 5 ∷ [])) ≡ pos 3
ahead_horizon = refl

ahead_without : cell_after ahead (up_to 5 ∷ []) [] 4 ≡ None
ahead_without = refl

ahead_with : cell_after ahead (up_to 5 ∷ []) (row 5 6 1 ∷ []) 4 ≡ Some (pos 1)
ahead_with = refl

-- `emit x[t-3] over (0, 10]`: a reading of the past extends it
abbrev behind : CoreParts
behind = query (defined (read (negsuc 2)) 1 (between 0 10) ∷ [])

behind_horizon : horizon behind (fed behind (up_to 5 ∷ [])) ≡ pos 8
behind_horizon = refl

behind_without : cell_after behind (up_to 5 ∷ []) [] 9 ≡ None
behind_without = refl

behind_with : cell_after behind (up_to 5 ∷ []) (row 5 6 1 ∷ []) 9 ≡ Some (pos 1)
behind_with = refl

-- `emit sum(x[t-2:t+1]) over (0, 10]`: a window's last tick counts
abbrev window : CoreParts
window = query (defined (Leaf (Reduce Sum 0 (negsuc 1) (pos 1))) 1 (between 0 10) ∷ [])

window_horizon : horizon window (fed window (up_to 5 ∷ [])) ≡ pos 4
window_horizon = refl

window_without : cell_after window (up_to 5 ∷ []) [] 5 ≡ None
window_without = refl

window_with : cell_after window (up_to 5 ∷ []) (row 5 6 1 ∷ []) 5 ≡ Some (pos 1)
window_with = refl

-- its sure marks beyond the horizon: where the row that ends at the watermark leaves its last tick, and where it leaves its first
window_last : is_sure window (fed window (row 4 5 1 ∷ [])) 1 (pos 5) ≡ true
window_last = refl

window_first : is_sure window (fed window (row 4 5 1 ∷ [])) 1 (pos 7) ≡ true
window_first = refl

window_unsure : is_sure window (fed window (row 4 5 1 ∷ [])) 1 (pos 8) ≡ false
window_unsure = refl

-- `emit ifnull(x, y) over (0, 10]`: the earliest of what is read
abbrev both : CoreParts
both = query_of_two (defined (Two IfNull (read (pos 0)) (Leaf (Read 1 (pos 0)))) 1 (between 0 10))

abbrev both_events : List Event
both_events = up_to 5 ∷ Input 1 (KnownUpTo (pos 3)) ∷ []

both_horizon : horizon both (fed both both_events) ≡ pos 3
both_horizon = refl

both_without : cell_after both both_events [] 4 ≡ None
both_without = refl

both_with : cell_after both both_events (Input 1 (Row (pos 3) (pos 4) (Some (pos 1))) ∷ []) 4 ≡ Some (pos 1)
both_with = refl

-- `emit x over (0, 10]` of two inputs: the one that isn't read doesn't hold it back
abbrev alone : CoreParts
alone = query_of_two (defined (read (pos 0)) 1 (between 0 10))

alone_horizon : horizon alone (fed alone (up_to 5 ∷ [])) ≡ pos 5
alone_horizon = refl

-- `emit 7 over (0, 10]`: what reads nothing is known for ever
abbrev seven : CoreParts
seven = query (defined (Leaf (Const (pos 7))) 1 (between 0 10) ∷ [])

seven_printed : printed seven (fed seven []) ≡ snap 0 10 (Some (pos 7)) ∷ []
seven_printed = refl

-- `emit x over (0, 10] every 4`: up to the last grid point
abbrev every_four : CoreParts
every_four = query (defined (read (pos 0)) 4 (between 0 10) ∷ [])

grid_horizon_is : horizon every_four (fed every_four (up_to 7 ∷ [])) ≡ pos 4
grid_horizon_is = refl

grid_without : cell_after every_four (up_to 7 ∷ []) [] 5 ≡ None
grid_without = refl

grid_with : cell_after every_four (up_to 7 ∷ []) (row 7 8 1 ∷ []) 5 ≡ Some (pos 1)
grid_with = refl

grid_point : horizon every_four (fed every_four (up_to 8 ∷ [])) ≡ pos 8
grid_point = refl

-- a mark in the period after the last grid point is sure already, and begins a snapshot after it
grid_sure : is_sure every_four (fed every_four (row 0 6 1 ∷ [])) 1 (pos 5) ≡ true
grid_sure = refl

grid_printed : printed every_four (fed every_four (row 0 6 1 ∷ [])) ≡ snap 0 4 (Some (pos 1)) ∷ []
grid_printed = refl

-- `let y = x over (0, 3]; emit y over (0, 10]`: for ever from the end of the span on
abbrev spanned : ℕ → ℕ → CoreParts
spanned start end = query (defined (read (pos 0)) 1 (between start end) ∷ defined (Leaf (Read 1 (pos 0))) 1 (between 0 10) ∷ [])

span_ended : horizon (spanned 0 3) (fed (spanned 0 3) (up_to 3 ∷ [])) ≡ pos 10
span_ended = refl

span_horizon : horizon (spanned 0 3) (fed (spanned 0 3) (up_to 2 ∷ [])) ≡ pos 2
span_horizon = refl

span_without : cell_after (spanned 0 3) (up_to 2 ∷ []) [] 3 ≡ None
span_without = refl

span_with : cell_after (spanned 0 3) (up_to 2 ∷ []) (row 2 3 1 ∷ []) 3 ≡ Some (pos 1)
span_with = refl

-- the mark after its end is sure
span_sure : is_sure (spanned 0 3) (fed (spanned 0 3) (up_to 2 ∷ [])) 1 (pos 4) ≡ true
span_sure = refl

-- `let y = x over (4, 8]; emit y over (0, 10]`: at least up to its start, and the mark after it is sure
span_started : horizon (spanned 4 8) (fed (spanned 4 8) []) ≡ pos 4
span_started = refl

start_without : cell_after (spanned 4 8) [] [] 5 ≡ None
start_without = refl

start_with : cell_after (spanned 4 8) [] (row 4 5 1 ∷ []) 5 ≡ Some (pos 1)
start_with = refl

start_printed : printed (spanned 4 8) (fed (spanned 4 8) []) ≡ snap 0 4 None ∷ []
start_printed = refl

-- `let average = avg(temperature[t-600:t]) every 600; emit average when average > 10 over (0, 86400] every 600`: at a watermark which is a
-- grid point, all up to it is known, and sessions have decided much less
abbrev alarm : CoreParts
alarm = query (
    defined (Leaf (Reduce Avg 0 (negsuc 599) (pos 0))) 600 None
    ∷ defined (Two When (Leaf (Read 1 (pos 0))) (Two Gt (Leaf (Read 1 (pos 0))) (Leaf (Const (pos 10))))) 600 (between 0 86400)
    ∷ [])

alarm_horizon : horizon alarm (fed alarm (up_to 39000 ∷ [])) ≡ pos 39000
alarm_horizon = refl

alarm_decided : decided (frame_of alarm) (pos 39000) ≡ pos 37802
alarm_decided = refl
