-- How the state of a live run is read, piece by piece. What is read is defined by `Spelling` and `Valid` alone. The words of fields are
-- passed over here, and in the end the bytes have to be the spelling of what was read.
use Rattle.std.specs.Prelude.{◌≡◌, ℕ, ℤ, neg_ℤ, int_lt, int_le, Bool, true, ◌==◌, ◌&&◌, ◌||◌, is_some, if◌then◌else◌, List, [], ◌∷◌, ◌++◌}
use Rattle.std.specs.Prelude.{Option, Some, None, Result, Ok, Err, codes, length}
use Rattle.std.specs.List.{list_all}
use Rattle.std.specs.Str.{bytes_eq}
use Rattle.tilt_base.specs.declared.limits.TheConstants.{T}
use Rattle.tilt_checkpoint.specs.Reading.{Read, follows, maybe_at, natural, number_at, query_at, row_at, times}
use Rattle.tilt_core.specs.Core.{CoreParts}
use Rattle.tilt_feed.specs.Events.{is_time}
use Rattle.tilt_feed.specs.Feed.{closed_at}
use Rattle.tilt_feed.specs.Horizon.{output_domain}
use Rattle.tilt_feed.specs.declared.edge.Edge.{Edge}
use Rattle.tilt_feed.specs.declared.open_row.OpenRow.{OpenRow}
use Rattle.tilt_feed.specs.declared.update.Update.{Update}
use Rattle.tilt_feed.specs.declared.update.Update.TheVariants.{Row, Value, NoValue, KnownUpTo}
use Rattle.tilt_live_state.specs.State.{InputParts, LiveStateParts}
use Rattle.tilt_live_state.specs.declared.fault.StateFault.{StateFault}
use Rattle.tilt_live_state.specs.declared.fault.StateFault.TheVariants.{NotAState, OutOfMemory}
use Rattle.tilt_live_state.specs.declared.head.Head.{Head}
use Rattle.tilt_live_state.specs.declared.progress.Progress.{Progress}
use Rattle.tilt_stream.specs.Snap.{Snapshot, last_end}
use Rattle.tilt_text.specs.Cut.{until_at}
use Rattle.tilt_text.specs.Step.{◌>>=◌}
use Rattle.tilt_watermarks.specs.Held.{fits}
use Rattle.tilt_watermarks.specs.declared.options.Options.{Options}

-- the printed query, after the first line
abbrev pub heading_at : List ℕ → Read (ℕ × List ℕ)
heading_at bytes = until_at 10 bytes >>= λ line. query_at line.1

-- the number of a field that ends with a mark, if it isn't `none`
abbrev pub field_at : ℕ → List ℕ → Read (Option ℤ)
field_at mark bytes = until_at 32 bytes >>= λ word. maybe_at (codes "none") mark word.1

-- a number that is there
abbrev pub given_at : ℕ → List ℕ → Read ℤ
given_at mark bytes = do
  found ← field_at mark bytes
  number ← found.0
  Some (number, found.1)

-- a number that is there and isn't negative
abbrev pub count_field : ℕ → List ℕ → Read ℕ
count_field mark bytes = do
  found ← given_at mark bytes
  count ← natural found.0
  Some (count, found.1)

-- ticks, if they are there
abbrev pub ticks_of : Option ℤ → Option (Option ℕ)
ticks_of None = Some None
ticks_of (Some number) = natural number >>= λ ticks. Some (Some ticks)

-- the ticks of a line
abbrev pub ticks_at : List ℕ → Read (Option ℕ)
ticks_at bytes = do
  found ← field_at 10 bytes
  ticks ← ticks_of found.0
  Some (ticks, found.1)

-- whether a line has `yes`
abbrev pub flag_at : List ℕ → Read Bool
flag_at bytes = do
  word ← until_at 32 bytes
  flag ← until_at 10 word.1
  Some (bytes_eq flag.0 (codes "yes"), flag.1)

-- the options of the watermarks
abbrev pub options_at : List ℕ → Read Options
options_at bytes = do
  lateness ← ticks_at bytes
  idle ← ticks_at lateness.1
  ahead ← ticks_at idle.1
  Some (record { lateness = lateness.0; idle = idle.0; ahead = ahead.0 }, ahead.1)

-- three counts
abbrev pub counts_at : List ℕ → Read (ℕ × ℕ × ℕ)
counts_at bytes = do
  taken ← count_field 10 bytes
  lines ← count_field 10 taken.1
  written ← count_field 10 lines.1
  Some ((taken.0, lines.0, written.0), written.1)

-- where the output goes on, what was shown, and whether the feed is finished
abbrev pub place_at : List ℕ → Read (ℤ × Option ℤ × Bool)
place_at bytes = do
  from ← given_at 10 bytes
  shown ← field_at 10 from.1
  finished ← flag_at shown.1
  Some ((from.0, shown.0, finished.0), finished.1)

-- two numbers, or none
abbrev pub marks_at : List ℕ → Read (Option ℤ × Option ℤ)
marks_at bytes = do
  greatest ← field_at 10 bytes
  latest ← field_at 10 greatest.1
  Some ((greatest.0, latest.0), latest.1)

-- how far a run is
abbrev pub progress_of : Options → ℕ × ℕ × ℕ → ℤ × Option ℤ × Bool → Option ℤ × Option ℤ → Progress
progress_of options counts place marks = record {
  options = options;
  bytes = counts.0;
  lines = counts.1;
  written = counts.2;
  from = place.0;
  shown = place.1;
  finished = place.2;
  greatest = marks.0;
  latest = marks.1;
}

abbrev pub progress_at : List ℕ → Read Progress
progress_at bytes = do
  options ← options_at bytes
  counts ← counts_at options.1
  place ← place_at counts.1
  marks ← marks_at place.1
  Some (progress_of options.0 counts.0 place.0 marks.0, marks.1)

-- an open row, if it has a start and a value
abbrev pub open_row_of : Option ℤ → Option ℤ → Option OpenRow
open_row_of None value = None
open_row_of (Some start) None = None
open_row_of (Some start) (Some value) = Some (record { start = start; value = value })

-- an edge
abbrev pub edge_at : List ℕ → Read Edge
edge_at bytes = do
  watermark ← given_at 32 bytes
  start ← field_at 32 watermark.1
  value ← field_at 32 start.1
  Some (record { open_row = open_row_of start.0 value.0; watermark = watermark.0 }, value.1)

-- an edge, and how many rows and updates follow it
abbrev pub head_at : List ℕ → Read Head
head_at bytes = do
  edge ← edge_at bytes
  rows ← count_field 32 edge.1
  held ← count_field 10 rows.1
  Some (record { edge = edge.0; rows = rows.0; held = held.0 }, held.1)

-- whether a row may follow others
abbrev pub may_follow : List Snapshot → Snapshot → Bool
may_follow rows row = int_le (neg_ℤ T) row.start && follows (last_end rows) row.start && int_le row.end T

-- one row more
abbrev pub with_row : List Snapshot × List ℕ → Read (List Snapshot)
with_row so_far = do
  row ← row_at so_far.1
  if may_follow so_far.0 row.0 then Some (so_far.0 ++ row.0 ∷ [], row.1) else None

-- what is after the word of an update
abbrev pub row_update : List ℕ → Read Update
row_update bytes = do
  start ← number_at 44 bytes
  end ← number_at 44 start.1
  value ← maybe_at [] 10 end.1
  Some (Row start.0 end.0 value.0, value.1)

abbrev pub value_update : List ℕ → Read Update
value_update bytes = do
  start ← number_at 44 bytes
  value ← number_at 10 start.1
  Some (Value start.0 value.0, value.1)

abbrev pub null_update : List ℕ → Read Update
null_update bytes = number_at 10 bytes >>= λ start. Some (NoValue start.0, start.1)

abbrev pub known_update : List ℕ → Read Update
known_update bytes = number_at 10 bytes >>= λ watermark. Some (KnownUpTo watermark.0, watermark.1)

-- an update, by its word
abbrev pub update_of : List ℕ → List ℕ → Read Update
update_of word bytes =
    if bytes_eq word (codes "row") then row_update bytes
    else if bytes_eq word (codes "value") then value_update bytes
    else if bytes_eq word (codes "null") then null_update bytes
    else known_update bytes

abbrev pub update_at : List ℕ → Read Update
update_at bytes = until_at 32 bytes >>= λ word. update_of word.0 word.1

-- one update more
abbrev pub with_update : List Update × List ℕ → Read (List Update)
with_update so_far = update_at so_far.1 >>= λ update. Some (so_far.0 ++ update.0 ∷ [], update.1)

-- what is kept of an input, after its head
abbrev pub input_behind : Head × List ℕ → Read InputParts
input_behind head = do
  rows ← times with_row head.0.rows ([], head.1)
  held ← times with_update head.0.held ([], rows.1)
  Some (record { rows = rows.0; edge = head.0.edge; held = held.0 }, held.1)

-- what is kept of an input
abbrev pub input_at : List ℕ → Read InputParts
input_at bytes = head_at bytes >>= input_behind

-- what is kept of one input more
abbrev pub with_input : List InputParts × List ℕ → Read (List InputParts)
with_input so_far = input_at so_far.1 >>= λ input. Some (so_far.0 ++ input.0 ∷ [], input.1)

-- what is after the query, of so many inputs; what is after that isn't read
abbrev pub run_at : ℕ → List ℕ → Option (Progress × List InputParts)
run_at inputs bytes = do
  progress ← progress_at bytes
  read ← times with_input inputs ([], progress.1)
  Some (progress.0, read.0)

-- whether rows are in order between two ticks
abbrev pub are_in_order : ℤ → ℤ → List Snapshot → Bool
are_in_order from limit [] = true
are_in_order from limit (r ∷ rows) =
    int_le from r.start && int_lt r.start r.end && int_le r.end limit && are_in_order r.end limit rows

-- whether what is known of an input is in order
abbrev pub is_in_order : List Snapshot → Edge → Bool
is_in_order rows edge =
    is_time edge.watermark && are_in_order (neg_ℤ T) edge.watermark (rows ++ closed_at edge.watermark edge.open_row)

-- whether an edge may be after rows that end there
abbrev pub edge_follows : Option ℤ → ℤ → Option OpenRow → Bool
edge_follows end watermark None = follows end watermark
edge_follows end watermark (Some row) = int_le (neg_ℤ T) row.start && follows end row.start && int_lt row.start watermark

-- whether what is kept of an input is valid
abbrev pub is_input : Option ℕ → InputParts → Bool
is_input lateness input =
    is_in_order input.rows input.edge && fits input.edge.watermark input.held && (is_some lateness || length input.held == 0)

-- whether a state of a query with this core is valid
abbrev pub is_state_of : CoreParts → LiveStateParts → Bool
is_state_of core s =
    int_le (output_domain core).start s.progress.from && int_le s.progress.from (output_domain core).end
    && length s.inputs == length core.inputs && list_all (is_input s.progress.options.lateness) s.inputs

-- that nothing was read, or memory ran out
abbrev pub IsBad : {A : Type 0} → Option A → StateFault → Type 0
IsBad read NotAState = read ≡ None
IsBad read OutOfMemory = Unit {0}

-- that the result, seen so, was read, or why not
abbrev pub Gives : {A B : Type 0} → Option B → (A → B) → Result A StateFault → Type 0
Gives read seen (Ok x) = read ≡ Some (seen x)
Gives read seen (Err fault) = IsBad read fault
