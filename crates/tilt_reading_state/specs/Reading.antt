-- How what is kept of a text of readings is read, piece by piece. What is read is defined by `Spelling` and `Valid` alone. The words of
-- fields are passed over here, and in the end the bytes have to begin with the spelling of what was read.
use Rattle.std.specs.Prelude.{◌≡◌, ℕ, ℤ, if◌then◌else◌, List, [], ◌∷◌, ◌++◌, Option, Some, None, Result, Ok, Err, codes}
use Rattle.std.specs.Str.{bytes_eq}
use Rattle.tilt_checkpoint.specs.Reading.{Read, count_at, times}
use Rattle.tilt_conventions.specs.Steps.{Kept}
use Rattle.tilt_conventions.specs.declared.turn.Reading.{Reading}
use Rattle.tilt_live_state.specs.Reading.{count_field, edge_at, field_at, flag_at, given_at}
use Rattle.tilt_reading_feed.specs.Kept.{BareKept}
use Rattle.tilt_reading_lines.specs.Rules.{Layout, Values, Named, OfInputs}
use Rattle.tilt_reading_state.specs.declared.fault.KeptFault.{KeptFault}
use Rattle.tilt_reading_state.specs.declared.fault.KeptFault.TheVariants.{NotKept, OutOfMemory}
use Rattle.tilt_reading_text.specs.Kept.{BareText}
use Rattle.tilt_text.specs.Cut.{until_at}
use Rattle.tilt_text.specs.Step.{◌>>=◌}

-- one more
abbrev pub with_one : {A : Type 0} → (List ℕ → Read A) → List A × List ℕ → Read (List A)
with_one one so_far = one so_far.1 >>= λ item. Some (so_far.0 ++ item.0 ∷ [], item.1)

-- so many, one after another
abbrev pub many_at : {A : Type 0} → (List ℕ → Read A) → ℕ → List ℕ → Read (List A)
many_at one count bytes = times (with_one one) count ([], bytes)

-- where names and values are, after the word
abbrev pub named_at : List ℕ → Read Values
named_at bytes = do
  name ← count_at 32 bytes
  value ← count_field 10 name.1
  Some (Named name.0 value.0, value.1)

-- where the values of each input are, after the word
abbrev pub places_at : List ℕ → Read Values
places_at bytes = do
  count ← count_at 10 bytes
  places ← many_at (count_field 10) count.0 count.1
  Some (OfInputs places.0, places.1)

-- where values are, by the word
abbrev pub values_by : List ℕ → List ℕ → Read Values
values_by word bytes = if bytes_eq word (codes "named") then named_at bytes else places_at bytes

abbrev pub values_at : List ℕ → Read Values
values_at bytes = until_at 32 bytes >>= λ word. values_by word.0 word.1

-- the columns, after the word
abbrev pub layout_at : List ℕ → Read Layout
layout_at bytes = do
  count ← count_at 32 bytes
  time ← count_field 32 count.1
  values ← values_at time.1
  Some (record { count = count.0; time = time.0; values = values.0 }, values.1)

-- the columns, if the word isn't that for none
abbrev pub header_by : List ℕ → List ℕ → Read (Option Layout)
header_by word bytes =
    if bytes_eq word (codes "no") then (until_at 10 bytes >>= λ line. Some (None, line.1))
    else (layout_at bytes >>= λ layout. Some (Some layout.0, layout.1))

abbrev pub header_at : List ℕ → Read (Option Layout)
header_at bytes = until_at 32 bytes >>= λ word. header_by word.0 word.1

-- a reading, if it has a tick
abbrev pub latest_of : Option ℤ → Option ℤ → Option Reading
latest_of None value = None
latest_of (Some tick) value = Some (record { tick = tick; value = value })

abbrev pub latest_at : List ℕ → Read (Option Reading)
latest_at bytes = do
  tick ← field_at 32 bytes
  value ← field_at 32 tick.1
  Some (latest_of tick.0 value.0, value.1)

-- what is kept of an input
abbrev pub input_at : List ℕ → Read Kept
input_at bytes = do
  edge ← edge_at bytes
  mark ← given_at 32 edge.1
  latest ← latest_at mark.1
  skipped ← count_field 10 latest.1
  Some (record { edge = edge.0; mark = mark.0; latest = latest.0; skipped = skipped.0 }, skipped.1)

-- what is kept of a feed
abbrev pub readings_at : List ℕ → Read BareKept
readings_at bytes = do
  finished ← flag_at bytes
  count ← count_field 10 finished.1
  inputs ← many_at input_at count.0 count.1
  Some (record { inputs = inputs.0; finished = finished.0 }, inputs.1)

-- what is kept of a text
abbrev pub kept_at : List ℕ → Read BareText
kept_at bytes = do
  layout ← header_at bytes
  readings ← readings_at layout.1
  Some (record { layout = layout.0; readings = readings.0 }, readings.1)

-- that nothing was read, or memory ran out
abbrev pub IsBad : {A : Type 0} → Option A → KeptFault → Type 0
IsBad read NotKept = read ≡ None
IsBad read OutOfMemory = Unit {0}

-- that the result, seen so, was read, or why not
abbrev pub Gives : {A B : Type 0} → Option B → (A → B) → Result A KeptFault → Type 0
Gives read seen (Ok x) = read ≡ Some (seen x)
Gives read seen (Err fault) = IsBad read fault
