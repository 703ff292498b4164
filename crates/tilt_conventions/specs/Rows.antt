-- The rows that a list of readings means (our own rule).
use Rattle.std.specs.Prelude.{ℕ, ℤ, pos, ◌+ℤ◌, ◌-ℤ◌, Bool, false, if◌then◌else◌, int_lt, List, [], ◌∷◌, ◌++◌, Option, Some, None}
use Rattle.std.specs.Int.{int_max, int_min}
use Rattle.std.specs.Ordering.{int_eq}
use Rattle.tilt_conventions.specs.declared.options.Convention.{Convention}
use Rattle.tilt_conventions.specs.declared.options.Convention.TheVariants.{Hold, Event}
use Rattle.tilt_conventions.specs.declared.options.Ties.{Ties}
use Rattle.tilt_conventions.specs.declared.options.Ties.TheVariants.{First, Last, Refuse, Spread}
use Rattle.tilt_conventions.specs.declared.turn.Reading.{Reading}
use Rattle.tilt_stream.specs.Snap.{Snapshot}

-- whether a reading's tick is a given one, if one is given
abbrev pub is_at : Option ℤ → Reading → Bool
is_at None reading = false
is_at (Some tick) reading = int_eq tick reading.tick

-- the tick of the first one of readings, or what comes after them if there is none
abbrev pub next_tick : List Reading → Option ℤ → Option ℤ
next_tick [] after = after
next_tick (reading ∷ readings) after = Some reading.tick

-- the first reading of each tick: each one but those whose tick is that of the reading before
abbrev pub firsts : Option ℤ → List Reading → List Reading
firsts before [] = []
firsts before (reading ∷ readings) = (if is_at before reading then [] else reading ∷ []) ++ firsts (Some reading.tick) readings

-- the last reading of each tick: each one but those whose tick is that of the reading after
abbrev pub lasts : List Reading → Option ℤ → List Reading
lasts [] after = []
lasts (reading ∷ readings) after = (if is_at (next_tick readings after) reading then [] else reading ∷ []) ++ lasts readings after

-- a reading, moved to the tick after another one's if it isn't after that one
abbrev pub moved_past : Option ℤ → Reading → Reading
moved_past None reading = reading
moved_past (Some before) reading = record { tick = int_max reading.tick (before +ℤ pos 1); value = reading.value }

-- each reading on a tick of its own, after the tick of the one before
abbrev pub spread : Option ℤ → List Reading → List Reading
spread before [] = []
spread before (reading ∷ readings) = moved_past before reading ∷ spread (Some (moved_past before reading).tick) readings

-- the readings that count
abbrev pub counted : Ties → List Reading → List Reading
counted First readings = firsts None readings
counted Last readings = lasts readings None
counted Refuse readings = firsts None readings
counted Spread readings = spread None readings

-- for how many ticks a reading holds at most, if that is limited: an event has one tick
abbrev pub age_of : Convention → Option ℕ
age_of (Hold max_age) = max_age
age_of Event = Some 1

-- where the row of a reading starts: at the tick before its own, so that its own is the first one of the row
abbrev pub start_of : Reading → ℤ
start_of reading = reading.tick -ℤ pos 1

-- a tick, or so many ticks after a start if that comes first
abbrev pub end_by_age : Option ℕ → ℤ → ℤ → ℤ
end_by_age None start end = end
end_by_age (Some age) start end = int_min end (start +ℤ pos age)

-- a row with a value, if it has ticks
abbrev pub row_on : ℤ → ℤ → Option ℤ → List Snapshot
row_on start end None = []
row_on start end (Some value) = if int_lt start end then record { start = start; end = end; value = Some value } ∷ [] else []

-- the row of a reading that ends at a tick at the latest; a reading without a value has none
abbrev pub row_of : Option ℕ → Reading → ℤ → List Snapshot
row_of age reading end = row_on (start_of reading) (end_by_age age (start_of reading) end) reading.value

-- where the first one of readings starts, or a tick if there is none
abbrev pub next_start : List Reading → ℤ → ℤ
next_start [] cut = cut
next_start (reading ∷ readings) cut = start_of reading

-- the rows of readings up to a cut: each ends where the next one starts, the last one at the cut, and none is older than the age
abbrev pub rows_of : Option ℕ → List Reading → ℤ → List Snapshot
rows_of age [] cut = []
rows_of age (reading ∷ readings) cut = row_of age reading (next_start readings cut) ++ rows_of age readings cut
