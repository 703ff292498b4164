-- What holds at a tick, without rows: the value of the last reading up to it, unless that one is too old (our own rule).
use Rattle.std.specs.Prelude.{ℕ, ℤ, pos, ◌+ℤ◌, ◌<ℤ◌, ◌≤ℤ◌, if◌then◌else◌, int_le, int_lt, List, [], ◌∷◌, Option, Some, None, ⊤}
use Rattle.tilt_conventions.specs.Rows.{next_start, start_of}
use Rattle.tilt_conventions.specs.declared.turn.Reading.{Reading}

-- one of two readings: the second one, if there is one
abbrev pub later_one : Reading → Option Reading → Option Reading
later_one reading None = Some reading
later_one reading (Some later) = Some later

-- the last one of readings up to a tick
abbrev pub last_by : ℤ → List Reading → Option Reading
last_by tick [] = None
last_by tick (reading ∷ readings) = if int_le reading.tick tick then later_one reading (last_by tick readings) else None

-- what a reading says of a tick: its value, from its own tick on, for so many ticks as its age is limited to
abbrev pub value_at : Option ℕ → ℤ → Option Reading → Option ℤ
value_at age tick None = None
value_at None tick (Some reading) = reading.value
value_at (Some age) tick (Some reading) = if int_lt tick (reading.tick +ℤ pos age) then reading.value else None

-- a tick is after another one, if there is one
abbrev pub IsAfter : Option ℤ → ℤ → Type 0
IsAfter None tick = ⊤
IsAfter (Some before) tick = before <ℤ tick

-- readings on ticks of their own, one after another
abbrev pub AreAfter : Option ℤ → List Reading → Type 0
AreAfter before [] = ⊤
AreAfter before (reading ∷ readings) = IsAfter before reading.tick × AreAfter (Some reading.tick) readings

-- no reading reaches the age before the next one comes, or the cut
abbrev pub NeverAges : ℕ → List Reading → ℤ → Type 0
NeverAges age [] cut = ⊤
NeverAges age (reading ∷ readings) cut = (next_start readings cut ≤ℤ (start_of reading +ℤ pos age)) × NeverAges age readings cut
