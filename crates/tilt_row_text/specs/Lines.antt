-- The lines of snapshots in a style (our own rule). Each line ends in LF.
use Rattle.std.specs.Prelude.{ℕ, min, is_some, if◌then◌else◌, List, [], ◌∷◌, ◌++◌, ℤ, Option, None, Some, codes}
use Rattle.std.specs.Fmt.{signed_decimal}
use Rattle.tilt_readings.specs.Tick.{moment_at}
use Rattle.tilt_readings.specs.Written.{decimal_text}
use Rattle.tilt_row_text.specs.Dates.{is_in_years, moment_text}
use Rattle.tilt_row_text.specs.Decimals.{second_decimals}
use Rattle.tilt_row_text.specs.declared.style.RowStyle.{RowStyle}
use Rattle.tilt_row_text.specs.declared.times.Times.{Times}
use Rattle.tilt_row_text.specs.declared.times.Times.TheVariants.{Dates, Ticks}
use Rattle.tilt_stream.specs.Snap.{Snapshot}

-- the date at a moment that is the end of a tick; outside the years 1 to 9999 it is the tick
abbrev pub date_or_tick : ℕ → ℤ → ℤ → List ℕ
date_or_tick decimals moment tick = if is_in_years moment then moment_text decimals moment else signed_decimal tick

-- a time: a tick, or the date at its end
abbrev pub time_text : Times → ℤ → List ℕ
time_text Ticks tick = signed_decimal tick
time_text (Dates clock) tick = date_or_tick (second_decimals clock) (moment_at clock tick) tick

-- a value divided by a power of ten, with as many decimals, at most 19; and nothing for null
abbrev pub value_text : ℕ → Option ℤ → List ℕ
value_text decimals None = []
value_text decimals (Some value) = decimal_text (min decimals 19) value

-- the line `start,end,value`
abbrev pub row_line : RowStyle → Snapshot → List ℕ
row_line style s =
    time_text style.times s.start ++ codes "," ++ time_text style.times s.end ++ codes ","
    ++ value_text style.decimals s.value ++ codes "\n"

-- the lines of those that aren't null, in order
abbrev pub lines_in : RowStyle → List Snapshot → List ℕ
lines_in style [] = []
lines_in style (s ∷ ss) = if is_some s.value then row_line style s ++ lines_in style ss else lines_in style ss

-- the header line, and then the lines
abbrev pub text_in : RowStyle → List Snapshot → List ℕ
text_in style list = codes "start,end,value\n" ++ lines_in style list

-- the line `start,,value` of what has begun
abbrev pub begun_line : RowStyle → ℤ → ℤ → List ℕ
begun_line style start value =
    time_text style.times start ++ codes ",," ++ value_text style.decimals (Some value) ++ codes "\n"
