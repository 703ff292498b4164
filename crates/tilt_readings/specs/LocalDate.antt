-- Dates with a time of day and without an offset, as `2026-03-01T08:00:00.25`.
use Rattle.std.specs.Prelude.{ℕ, nat_le, Bool, ◌&&◌, if◌then◌else◌, List, length, take, drop, codes, Result, Ok, Err, ℤ, unsigned_abs}
use Rattle.tilt_readings.specs.Date.{has_day, has_shape, has_time, is_fraction, local_seconds, nanoseconds_of, pair_at, year_of}
use Rattle.tilt_readings.specs.declared.fault.DateFault.{DateFault}
use Rattle.tilt_readings.specs.declared.fault.DateFault.TheVariants.{NotDate, NoSuchTime, TooFine}
use Rattle.tilt_readings.specs.declared.fault.DecimalFault.{DecimalFault}
use Rattle.tilt_readings.specs.declared.local_date.LocalDate.{LocalDate}

-- whether a text has the form of a date, a time of day, and a fraction if there is one
abbrev pub is_local_date : List ℕ → Bool
is_local_date text =
    nat_le 19 (length text) && has_shape (codes "0000-00-00T00:00:00") (take 19 text) && is_fraction (drop 19 text)

-- the local time of these seconds and a fraction of whole nanoseconds
abbrev pub local_date_of : ℤ → Result ℤ DecimalFault → Result LocalDate DateFault
local_date_of seconds (Err _) = Err TooFine
local_date_of seconds (Ok nanoseconds) = Ok (record { seconds = seconds; nanoseconds = unsigned_abs nanoseconds })

-- the local time that a text is, or the first cause why it is none
abbrev pub local_date_read : List ℕ → Result LocalDate DateFault
local_date_read text =
    if is_local_date text then
    (if has_day (year_of text) (pair_at text 5) (pair_at text 8) && has_time text
    then local_date_of (local_seconds text) (nanoseconds_of (drop 19 text)) else Err NoSuchTime)
    else Err NotDate
