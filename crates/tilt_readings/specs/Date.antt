-- Dates with a time of day and an offset, as `2026-03-01T08:00:00.25+01:00`.
use Rattle.std.specs.Prelude.{ℕ, suc, ◌+◌, ◌-◌, ◌*◌, ◌==◌, nat_le, nat_lt, Bool, true, false, ◌||◌, ◌&&◌, if◌then◌else◌, List, [], ◌∷◌, length, take, drop, slice_index, slice_range}
use Rattle.std.specs.Prelude.{codes}
use Rattle.std.specs.Prelude.{Some, Result, Ok, Err, ℤ, pos, neg_ℤ, ◌+ℤ◌, ◌-ℤ◌, ◌*ℤ◌, int_le, int_lt}
use Rattle.std.specs.Char.{is_ascii_digit}
use Rattle.std.specs.Str.{all_ascii_digits}
use Rattle.std.specs.Str.Parse.{digits_value}
use Rattle.jiff_core.specs.Calendar.{days_from_civil, days_in_month}
use Rattle.tilt_readings.specs.Decimal.{Decimal, signed, times}
use Rattle.tilt_readings.specs.declared.fault.DateFault.{DateFault}
use Rattle.tilt_readings.specs.declared.fault.DecimalFault.{DecimalFault}
use Rattle.tilt_readings.specs.declared.fault.DateFault.TheVariants.{NotDate, NoSuchTime, TooFine, OutOfYears}

-- whether a byte is one that a byte of a shape stands for. That is 0 for a digit, T for a T or a blank, + for a sign, Z for a Z or z, and
-- otherwise itself
abbrev pub is_shaped : ℕ → ℕ → Bool
is_shaped shape byte =
    if shape == 48 then is_ascii_digit byte
    else if shape == 84 then (byte == 84) || (byte == 32)
    else if shape == 43 then (byte == 43) || (byte == 45)
    else if shape == 90 then (byte == 90) || (byte == 122)
    else byte == shape

-- whether a text has a shape, byte by byte
abbrev pub has_shape : List ℕ → List ℕ → Bool
has_shape [] [] = true
has_shape [] (_ ∷ _) = false
has_shape (_ ∷ _) [] = false
has_shape (shape ∷ shapes) (byte ∷ bytes) = is_shaped shape byte && has_shape shapes bytes

-- the number that the two digits at a place spell
abbrev pub pair_at : List ℕ → ℕ → ℕ
pair_at text at = (slice_index text at - 48) * 10 + (slice_index text (suc at) - 48)

-- how long the zone at the end of a text is: a Z, or an offset such as +01:00
abbrev pub zone_length : List ℕ → ℕ
zone_length text = let last = slice_index text (length text - 1) in if (last == 90) || (last == 122) then 1 else 6

-- the zone, and what is between the seconds and it
abbrev pub zone_of : List ℕ → List ℕ
zone_of text = drop (length text - zone_length text) text

abbrev pub fraction_of : List ℕ → List ℕ
fraction_of text = slice_range text 19 (length text - zone_length text)

-- no fraction, or a mark and one or more digits
abbrev pub is_fraction : List ℕ → Bool
is_fraction [] = true
is_fraction (mark ∷ digits) = ((mark == 46) || (mark == 44)) && nat_lt 0 (length digits) && all_ascii_digits digits

-- the decimals of a second, from the digits after the mark
abbrev pub fraction_spelled : List ℕ → Decimal
fraction_spelled fraction = record { digits = digits_value 10 (drop 1 fraction); decimals = length (drop 1 fraction) }

-- a Z alone, or an offset
abbrev pub is_utc : List ℕ → Bool
is_utc zone = nat_lt (length zone) 6

abbrev pub is_zone : List ℕ → Bool
is_zone zone = if is_utc zone then has_shape (codes "Z") zone else has_shape (codes "+00:00") zone

-- whether a text has the form of a date, a time of day, a fraction if there is one, and a zone
abbrev pub is_date : List ℕ → Bool
is_date text =
    nat_le (19 + zone_length text) (length text) && has_shape (codes "0000-00-00T00:00:00") (take 19 text)
    && is_fraction (fraction_of text) && is_zone (zone_of text)

abbrev pub year_of : List ℕ → ℕ
year_of text = pair_at text 0 * 100 + pair_at text 2

-- whether the calendar has a day, from the year 1 on
abbrev pub has_day : ℕ → ℕ → ℕ → Bool
has_day year month day = nat_le 1 year && nat_le 1 month && nat_le month 12 && nat_le 1 day && nat_le day (days_in_month (pos year) month)

-- whether a clock shows the time of day; it never shows a second 60
abbrev pub has_time : List ℕ → Bool
has_time text = nat_lt (pair_at text 11) 24 && nat_lt (pair_at text 14) 60 && nat_lt (pair_at text 17) 60

-- the seconds since midnight
abbrev pub time_of : List ℕ → ℕ
time_of text = pair_at text 11 * 3600 + pair_at text 14 * 60 + pair_at text 17

-- whether a zone has hours and minutes of a clock
abbrev pub has_offset : List ℕ → Bool
has_offset zone = is_utc zone || (nat_lt (pair_at zone 1) 24 && nat_lt (pair_at zone 4) 60)

-- how far a zone is ahead of UTC, in seconds
abbrev pub offset_of : List ℕ → ℤ
offset_of zone = if is_utc zone then pos 0 else signed (slice_index zone 0 == 45) (pair_at zone 1 * 3600 + pair_at zone 4 * 60)

-- the seconds since 1970 on the clocks, without the fraction
abbrev pub local_seconds : List ℕ → ℤ
local_seconds text = days_from_civil (pos (year_of text)) (pair_at text 5) (pair_at text 8) *ℤ pos 86400 +ℤ pos (time_of text)

-- the seconds since 1970 in UTC
abbrev pub seconds_of : List ℕ → ℤ
seconds_of text = local_seconds text -ℤ offset_of (zone_of text)

-- from 0001-01-01 to 9999-12-31 in UTC
abbrev pub is_in_years : ℤ → Bool
is_in_years seconds = int_le (neg_ℤ (pos 62_135_596_800)) seconds && int_lt seconds (pos 253_402_300_800)

-- the moment of these seconds and a fraction of whole nanoseconds
abbrev pub moment_of : ℤ → Result ℤ DecimalFault → Result ℤ DateFault
moment_of seconds (Err _) = Err TooFine
moment_of seconds (Ok nanoseconds) = if is_in_years seconds then Ok (seconds *ℤ pos 1_000_000_000 +ℤ nanoseconds) else Err OutOfYears

-- the nanoseconds of a fraction, if they are whole
abbrev pub nanoseconds_of : List ℕ → Result ℤ DecimalFault
nanoseconds_of fraction = times false 1_000_000_000 (Some (fraction_spelled fraction))

-- the moment that a text is, in nanoseconds since 1970, or the first cause why it is none
abbrev pub date_read : List ℕ → Result ℤ DateFault
date_read text =
    if is_date text then
    (if has_day (year_of text) (pair_at text 5) (pair_at text 8) && (has_time text && has_offset (zone_of text))
    then moment_of (seconds_of text) (nanoseconds_of (fraction_of text)) else Err NoSuchTime)
    else Err NotDate
