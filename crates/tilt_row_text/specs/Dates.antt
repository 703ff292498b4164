-- The date and the time of day at a moment, in UTC (our own rule). Moments are nanoseconds since 1970.
use Rattle.std.specs.Prelude.{ℕ, zero, suc, ◌/◌, ◌%◌, nat_lt, Bool, ◌&&◌, if◌then◌else◌, List, [], ◌∷◌, ◌++◌}
use Rattle.std.specs.Prelude.{ℤ, pos, neg_ℤ, ◌+ℤ◌, int_le, int_lt, unsigned_abs}
use Rattle.jiff_core.specs.Calendar.{days_in_month}
use Rattle.tilt_readings.specs.DateText.{fraction_text}
use Rattle.tilt_readings.specs.Written.{last_digits}

-- a day of the calendar, from the year 1 on
pub record CalendarDay : Type 0 where
  pub year : ℕ
  pub month : ℕ
  pub day : ℕ

-- the day after it
abbrev pub next_day : CalendarDay → CalendarDay
next_day d =
    if nat_lt d.day (days_in_month (pos d.year) d.month) then record { year = d.year; month = d.month; day = suc d.day }
    else if nat_lt d.month 12 then record { year = d.year; month = suc d.month; day = 1 }
    else record { year = suc d.year; month = 1; day = 1 }

-- the day that comes so many days after 1 January of the year 1
unfoldable pub day_after : ℕ → CalendarDay
day_after zero = record { year = 1; month = 1; day = 1 }
day_after (suc n) = next_day (day_after n)

-- a day, as 2026-03-01
abbrev pub calendar_text : CalendarDay → List ℕ
calendar_text d = last_digits 4 d.year ++ 45 ∷ last_digits 2 d.month ++ 45 ∷ last_digits 2 d.day

-- the time of day so many nanoseconds after midnight, as T08:00:00
abbrev pub clock_text : ℕ → List ℕ
clock_text n =
    84 ∷ last_digits 2 (n / 3_600_000_000_000) ++ 58 ∷ last_digits 2 (n / 60_000_000_000 % 60)
    ++ 58 ∷ last_digits 2 (n / 1_000_000_000 % 60)

-- the date and the time of day so many days and nanoseconds after the beginning of the year 1, with so many decimals of a second
abbrev pub text_after : ℕ → ℕ → ℕ → List ℕ
text_after decimals days n =
    calendar_text (day_after days) ++ clock_text n ++ fraction_text decimals (n % 1_000_000_000) ++ 90 ∷ []

-- the same of nanoseconds alone
abbrev pub text_at : ℕ → ℕ → List ℕ
text_at decimals n = text_after decimals (n / 86_400_000_000_000) (n % 86_400_000_000_000)

-- the date and the time of day at a moment in the years 1 to 9999, as 2026-03-01T08:00:00.250Z
abbrev pub moment_text : ℕ → ℤ → List ℕ
moment_text decimals moment = text_at decimals (unsigned_abs (moment +ℤ pos 62_135_596_800_000_000_000))

-- whether a moment is in these years
abbrev pub is_in_years : ℤ → Bool
is_in_years moment =
    int_le (neg_ℤ (pos 62_135_596_800_000_000_000)) moment && int_lt moment (pos 253_402_300_800_000_000_000)
