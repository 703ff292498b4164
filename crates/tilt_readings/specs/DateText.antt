-- Dates in UTC as texts.
use Rattle.std.specs.Prelude.{◌≡◌, ℕ, zero, suc, ◌-◌, ◌/◌, ◌^◌, List, [], ◌∷◌, ◌++◌, ℤ, pos, neg_ℤ, ◌≤ℤ◌, ◌<ℤ◌, unsigned_abs}
use Rattle.jiff_core.specs.declared.civil.date.Date.{Date as Day}
use Rattle.jiff_core.specs.declared.civil.datetime.DateTime.{DateTime}
use Rattle.jiff_core.specs.declared.civil.time.Time.{Time}
use Rattle.jiff_core.specs.DateTime.{civil_nanos}
use Rattle.tilt_readings.specs.Written.{last_digits}

-- a day, as 2026-03-01
abbrev pub day_text : Day → List ℕ
day_text day = last_digits 4 (unsigned_abs day.year) ++ 45 ∷ last_digits 2 day.month ++ 45 ∷ last_digits 2 day.day

-- a time of day, as T08:00:00
abbrev pub time_text : Time → List ℕ
time_text time = 84 ∷ last_digits 2 time.hour ++ 58 ∷ last_digits 2 time.minute ++ 58 ∷ last_digits 2 time.second

-- the fraction of a second with so many decimals; further ones are left out
abbrev pub fraction_text : ℕ → ℕ → List ℕ
fraction_text zero nanoseconds = []
fraction_text (suc n) nanoseconds = 46 ∷ last_digits (suc n) (nanoseconds / 10 ^ (9 - suc n))

-- a date and a time of day in UTC, as 2026-03-01T08:00:00.250Z
abbrev pub date_text : ℕ → DateTime → List ℕ
date_text decimals at = day_text at.date ++ time_text at.time ++ fraction_text decimals at.time.subsec_nanosecond ++ 90 ∷ []

-- a moment from 0001-01-01 to 9999-12-31 in UTC
abbrev pub IsInYears : ℤ → Type 0
IsInYears moment = (neg_ℤ (pos 62_135_596_800_000_000_000) ≤ℤ moment) × (moment <ℤ pos 253_402_300_800_000_000_000)

-- a text is that of the date and the time of day in UTC at a moment
abbrev pub IsDateText : ℕ → ℤ → List ℕ → Type 0
IsDateText decimals moment text = (at : DateTime) × (civil_nanos at ≡ moment) × (text ≡ date_text decimals at)
