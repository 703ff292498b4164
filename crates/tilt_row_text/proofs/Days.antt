-- The days of the calendar, counted from the year 1.
use Rattle.std.proofs.Common.{◌≡◌, ℕ, zero, suc, ◌+◌, ◌/◌, ◌%◌, ◌<◌, ◌≤◌, nat_lt, List, [], ◌∷◌, ◌++◌, inl, inr, arith}
use Rattle.std.proofs.Common.{refl, sym, ◌∙◌, ℤ, pos, ◌+ℤ◌, unsigned_abs}
use Rattle.std.proofs.lemmas.Bool.{cases_Bool, cases_order}
use Rattle.std.proofs.lemmas.Bool.Decides.{nat_tests}
use Rattle.std.proofs.lemmas.Int.{by_lt_z, ints}
use Rattle.jiff_core.proofs.CalendarLemmas.{day_count-day, day_count-last_of_year, day_count-lt_month, day_count-lt_year, day_count-next_month, day_count-next_year, days_from_civil-day_count, days_in_month_bounds}
use Rattle.jiff_core.proofs.DateTimeLemmas.{civil_nanos-parts, time_nanos_bound}
use Rattle.jiff_core.proofs.MarchLemmas.{day_count-early}
use Rattle.jiff_core.proofs.SignedLemmas.{signed_arith}
use Rattle.jiff_core.specs.Calendar.{IsCivilDate, IsYear, day_count, days_in_month}
use Rattle.jiff_core.specs.DateTime.{civil_nanos}
use Rattle.jiff_core.specs.Time.{time_nanos}
use Rattle.jiff_core.specs.declared.civil.date.Date.{Date}
use Rattle.jiff_core.specs.declared.civil.datetime.DateTime.{DateTime}
use Rattle.jiff_core.specs.declared.civil.time.Time.{Time}
use Rattle.tilt_readings.specs.DateText.{IsDateText, IsInYears, date_text, day_text, fraction_text, time_text}
use Rattle.tilt_row_text.specs.Dates.{CalendarDay, calendar_text, clock_text, day_after, moment_text, next_day, text_after}

-- the calendar has this day
pub record IsDay (d : CalendarDay) : Type 0 where
  pub year : 1 ≤ d.year
  pub month_low : 1 ≤ d.month
  pub month_high : d.month ≤ 12
  pub day_low : 1 ≤ d.day
  pub day_high : d.day ≤ days_in_month (pos d.year) d.month

abbrev count_of : CalendarDay → ℕ
count_of d = day_count (pos d.year) d.month d.day

december : (year : ℤ) → days_in_month year 12 ≡ 31
december year = refl

-- the day after a day of the calendar is one, and has one day more before it
record GoesOn (d next : CalendarDay) : Type 0 where
  is_day : IsDay next
  count : count_of next ≡ suc (count_of d)

in_month : (d : CalendarDay) → IsDay d → d.day < days_in_month (pos d.year) d.month → GoesOn d (record { year = d.year; month = d.month; day = suc d.day })
in_month d is lt = record {
  is_day = record { year = is.year; month_low = is.month_low; month_high = is.month_high; day_low = omega arith; day_high = omega (arith, lt) };
  count = omega (arith, day_count-day (pos d.year) d.month d.day (suc d.day) is.day_low (omega arith));
}

in_year : (d : CalendarDay) → IsDay d → d.day ≡ days_in_month (pos d.year) d.month → d.month < 12 → GoesOn d (record { year = d.year; month = suc d.month; day = 1 })
in_year d is last lt =
    let bounds = days_in_month_bounds (pos d.year) (suc d.month) in
    let step = day_count-next_month (pos d.year) d.month is.month_low in
    let same : d.month + 1 ≡ suc d.month = omega arith in
    record {
      is_day = record { year = is.year; month_low = omega arith; month_high = omega (arith, lt); day_low = omega arith; day_high = omega (arith, bounds) };
      count = omega (arith, rw same at step, day_count-day (pos d.year) d.month 1 d.day (omega arith) is.day_low, last);
    }

next_year : (d : CalendarDay) → IsDay d → d.day ≡ days_in_month (pos d.year) d.month → d.month ≡ 12 → GoesOn d (record { year = suc d.year; month = 1; day = 1 })
next_year d is last month =
    let next : pos (suc d.year) ≡ pos d.year +ℤ pos 1 = omega (arith, ints) in
    let step = day_count-next_year (pos d.year) (pos (suc d.year)) (omega (arith, ints)) next in
    let day : d.day ≡ 31 = last ∙ rw month (december (pos d.year)) in
    record {
      is_day = record { year = omega arith; month_low = omega arith; month_high = omega arith; day_low = omega arith; day_high = omega arith };
      count = rw (month, day) (omega (arith, step, day_count-last_of_year (pos d.year)));
    }

goes_on : (d : CalendarDay) → IsDay d → GoesOn d (next_day d)
goes_on d is =
    elim (cases_Bool (nat_lt d.day (days_in_month (pos d.year) d.month))) [
      | inl inside ↦ rw inside (in_month d is (grind (arith, nat_tests, inside)))
      | inr last ↦
          let is_last : d.day ≡ days_in_month (pos d.year) d.month = grind (arith, nat_tests, last, is.day_high) in
          elim (cases_Bool (nat_lt d.month 12)) [
            | inl early ↦ rw (last, early) (in_year d is is_last (grind (arith, nat_tests, early)))
            | inr late ↦
                let is_late : d.month ≡ 12 = grind (arith, nat_tests, late, is.month_high) in
                rw (last, late) (next_year d is is_last is_late)
          ]
    ]

first_count : day_count (pos 1) 1 1 ≡ 3_652_791
first_count = day_count-early (pos 1) 10000 1 1 refl (omega arith) (omega arith) (omega arith)

-- days after 1 January of the year 1 are days of the calendar, and their count is known
pub day-counts : (n : ℕ) → IsDay (day_after n) × (count_of (day_after n) ≡ 3_652_791 + n)
unfolding day_after
day-counts zero = (record { year = omega arith; month_low = omega arith; month_high = omega arith; day_low = omega arith; day_high = omega arith }, omega (arith, first_count))
day-counts (suc n) =
    let before = day-counts n in
    let on = goes_on (day_after n) before.0 in
    (on.is_day, omega (arith, on.count, before.1))

-- a day of the calendar and a date with the same count are the same
record AreSame (d : CalendarDay) (date : Date) : Type 0 where
  year : date.year ≡ pos d.year
  month : date.month ≡ d.month
  day : date.day ≡ d.day

civil : (date : Date) → IsCivilDate date.year date.month date.day
civil date = (date.year_in, date.month_in, date.day_in)

same_month : (d : CalendarDay) (date : Date) → IsDay d → IsCivilDate (pos d.year) d.month d.day → date.year ≡ pos d.year
    → day_count date.year date.month date.day ≡ count_of d → AreSame d date
same_month d date is own year count =
    let here : day_count (pos d.year) date.month date.day ≡ count_of d = rw year at count in
    let of_date : IsCivilDate (pos d.year) date.month date.day = rw year at (civil date) in
    elim (cases_order date.month d.month) [
      | inr (inl lt) ↦ absurd (omega (arith, here, day_count-lt_month (pos d.year) date.month date.day d.month d.day of_date is.day_low lt))
      | inl month ↦ record {
        year = year;
        month = month;
        day = omega (arith, (rw month at here), day_count-day (pos d.year) d.month date.day d.day of_date.2.0 is.day_low);
      }
      | inr (inr gt) ↦ absurd (omega (arith, here, day_count-lt_month (pos d.year) d.month d.day date.month date.day own of_date.2.0 gt))
    ]

same_date : (d : CalendarDay) (date : Date) → IsDay d → day_count date.year date.month date.day ≡ count_of d → AreSame d date
same_date d date is count =
    by_lt_z date.year (pos d.year)
    (λ lt. absurd (omega (arith, count, day_count-lt_year date.year date.month date.day (pos d.year) d.month d.day (civil date) is.day_low lt)))
    (λ ge.
    let near : IsYear (pos d.year) = (omega (arith, ints, is.year), omega (arith, ints, signed_arith, ge, date.year_in.1)) in
    let own : IsCivilDate (pos d.year) d.month d.day = (near, (is.month_low, is.month_high), (is.day_low, is.day_high)) in
    by_lt_z (pos d.year) date.year
    (λ gt. absurd (omega (arith, count, day_count-lt_year (pos d.year) d.month d.day date.year date.month date.day own date.day_in.0 gt)))
    (λ le. same_month d date is own (omega (arith, ints, signed_arith, ge, le)) count))

day_text-same : (d : CalendarDay) (date : Date) → AreSame d date → day_text date ≡ calendar_text d
day_text-same d date same = rw (same.year, same.month, same.day) refl

-- the time of day by its nanoseconds
clock-same : (n : ℕ) (t : Time) → time_nanos t ≡ n → time_text t ≡ clock_text n
clock-same n t e =
    let hour : t.hour ≡ n / 3_600_000_000_000 = omega (arith, e) in
    let minute : t.minute ≡ n / 60_000_000_000 % 60 = omega (arith, e) in
    let second : t.second ≡ n / 1_000_000_000 % 60 = omega (arith, e) in
    rw (hour, minute, second) refl

-- where a moment is, counted from the year 1
record IsAt (date : Date) (time : Time) (days rest : ℕ) : Type 0 where
  count : day_count date.year date.month date.day ≡ 3_652_791 + days
  clock : time_nanos time ≡ rest

moment_at : (at : DateTime) (moment : ℤ) (n : ℕ) → civil_nanos at ≡ moment → moment +ℤ pos 62_135_596_800_000_000_000 ≡ pos n
    → IsAt at.date at.time (n / 86_400_000_000_000) (n % 86_400_000_000_000)
moment_at at moment n is from =
    let parts = civil_nanos-parts at in
    let bound = time_nanos_bound at.time in
    let days = days_from_civil-day_count at.date.year at.date.month at.date.day in
    record {
      count = omega (arith, signed_arith, parts, bound, days, is, from);
      clock = omega (arith, signed_arith, parts, bound, days, is, from);
    }

text-same : (decimals days rest : ℕ) (at : DateTime) → IsAt at.date at.time days rest → date_text decimals at ≡ text_after decimals days rest
text-same decimals days rest at is =
    let day = day-counts days in
    let same = same_date (day_after days) at.date day.0 (is.count ∙ sym day.1) in
    let part : at.time.subsec_nanosecond ≡ rest % 1_000_000_000 = omega (arith, is.clock) in
    let day_is = day_text-same (day_after days) at.date same in
    let clock_is = clock-same rest at.time is.clock in
    λ i. day_is i ++ clock_is i ++ fraction_text decimals (part i) ++ 90 ∷ []

-- a text that is the date at a moment is the one of the definition
pub date-same : (decimals : ℕ) (moment : ℤ) (text : List ℕ) → IsInYears moment → IsDateText decimals moment text → text ≡ moment_text decimals moment
date-same decimals moment text inside is =
    let n = unsigned_abs (moment +ℤ pos 62_135_596_800_000_000_000) in
    let from : moment +ℤ pos 62_135_596_800_000_000_000 ≡ pos n = omega (arith, ints, inside.0) in
    is.2 ∙ text-same decimals (n / 86_400_000_000_000) (n % 86_400_000_000_000) is.0 (moment_at is.0 moment n is.1 from)
