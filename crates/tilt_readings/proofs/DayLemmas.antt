-- Days follow one another.
use Rattle.std.proofs.Common.{◌≡◌, ℕ, ◌+◌, ◌≤◌, ℤ, pos, ◌+ℤ◌, ◌≤ℤ◌, arith}
use Rattle.std.proofs.lemmas.Int.{ints}
use Rattle.jiff_core.specs.Calendar.{days_from_civil, days_in_month}
use Rattle.jiff_core.proofs.CalendarLemmas.{day_count-day, day_count-epoch, day_count-last_of_year, day_count-next_month, day_count-next_year, days_from_civil-day_count, days_in_month_bounds}

pub first_day : days_from_civil (pos 1970) 1 1 ≡ pos 0
first_day = omega (arith, ints, days_from_civil-day_count (pos 1970) 1 1, day_count-epoch)

pub next_day : (year : ℤ) (month day : ℕ) → 1 ≤ day → days_from_civil year month (day + 1) ≡ days_from_civil year month day +ℤ pos 1
next_day year month day h =
    omega (arith, ints, days_from_civil-day_count year month day, days_from_civil-day_count year month (day + 1), day_count-day year month day (day + 1) h (omega arith))

pub next_month : (year : ℤ) (month : ℕ) → 1 ≤ month
    → days_from_civil year (month + 1) 1 ≡ days_from_civil year month (days_in_month year month) +ℤ pos 1
next_month year month h =
    let last = days_in_month year month in
    let some : 1 ≤ last = omega (arith, days_in_month_bounds year month) in
    omega (arith, ints, days_from_civil-day_count year month last, days_from_civil-day_count year (month + 1) 1, day_count-next_month year month h, day_count-day year month 1 last (omega arith) some)

pub next_year : (year : ℤ) → pos 1 ≤ℤ year → days_from_civil (year +ℤ pos 1) 1 1 ≡ days_from_civil year 12 31 +ℤ pos 1
next_year year h =
    let turn = day_count-next_year year (year +ℤ pos 1) (omega (arith, ints)) (omega (arith, ints)) in
    omega (arith, ints, days_from_civil-day_count year 12 31, days_from_civil-day_count (year +ℤ pos 1) 1 1, turn, day_count-last_of_year year)
