-- The parts of a date without an offset.
use Rattle.std.proofs.Common.{◌≡◌, ℕ, ◌≤◌, true, ◌&&◌, nat_le, List, length, take, drop, Ok, Err, pos, Result, ℤ, ◌+ℤ◌, ◌*ℤ◌, if◌then◌else◌, ap, sym, ◌∙◌, arith}
use Rattle.std.specs.Prelude.{codes}
use Rattle.std.proofs.lemmas.Bool.{and_parts}
use Rattle.std.proofs.lemmas.Bool.Decides.{nat_tests}
use Rattle.jiff_core.specs.Calendar.{days_from_civil}
use Rattle.tilt_readings.specs.declared.fault.DateFault.{DateFault}
use Rattle.tilt_readings.specs.declared.fault.DateFault.TheVariants.{NotDate, NoSuchTime}
use Rattle.tilt_readings.specs.declared.local_date.LocalDate.{LocalDate}
use Rattle.tilt_readings.specs.Date.{has_day, has_shape, has_time, is_fraction, local_seconds, nanoseconds_of, pair_at, time_of, year_of}
use Rattle.tilt_readings.specs.LocalDate.{is_local_date, local_date_of, local_date_read}
use Rattle.tilt_readings.proofs.DateLemmas.{year_small}

long_enough : (a b : ℕ) → nat_le a b ≡ true → a ≤ b
long_enough a b h = grind (arith, nat_tests)

-- what a date without an offset has
pub record LocalDateParts (text : List ℕ) : Type 0 where
  pub long : 19 ≤ length text
  pub year : year_of text ≤ 9999
  pub fraction : is_fraction (drop 19 text) ≡ true

pub local_date_parts : (text : List ℕ) → is_local_date text ≡ true → LocalDateParts text
local_date_parts text h =
    let long = nat_le 19 (length text) in
    let shape = has_shape (codes "0000-00-00T00:00:00") (take 19 text) in
    let a = and_parts (long && shape) (is_fraction (drop 19 text)) h in
    let b = and_parts long shape a.0 in
    let test = b.0 in
    record { long = long_enough 19 (length text) test; year = year_small text b.1; fraction = a.1 }

-- the local time of a text that has the form
abbrev local_date : List ℕ → Result LocalDate DateFault
local_date text =
    if has_day (year_of text) (pair_at text 5) (pair_at text 8) && has_time text
    then local_date_of (local_seconds text) (nanoseconds_of (drop 19 text)) else Err NoSuchTime

-- a text that is a local time
pub local_date_whole : (text : List ℕ) (seconds : ℤ) (n : ℕ) → is_local_date text ≡ true → has_day (year_of text) (pair_at text 5) (pair_at text 8) ≡ true
    → has_time text ≡ true → seconds ≡ local_seconds text → nanoseconds_of (drop 19 text) ≡ Ok (pos n)
    → Ok (record { seconds = seconds; nanoseconds = n }) ≡ local_date_read text
local_date_whole text seconds n form day clock same whole =
    ap (λ s. local_date_of s (Ok (pos n))) same ∙ sym (ap (local_date_of (local_seconds text)) whole)
    ∙ sym (ap (λ t. if t then local_date text else Err NotDate) form
    ∙ ap (λ t. if t && has_time text then local_date_of (local_seconds text) (nanoseconds_of (drop 19 text)) else Err NoSuchTime) day
    ∙ ap (λ t. if t then local_date_of (local_seconds text) (nanoseconds_of (drop 19 text)) else Err NoSuchTime) clock)

pub local_seconds_is : (text : List ℕ) (days : ℤ) (time : ℕ) → days ≡ days_from_civil (pos (year_of text)) (pair_at text 5) (pair_at text 8)
    → time ≡ time_of text → days *ℤ pos 86400 +ℤ pos time ≡ local_seconds text
local_seconds_is text days time d t = λ i. d i *ℤ pos 86400 +ℤ pos (t i)
