-- The parts of a date.
use Rattle.std.proofs.Common.{◌≡◌, ◌≢◌, ℕ, zero, suc, ◌+◌, ◌-◌, ◌*◌, ◌/◌, ◌%◌, ◌^◌, ◌<◌, ◌≤◌, ◌==◌, true, false, ◌&&◌, ◌||◌, nat_le, nat_lt, List, [], ◌∷◌, length, get_or, take, drop, Ok, Err, pos, Result, ℤ, ◌+ℤ◌, ◌-ℤ◌, ◌*ℤ◌, if◌then◌else◌, refl, ap, sym, subst, ◌∙◌, arith}
use Rattle.std.specs.Prelude.{codes}
use Rattle.std.specs.Str.{all_ascii_digits}
use Rattle.std.specs.Str.Parse.{digits_value}
use Rattle.std.proofs.Math.Nat.{mul-mod_left, mul-div_cancel, div-add-mod'}
use Rattle.tilt_readings.specs.declared.fault.DecimalFault.TheVariants.{NotWhole}
use Rattle.tilt_readings.proofs.ScaleLemmas.{ten_pos}
use Rattle.std.proofs.lemmas.Bool.{and_parts, false≢true}
use Rattle.std.proofs.lemmas.Bool.Decides.{nat_tests}
use Rattle.std.proofs.lemmas.List.{get_or-take}
use Rattle.std.specs.Char.{is_ascii_digit}
use Rattle.jiff_core.specs.Calendar.{days_from_civil}
use Rattle.tilt_readings.specs.declared.fault.DateFault.{DateFault}
use Rattle.tilt_readings.specs.declared.fault.DateFault.TheVariants.{NotDate, NoSuchTime}
use Rattle.tilt_readings.specs.Date.{date_read, has_day, has_offset, has_time, moment_of, offset_of, pair_at, seconds_of, time_of, fraction_of, has_shape, is_date, is_fraction, is_shaped, is_zone, nanoseconds_of, year_of, zone_length, zone_of}

-- a byte of a text that has a shape
shaped_at : (shapes bytes : List ℕ) (i : ℕ) → has_shape shapes bytes ≡ true → i < length shapes → is_shaped (get_or shapes i 0) (get_or bytes i 0) ≡ true
shaped_at [] bytes i h l = absurd (omega arith)
shaped_at (s ∷ ss) [] i h l = absurd (false≢true h)
shaped_at (s ∷ ss) (b ∷ bs) zero h l = (and_parts (is_shaped s b) (has_shape ss bs) h).0
shaped_at (s ∷ ss) (b ∷ bs) (suc i) h l = shaped_at ss bs i (and_parts (is_shaped s b) (has_shape ss bs) h).1 (omega arith)

digit_small : (b : ℕ) → is_ascii_digit b ≡ true → b - 48 ≤ 9
digit_small b h = grind (arith, nat_tests)

-- the year has four digits
pub year_small : (text : List ℕ) → has_shape (codes "0000-00-00T00:00:00") (take 19 text) ≡ true → year_of text ≤ 9999
year_small text h =
    let a = digit_small (get_or (take 19 text) 0 0) (shaped_at (codes "0000-00-00T00:00:00") (take 19 text) 0 h (omega arith)) in
    let b = digit_small (get_or (take 19 text) 1 0) (shaped_at (codes "0000-00-00T00:00:00") (take 19 text) 1 h (omega arith)) in
    let c = digit_small (get_or (take 19 text) 2 0) (shaped_at (codes "0000-00-00T00:00:00") (take 19 text) 2 h (omega arith)) in
    let d = digit_small (get_or (take 19 text) 3 0) (shaped_at (codes "0000-00-00T00:00:00") (take 19 text) 3 h (omega arith)) in
    omega (arith, a, b, c, d, get_or-take 19 text 0 0 (omega arith), get_or-take 19 text 1 0 (omega arith), get_or-take 19 text 2 0 (omega arith), get_or-take 19 text 3 0 (omega arith))

long_enough : (a b : ℕ) → nat_le a b ≡ true → a ≤ b
long_enough a b h = grind (arith, nat_tests)

-- what a date has
pub record DateParts (text : List ℕ) : Type 0 where
  pub long : 19 + zone_length text ≤ length text
  pub shape : has_shape (codes "0000-00-00T00:00:00") (take 19 text) ≡ true
  pub fraction : is_fraction (fraction_of text) ≡ true

pub date_parts : (text : List ℕ) → is_date text ≡ true → DateParts text
date_parts text h =
    let long = nat_le (19 + zone_length text) (length text) in
    let shape = has_shape (codes "0000-00-00T00:00:00") (take 19 text) in
    let fraction = is_fraction (fraction_of text) in
    let a = and_parts (long && shape && fraction) (is_zone (zone_of text)) h in
    let b = and_parts (long && shape) fraction a.0 in
    let c = and_parts long shape b.0 in
    let test = c.0 in
    record { long = long_enough (19 + zone_length text) (length text) test; shape = c.1; fraction = b.1 }

-- the digits of a fraction
pub fraction_digits : (fraction : List ℕ) → is_fraction fraction ≡ true → all_ascii_digits (drop 1 fraction) ≡ true
fraction_digits [] h = refl
fraction_digits (mark ∷ digits) h = (and_parts (((mark == 46) || (mark == 44)) && nat_lt 0 (length digits)) (all_ascii_digits digits) h).1

-- its nanoseconds, if they are whole
pub nanoseconds_some : (fraction ds : List ℕ) (n : ℕ) → ds ≡ drop 1 fraction → digits_value 10 ds * 1_000_000_000 ≡ n * 10 ^ length ds
    → nanoseconds_of fraction ≡ Ok (pos n)
nanoseconds_some fraction ds n same e =
    let whole : digits_value 10 (drop 1 fraction) * 1_000_000_000 ≡ n * 10 ^ length (drop 1 fraction) =
    subst (λ (d : List ℕ). digits_value 10 d * 1_000_000_000 ≡ n * 10 ^ length d) same e in
    rw (whole, mul-mod_left n (10 ^ length (drop 1 fraction)), mul-div_cancel n (ten_pos (length (drop 1 fraction)))) refl

not_multiple : (total p : ℕ) → ((n : ℕ) → total ≢ n * p) → (total % p == 0) ≡ false
not_multiple total p none =
    let other : total % p ≢ 0 = λ left. none (total / p) (omega (arith, div-add-mod' total p, left)) in
    grind (arith, nat_tests)

pub nanoseconds_none : (fraction ds : List ℕ) → ds ≡ drop 1 fraction → ((n : ℕ) → digits_value 10 ds * 1_000_000_000 ≢ n * 10 ^ length ds)
    → nanoseconds_of fraction ≡ Err NotWhole
nanoseconds_none fraction ds same none =
    let other : (n : ℕ) → digits_value 10 (drop 1 fraction) * 1_000_000_000 ≢ n * 10 ^ length (drop 1 fraction) =
    subst (λ (d : List ℕ). (n : ℕ) → digits_value 10 d * 1_000_000_000 ≢ n * 10 ^ length d) same none in
    rw (not_multiple (digits_value 10 (drop 1 fraction) * 1_000_000_000) (10 ^ length (drop 1 fraction)) other) refl

-- the moment of a text that has the form of a date
abbrev pub date_moment : List ℕ → Result ℤ DateFault
date_moment text =
    if has_day (year_of text) (pair_at text 5) (pair_at text 8) && (has_time text && has_offset (zone_of text))
    then moment_of (seconds_of text) (nanoseconds_of (fraction_of text)) else Err NoSuchTime

-- a text that is a moment
pub date_whole : (text : List ℕ) (seconds : ℤ) (n : ℕ) → is_date text ≡ true → has_day (year_of text) (pair_at text 5) (pair_at text 8) ≡ true
    → (has_time text && has_offset (zone_of text)) ≡ true → seconds ≡ seconds_of text → nanoseconds_of (fraction_of text) ≡ Ok (pos n)
    → moment_of seconds (Ok (pos n)) ≡ date_read text
date_whole text seconds n form day clock same whole =
    ap (λ s. moment_of s (Ok (pos n))) same ∙ sym (ap (moment_of (seconds_of text)) whole)
    ∙ sym (ap (λ t. if t then date_moment text else Err NotDate) form
    ∙ ap (λ t. if t && (has_time text && has_offset (zone_of text)) then moment_of (seconds_of text) (nanoseconds_of (fraction_of text)) else Err NoSuchTime) day
    ∙ ap (λ t. if t then moment_of (seconds_of text) (nanoseconds_of (fraction_of text)) else Err NoSuchTime) clock)

pub seconds_is : (text zone : List ℕ) (days offset : ℤ) (time : ℕ) → days ≡ days_from_civil (pos (year_of text)) (pair_at text 5) (pair_at text 8)
    → time ≡ time_of text → offset ≡ offset_of zone → zone ≡ zone_of text → days *ℤ pos 86400 +ℤ pos time -ℤ offset ≡ seconds_of text
seconds_is text zone days offset time d t o z =
    let ahead = o ∙ ap offset_of z in
    λ i. d i *ℤ pos 86400 +ℤ pos (t i) -ℤ ahead i
