use Rattle.std.proofs.Common.{◌≡◌, true, pos, ◌+ℤ◌, ◌*ℤ◌, FitsSigned, ap, sym, ◌∙◌, rules}
use Rattle.std.proofs.lemmas.Int.{to_z-of_z}
use Rattle.std.specs.Int.{w64}
use Rattle.jiff_core.specs.Calendar.{days_from_civil}
use Rattle.tilt_readings.specs.Date.{has_day, has_time, local_seconds, nanoseconds_of, pair_at, year_of}
use Rattle.tilt_readings.specs.LocalDate.{is_local_date}
use Rattle.tilt_readings.proofs.LocalDateLemmas.{local_date_whole, local_seconds_is}
use Rattle.tilt_readings.proofs.local_date.read_local_date.Goals as goal

pub returns : goal.returns
returns c =
    let text = c.args.text.now in
    let form : is_local_date text ≡ true = sym c.is_local_date.ensures.date ∙ c.if-not-is_local_date.false in
    let day : has_day (year_of text) (pair_at text 5) (pair_at text 8) ≡ true =
    (λ i. has_day (sym c.year_of.ensures i) (sym c.pair_at.ensures.value i) (sym c.pair_at-2.ensures.value i)) ∙ c.in-Some.ensures.0 in
    let clock : has_time text ≡ true = sym c.has_time.ensures ∙ c.if-not-has_time.false in
    let n = c.in-Some-nanoseconds_of.nanoseconds in
    let days : c.in-Some.days ≡ days_from_civil (pos (year_of text)) (pair_at text 5) (pair_at text 8) =
    c.in-Some.ensures.1 ∙ (λ i. days_from_civil (pos (c.year_of.ensures i)) (c.pair_at.ensures.value i) (c.pair_at-2.ensures.value i)) in
    let whole = ap nanoseconds_of (sym c.after_seconds.ensures) ∙ c.in-Some-nanoseconds_of.ensures.0 in
    let fits : FitsSigned w64 c.local_seconds.result = search rules in
    let days_fit : FitsSigned w64 c.in-Some.days = search rules in
    let same_days = to_z-of_z w64 c.in-Some.days days_fit in
    let seconds = local_seconds_is text c.in-Some.days c.time_of.result days c.time_of.ensures.value in
    let same : c.local_seconds.result ≡ local_seconds text =
    c.local_seconds.ensures ∙ (λ i. same_days i *ℤ pos 86400 +ℤ pos c.time_of.result) ∙ seconds in
    rw (to_z-of_z w64 c.local_seconds.result fits) (local_date_whole text c.local_seconds.result n form day clock same whole)
