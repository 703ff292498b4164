use Rattle.std.proofs.Common.{◌≡◌, true, Ok, pos, ◌+ℤ◌, ◌-ℤ◌, ◌*ℤ◌, FitsSigned, ap, sym, ◌∙◌, ◌&&◌, rules}
use Rattle.std.proofs.lemmas.Int.{to_z-of_z}
use Rattle.std.specs.Int.{w64}
use Rattle.jiff_core.specs.Calendar.{days_from_civil}
use Rattle.tilt_readings.specs.Date.{has_day, has_offset, has_time, is_date, moment_of, nanoseconds_of, pair_at, seconds_of, year_of, zone_of}
use Rattle.tilt_readings.proofs.DateLemmas.{date_whole, seconds_is}
use Rattle.tilt_readings.proofs.date.read_date.Goals as goal

pub returns : goal.returns
returns c =
    let text = c.args.text.now in
    let form : is_date text ≡ true = sym c.is_date.ensures.date ∙ c.if-not-is_date.false in
    let day : has_day (year_of text) (pair_at text 5) (pair_at text 8) ≡ true =
    (λ i. has_day (sym c.year_of.ensures i) (sym c.pair_at.ensures.value i) (sym c.pair_at-2.ensures.value i)) ∙ c.in-Some.ensures.0 in
    let clock : (has_time text && has_offset (zone_of text)) ≡ true =
    ap (λ z. has_time text && has_offset z) (sym c.zone_of-zone.ensures) ∙ sym c.has_clock.ensures ∙ c.if-not-has_clock.false in
    let n = c.in-Some-nanoseconds_of.nanoseconds in
    let days : c.in-Some.days ≡ days_from_civil (pos (year_of text)) (pair_at text 5) (pair_at text 8) =
    c.in-Some.ensures.1 ∙ (λ i. days_from_civil (pos (c.year_of.ensures i)) (c.pair_at.ensures.value i) (c.pair_at-2.ensures.value i)) in
    let whole = ap nanoseconds_of (sym c.fraction_of.ensures) ∙ c.in-Some-nanoseconds_of.ensures.0 in
    let fits : FitsSigned w64 c.seconds_at.result = search rules in
    let days_fit : FitsSigned w64 c.in-Some.days = search rules in
    let offset_fits : FitsSigned w64 c.offset_of.result = search rules in
    let same_days = to_z-of_z w64 c.in-Some.days days_fit in
    let same_offset = to_z-of_z w64 c.offset_of.result offset_fits in
    let seconds = seconds_is text c.zone_of-zone.result.now c.in-Some.days c.offset_of.result c.time_of.result days c.time_of.ensures.value c.offset_of.ensures.value c.zone_of-zone.ensures in
    let same : c.seconds_at.result ≡ seconds_of text =
    c.seconds_at.ensures ∙ (λ i. same_days i *ℤ pos 86400 +ℤ pos c.time_of.result -ℤ same_offset i) ∙ seconds in
    c.moment_of.ensures ∙ ap (λ s. moment_of s (Ok (pos n))) (to_z-of_z w64 c.seconds_at.result fits)
    ∙ date_whole text c.seconds_at.result n form day clock same whole
