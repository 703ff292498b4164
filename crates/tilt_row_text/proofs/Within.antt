-- Moments within the years that dates are written in.
use Rattle.std.proofs.Common.{◌≡◌, ◌∙◌, ℕ, List, true, false, ℤ, arith, subst}
use Rattle.std.proofs.lemmas.Int.{ints}
use Rattle.tilt_readings.specs.DateText.{IsDateText, IsInYears}
use Rattle.tilt_row_text.proofs.Days.{date-same}
use Rattle.tilt_row_text.specs.Dates.{is_in_years, moment_text}

pub in-years : (moment : ℤ) → IsInYears moment → is_in_years moment ≡ true
in-years moment inside = grind (arith, ints, inside.0, inside.1)

pub no-years : (moment : ℤ) → ¬ (IsInYears moment) → is_in_years moment ≡ false
no-years moment outside = grind (arith, ints, outside)

-- what is written in these years is the date
pub dated : (decimals digits : ℕ) (moment at : ℤ) (text : List ℕ) → digits ≡ decimals → moment ≡ at → IsInYears moment → IsDateText digits moment text
    → (is_in_years at ≡ true) × (text ≡ moment_text decimals at)
dated decimals digits moment at text many same inside is =
    let written = date-same digits moment text inside is in
    (subst (λ (m : ℤ). is_in_years m ≡ true) same (in-years moment inside), written ∙ (λ i. moment_text (many i) (same i)))
