-- What comes after a name, by its parts.
use Rattle.std.proofs.Common.{◌≡◌, ◌==◌, ℕ, List, Option, refl}
use Rattle.std.specs.List.{after_first, before_first}
use Rattle.tilt_magnitudes.specs.Interval.{Interval}
use Rattle.tilt_magnitudes.specs.declared.met.Rate.{Rate}
use Rattle.tilt_unit_check.specs.BoundText.{bound_of, bound_with, interval_said, rate_or_any}

pub by-parts : (name : List ℕ) (scale : ℕ) (text low rest high rate : List ℕ) (values : Option Interval) (marks : Option Rate)
    → low ≡ before_first (λ b. b == 58) text → rest ≡ after_first (λ b. b == 58) text
    → high ≡ before_first (λ b. b == 58) rest → rate ≡ after_first (λ b. b == 58) rest
    → values ≡ interval_said scale low high → marks ≡ rate_or_any rate → bound_with name values marks ≡ bound_of name scale text
by-parts name scale text low rest high rate values marks a b c d e f = rw (e, f, c, d, a, b) refl
