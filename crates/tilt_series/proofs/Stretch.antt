-- Rows within a stretch of ticks that fits the bounds.
use Rattle.std.proofs.Common.{◌≡◌, ℕ, ℤ, ◌≤ℤ◌, ◌<ℤ◌, neg_ℤ, false, List, [], ◌∷◌, ◌++◌, Option, None, Some, refl, arith}
use Rattle.std.proofs.lemmas.Int.{ints}
use Rattle.std.specs.Option.{ForSome}
use Rattle.tilt_base.specs.declared.limits.TheConstants.{T}
use Rattle.tilt_stream.specs.Snap.{Snapshot}
use Rattle.tilt_stream.proofs.Order.{last_end-push}
use Rattle.tilt_series.specs.Series.{Bounds, bounds_after, is_below, is_past, time_fault}
use Rattle.tilt_series.specs.Stretch.{FitsBounds}

-- a tick from `low` on isn't below a bound that isn't above `low`
from_low : (bound : Option ℤ) (low start : ℤ) → ForSome bound (λ tick. tick ≤ℤ low) → low ≤ℤ start → is_below start bound ≡ false
from_low None low start at_low h = refl
from_low (Some tick) low start at_low h = let at : tick ≤ℤ low = at_low tick refl in grind (arith, ints)

-- a tick below `high` is below a bound that isn't below `high`
below_high : (bound : Option ℤ) (high start : ℤ) → ForSome bound (λ tick. high ≤ℤ tick) → start <ℤ high → is_past start bound ≡ false
below_high None high start at_high h = refl
below_high (Some tick) high start at_high h = let at : high ≤ℤ tick = at_high tick refl in grind (arith, ints)

-- a row within the stretch has no fault of its times
pub no_fault : (bounds : Bounds) (row : ℕ) (low high start end : ℤ) → FitsBounds bounds low high
    → low ≤ℤ start → start <ℤ end → end ≤ℤ high → time_fault bounds row start end ≡ None
no_fault bounds row low high start end fits at_low ticks at_high =
    let first = fits.first in
    let last = fits.last in
    let last_end = from_low bounds.last_end low start fits.last_end at_low in
    let from = from_low bounds.from low start fits.from at_low in
    let upto = below_high bounds.upto high start fits.upto (grind (arith, ints)) in
    grind (arith, ints)

-- a bound that isn't above `low` isn't above a start from `low` on
pub at_low : (bound : Option ℤ) (low start : ℤ) → ForSome bound (λ tick. tick ≤ℤ low) → low ≤ℤ start
    → ForSome bound (λ tick. tick ≤ℤ start)
at_low bound low start at h = λ tick is. let at_tick = at tick is in grind (arith, ints)

-- after a row, the stretch begins at its end
pub FitsBounds-row : (bounds : Bounds) (rows : List Snapshot) (s : Snapshot) (low high : ℤ)
    → FitsBounds (bounds_after bounds rows) low high → neg_ℤ T ≤ℤ s.start → s.start <ℤ s.end → ForSome bounds.from (λ tick. tick ≤ℤ s.start)
    → FitsBounds (bounds_after bounds (rows ++ s ∷ [])) s.end high
FitsBounds-row bounds rows s low high fits first ticks at_from =
    rw (last_end-push rows s) (record {
      first = grind (arith, ints);
      last = fits.last;
      last_end = λ tick e. let same : s.end ≡ tick = cc in grind (arith, ints);
      from = λ tick e. let below = at_from tick e in grind (arith, ints);
      upto = fits.upto;
    })
