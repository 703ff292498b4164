-- The ticks in which a row has no fault of its times.
use Rattle.std.specs.Prelude.{ℤ, neg_ℤ, ◌≤ℤ◌}
use Rattle.std.specs.Option.{ForSome}
use Rattle.tilt_base.specs.declared.limits.TheConstants.{T}
use Rattle.tilt_series.specs.Series.{Bounds}

-- `low` and `high` are times; `low` isn't below a bound that no row starts below, nor `high` above the bound that each row starts below
pub record FitsBounds (bounds : Bounds) (low high : ℤ) : Type 0 where
  pub first : neg_ℤ T ≤ℤ low
  pub last : high ≤ℤ T
  pub last_end : ForSome bounds.last_end (λ end. end ≤ℤ low)
  pub from : ForSome bounds.from (λ from. from ≤ℤ low)
  pub upto : ForSome bounds.upto (λ upto. high ≤ℤ upto)
