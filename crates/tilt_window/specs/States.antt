-- What states keep of the numbers that were added.
use Rattle.std.specs.Prelude.{◌≡◌, ℤ, List, length, All, FitsSigned}
use Rattle.std.specs.Int.{w64}
use Rattle.std.specs.List.{count_by}
use Rattle.tilt_base.specs.Reduce.{total}
use Rattle.tilt_base.specs.Scalar.{is_true}
use Rattle.tilt_window.specs.declared.sum.SumAndCount.{SumAndCount}
use Rattle.tilt_window.specs.declared.truth.TrueCount.{TrueCount}

-- the exact sum of these numbers of 64 bits, and how many they are
pub record IsSumAndCount (state : SumAndCount) (ns : List ℤ) : Type 0 where
  pub sum : state.sum ≡ total ns
  pub count : state.count ≡ length ns
  pub fits : All (FitsSigned w64) ns

-- how many of these numbers are true, and how many they are
pub record IsTrueCount (state : TrueCount) (ns : List ℤ) : Type 0 where
  pub true_ones : state.true_ones ≡ count_by is_true ns
  pub count : state.count ≡ length ns
