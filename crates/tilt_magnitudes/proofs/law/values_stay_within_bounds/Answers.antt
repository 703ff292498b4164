use Rattle.tilt_magnitudes.proofs.Meaning.{expression_within, query_within}
use Rattle.tilt_magnitudes.proofs.Overflows.{expression_stays, query_stays}
use Rattle.tilt_magnitudes.proofs.Scalars.{choice_within, one_within, two_within}
use Rattle.tilt_magnitudes.proofs.Sums.{reduced_within}
use Rattle.tilt_magnitudes.proofs.law.values_stay_within_bounds.Goals as goal

pub returns : goal.returns
returns c = record {
  one = one_within;
  two = two_within;
  choice = choice_within;
  reducer = reduced_within;
  expression = λ marks bounds xs b m place e i h tick. expression_within marks bounds xs (record { bounds = b; counted = m }) place e i h tick;
  query = query_within;
  no_overflow_in = λ marks bounds xs b m place e i h tick. expression_stays marks bounds xs (record { bounds = b; counted = m }) place e i h tick;
  no_overflow = query_stays;
}
