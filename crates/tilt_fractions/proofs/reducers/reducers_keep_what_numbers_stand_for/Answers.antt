use Rattle.tilt_base.specs.declared.reducer.Reducer.TheVariants.{Avg, Min, Max, Any, All}
use Rattle.tilt_fractions.proofs.Reductions.{count_reducer_stands, first_reducer_stands, last_reducer_stands, numbers_stand, reducer_stands, sum_reducer_stands, wide_is}
use Rattle.tilt_fractions.proofs.reducers.reducers_keep_what_numbers_stand_for.Goals as goal

pub returns : goal.returns
returns c = record {
  sum = sum_reducer_stands;
  average = reducer_stands Avg;
  min = reducer_stands Min;
  max = reducer_stands Max;
  first = first_reducer_stands;
  last = last_reducer_stands;
  count = count_reducer_stands;
  any = reducer_stands Any;
  all = reducer_stands All;
  cells = numbers_stand;
  within = wide_is;
}
