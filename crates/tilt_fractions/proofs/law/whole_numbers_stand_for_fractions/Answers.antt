use Rattle.tilt_fractions.proofs.Cells.{choice_stands, one_stands}
use Rattle.tilt_fractions.proofs.Pairs.{products_stand, quotients_stand, raised_cells_stand, two_stand, when_stands}
use Rattle.tilt_fractions.proofs.law.whole_numbers_stand_for_fractions.Goals as goal

pub returns : goal.returns
returns c = record {
  one = one_stands;
  two = two_stand;
  when = when_stands;
  choice = choice_stands;
  product = products_stand;
  quotient = quotients_stand;
  raised = raised_cells_stand;
}
