use Rattle.tilt_unit_text.proofs.SaidKept.{is_said, one_said, said_kept, said_quantities, said_stands}
use Rattle.tilt_unit_text.proofs.TokensKept.{size_least}
use Rattle.tilt_unit_text.proofs.WholeWritten.{whole_law}
use Rattle.tilt_unit_text.proofs.law.read_texts_keep_meaning.Goals as goal

pub returns : goal.returns
returns c = record {
  said = is_said;
  one = one_said;
  inputs = λ scales text parts said r s. (said_kept scales text parts said r s).inputs;
  query = said_stands;
  quantities = said_quantities;
  whole = whole_law;
  size = size_least;
}
