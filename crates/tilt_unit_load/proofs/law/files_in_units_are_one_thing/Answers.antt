use Rattle.tilt_unit_load.proofs.OneFile.{not_both, one_loaded, one_reason}
use Rattle.tilt_unit_load.proofs.law.files_in_units_are_one_thing.Goals as goal

pub returns : goal.returns
returns c = record {
  one = one_loaded;
  not_both = λ name bytes scales. not_both bytes scales name;
  one_reason = λ name bytes scales. one_reason bytes scales name;
}
