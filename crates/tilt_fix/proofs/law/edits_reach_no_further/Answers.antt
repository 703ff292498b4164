use Rattle.tilt_fix.proofs.NoFurther.{stays-outside}
use Rattle.tilt_fix.proofs.law.edits_reach_no_further.Goals as goal

pub returns : goal.returns
returns c = λ query rows after edit accepted many order of is. stays-outside query rows after edit accepted many of is
