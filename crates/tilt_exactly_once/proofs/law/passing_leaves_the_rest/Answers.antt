use Rattle.tilt_exactly_once.proofs.Passed.{rest-left}
use Rattle.tilt_exactly_once.proofs.law.passing_leaves_the_rest.Goals as goal

pub returns : goal.returns
returns c = rest-left
