use Rattle.tilt_run_state.proofs.Setups.{setup-splits, whole}
use Rattle.tilt_run_state.proofs.law.setups_are_apart.Goals as goal

pub returns-clause-apart : goal.returns-clause-apart
returns-clause-apart c a b x y p q e = setup-splits a b x y p q e

pub returns-clause-whole : goal.returns-clause-whole
returns-clause-whole c a none = whole a none
