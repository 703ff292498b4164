use Rattle.tilt_store.proofs.Running.{once, once_from_nothing}
use Rattle.tilt_store.proofs.law.exactly_once.Goals as goal

pub returns-clause-runs : goal.returns-clause-runs
returns-clause-runs c = once

pub returns-clause-from_nothing : goal.returns-clause-from_nothing
returns-clause-from_nothing c = once_from_nothing
