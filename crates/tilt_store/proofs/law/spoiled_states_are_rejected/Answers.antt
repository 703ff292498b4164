use Rattle.tilt_store.proofs.Commits.{is-sealed, spoiled-broken}
use Rattle.tilt_store.proofs.law.spoiled_states_are_rejected.Goals as goal

pub returns : goal.returns
returns c = record { sealed = is-sealed; spoiled = spoiled-broken }
