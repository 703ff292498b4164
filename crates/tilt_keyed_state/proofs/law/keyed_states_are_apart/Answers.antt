use Rattle.tilt_keyed_state.proofs.States.{states_once}
use Rattle.tilt_keyed_state.proofs.law.keyed_states_are_apart.Goals as goal

pub returns : goal.returns
returns c = states_once
