use Rattle.tilt_keyed_state.proofs.States.{none_of_body}
use Rattle.tilt_keyed_state.proofs.reader.read_text.Goals as goal

pub returns-in-Some-clause-none : goal.returns-in-Some-clause-none
returns-in-Some-clause-none c = none_of_body c.args.text.now c.in-Some.body.now c.read_body.result c.in-Some.ensures c.read_body.ensures.none
