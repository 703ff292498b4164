use Rattle.tilt_keyed_line.proofs.Hearing.{given-lines}
use Rattle.tilt_keyed_line.proofs.law.keys_hear_their_lines.Goals as goal

pub returns : goal.returns
returns c = given-lines
