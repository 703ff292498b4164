use Rattle.tilt_syntax.proofs.Texts.{sound_back}
use Rattle.tilt_operators.proofs.operands.read_expr.Goals as goal

pub parse_expression-requires-clause-sound : goal.parse_expression-requires-clause-sound
parse_expression-requires-clause-sound c = sound_back c.args.tokens.now c.requires.sound
