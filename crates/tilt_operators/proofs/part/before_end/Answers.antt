use Rattle.std.proofs.Common.{refl}
use Rattle.tilt_syntax.proofs.Cutting.{sound-front-tokens}
use Rattle.tilt_operators.proofs.part.before_end.Goals as goal

pub returns-in-len1-up-clause-sound : goal.returns-in-len1-up-clause-sound
returns-in-len1-up-clause-sound c = sound-front-tokens _ c.args.tokens.now _ refl
