use Rattle.std.proofs.Common.{◌∙◌}
use Rattle.tilt_code.proofs.inputs.InputNames.has.Goals as goal

pub returns : goal.returns
returns c = rw (← c.self.view_is) (c.contains.ensures ∙ c.self.invariant c.args.bytes.now)
