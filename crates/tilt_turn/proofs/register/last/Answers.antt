use Rattle.tilt_turn.proofs.Registers.{last-read}
use Rattle.tilt_turn.proofs.register.last.Goals as goal

pub returns : goal.returns
returns c = last-read c.args.registers.now c.in_ok-last.field-0.now c.in_ok-last.ensures.value
