use Rattle.tilt_live_start.proofs.Left.{goes-on-after}
use Rattle.tilt_live_start.proofs.law.output_goes_on_after_a_tick.Goals as goal

pub returns : goal.returns
returns c = λ accepted from code feed finished inputs valid many low high code_is is. goes-on-after accepted valid from feed finished inputs is many low high code code_is
