use Rattle.std.proofs.Common.{◌∙◌, sym}
use Rattle.tilt_live_state.proofs.Checks.{state_complete, state_sound}
use Rattle.tilt_live_state.proofs.valid.is_valid.Goals as goal

pub returns : goal.returns
returns c = (
  λ h. state_sound c.args.core.now c.args.state.now (sym c.is_state_of.ensures ∙ h),
  λ is. c.is_state_of.ensures ∙ state_complete c.args.core.now c.args.state.now is,
)
