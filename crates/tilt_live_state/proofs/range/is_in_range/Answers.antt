use Rattle.std.proofs.Common.{◌∙◌, sym}
use Rattle.tilt_live_state.proofs.Ranges.{range-tests}
use Rattle.tilt_live_state.proofs.range.is_in_range.Goals as goal

pub returns : goal.returns
returns c =
    let tests = range-tests c.args.state.now in
    (λ h. tests.0 (sym c.test_range.ensures ∙ h), λ is. c.test_range.ensures ∙ tests.1 is)
