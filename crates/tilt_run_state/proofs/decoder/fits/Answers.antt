use Rattle.std.proofs.Common.{◌∙◌, sym}
use Rattle.std.proofs.lemmas.Bool.{false≢true}
use Rattle.tilt_run_state.proofs.Parts.{kept-of}
use Rattle.tilt_run_state.proofs.decoder.fits.Goals as goal

pub returns-then-has_inputs : goal.returns-then-has_inputs
returns-then-has_inputs c =
    let counted = c.has_inputs.ensures.0 c.if-has_inputs.true in (
      λ h.
          kept-of c.args.setup.now c.args.kept.now c.args.state.now c.requires.resumable c.requires.valid counted (c.asks_nothing.ensures.0 h),
      λ is. c.asks_nothing.ensures.1 is.options,
    )

pub returns-else-has_inputs : goal.returns-else-has_inputs
returns-else-has_inputs c = (
  λ h. absurd (false≢true (sym c.if-has_inputs.false ∙ h)),
  λ is. c.has_inputs.ensures.1 is.counted,
)
