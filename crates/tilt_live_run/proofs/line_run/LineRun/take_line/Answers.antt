use Rattle.std.proofs.Common.{◌∙◌, refl}
use Rattle.tilt_input_state.specs.Resume.{first_read}
use Rattle.tilt_live.specs.Lives.{tick_of_live}
use Rattle.tilt_live_run.proofs.line_run.LineRun.take_line.Goals as goal

pub returns-clause-taken : goal.returns-clause-taken
returns-clause-taken c = λ accepted options number state given is.
    let taken = rw (is.number_is, is.form_is) at (c.in_ok-why.ensures.taken accepted state given is.live is.kept_is) in
    let rest = c.in_ok-why.ensures.rest in
    let rows = rw (is.number_is, is.form_is, ← c.in_ok-why.ensures.tick)
    at (c.in_ok-why.ensures.rows accepted state given (first_read accepted.core (tick_of_live c.args.self.now.live)) is.live is.kept_is is.rows) in (
      taken.0,
      record {
        live = taken.2;
        kept_is = taken.1;
        form_is = c.in_ok-why.ensures.form ∙ is.form_is;
        number_is = c.saturating_add-next.ensures ∙ rw (rest.0, is.number_is) refl;
        display_is = rest.1 ∙ is.display_is;
        strict_is = rest.2 ∙ is.strict_is;
        rows = rows;
      },
    )
