use Rattle.std.proofs.Common.{◌∙◌, length, refl, sym}
use Rattle.std.proofs.lemmas.Option.{slice_get_read}
use Rattle.tilt_live_run.proofs.Leaving.{rows-at, rows-past}
use Rattle.tilt_live_run.proofs.inputs.rows_at.Goals as goal

pub returns-in-Some : goal.returns-in-Some
returns-in-Some c =
    let found = c.in-Some.ensures.lookup in
    let known = c.args.known.now in
    let input = c.in-Some.input.now in
    rw (rows-at known c.args.number input (slice_get_read known (length known) c.args.number input refl found.3.0 found.1)) c.known_rows.ensures

pub returns-in-None : goal.returns-in-None
returns-in-None c = c.new.ensures ∙ sym (rows-past c.args.known.now c.args.number c.in-None.ensures.lookup.3)
