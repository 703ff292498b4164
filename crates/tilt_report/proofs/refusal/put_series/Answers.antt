use Rattle.std.proofs.Common.{◌++◌, codes, append_assoc, Ok, ◌∙◌}
use Rattle.tilt_outside.proofs.Puts.{puts-then, puts-short}
use Rattle.tilt_report.specs.Report.{series_number, series_words}
use Rattle.tilt_report.proofs.refusal.put_series.Goals as goal

pub returns-in_err-put_named : goal.returns-in_err-put_named
returns-in_err-put_named g c =
    let front = series_number c.args.fault.now ++ codes " series " in
    let cut = rw (c.as_bytes.ensures.value ∙ c.number_of.ensures) at c.in_err-put_named.ensures in
    rw (append_assoc front c.args.name.now (series_words c.args.fault.now))
    (puts-short _ _ _ _ g.met.E.Sink.takes_fewer _ _ front (c.args.name.now ++ series_words c.args.fault.now) _ c.from_residual.result c.from_residual.ensures.0 cut)

pub returns-in_err-put_text : goal.returns-in_err-put_text
returns-in_err-put_text g c =
    let front = series_number c.args.fault.now ++ codes " series " in
    let first = rw (c.as_bytes.ensures.value ∙ c.number_of.ensures) at c.in_ok-put_named.ensures in
    let cut = puts-then _ _ _ _ _ _ _ front c.args.name.now _ first c.in_err-put_text.ensures in
    puts-short _ _ _ _ g.met.E.Sink.takes_fewer _ _ (front ++ c.args.name.now) (series_words c.args.fault.now) _ c.from_residual-in_err-put_text.result c.from_residual-in_err-put_text.ensures.0 cut

pub returns : goal.returns
returns g c =
    let front = series_number c.args.fault.now ++ codes " series " in
    let first = rw (c.as_bytes.ensures.value ∙ c.number_of.ensures) at c.in_ok-put_named.ensures in
    let both = puts-then _ _ _ _ _ _ _ front c.args.name.now (Ok tt) first c.in_ok-put_text.ensures in
    puts-then _ _ _ _ _ _ _ (front ++ c.args.name.now) (series_words c.args.fault.now) _ both c.put_fault.ensures
