use Rattle.std.proofs.Common.{◌++◌, codes}
use Rattle.tilt_outside.proofs.Puts.{puts-short}
use Rattle.tilt_report.specs.Report.{report_of, words_of}
use Rattle.tilt_report.proofs.fault.Fault.put.Goals as goal

pub returns-in_err-put_text : goal.returns-in_err-put_text
returns-in_err-put_text g c =
    puts-short _ _ _ _ g.met.E.Sink.takes_fewer _ _ (codes "tilt: ") (words_of (report_of c.args.self.now) ++ codes "\n") _ c.from_residual.result c.from_residual.ensures.0 c.in_err-put_text.ensures
