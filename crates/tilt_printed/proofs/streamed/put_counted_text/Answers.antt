use Rattle.std.proofs.Common.{codes}
use Rattle.tilt_printed.proofs.Printing.{prints-put, prints-short, prints-then}
use Rattle.tilt_code.specs.Run.{run_of}
use Rattle.tilt_stream.specs.Text.{lines_of}
use Rattle.tilt_printed.proofs.streamed.put_counted_text.Goals as goal

pub returns-in_err-put_header-clause-prints : goal.returns-in_err-put_header-clause-prints
returns-in_err-put_header-clause-prints g c =
    prints-short _ _ _ _ _ _ (codes "start,end,value\n") (lines_of (run_of c.args.pipe.code c.args.pipe.inputs)) _ c.from_residual.result
    c.from_residual.ensures.0 c.in_err-put_header.ensures

pub returns-clause-prints : goal.returns-clause-prints
returns-clause-prints g c =
    prints-then _ _ _ _ _ _ _ (codes "start,end,value\n") (lines_of (run_of c.args.pipe.code c.args.pipe.inputs)) (tt {0}) c.put_counted_lines.result
    (prints-put _ _ _ _ _ _ (codes "start,end,value\n") (tt {0}) c.in_ok-put_header.ensures) c.put_counted_lines.ensures.prints
