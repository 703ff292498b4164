use Rattle.tilt_live_run.proofs.FirstLine.{line_found, no_line}
use Rattle.tilt_live_run.proofs.until_line.until_line.Goals as goal

pub returns-in_err-at : goal.returns-in_err-at
returns-in_err-at c = rw c.from_residual.ensures (no_line c.args.bytes.now c.in_err-at.ensures)

pub returns : goal.returns
returns c = line_found c.args.bytes.now c.in_ok-at.at c.in_ok-at.ensures.0 c.in_ok-at.ensures.1
