use Rattle.std.proofs.Common.{sym}
use Rattle.tilt_edits.proofs.Blanks.{blank_found, blank_none}
use Rattle.tilt_edits.proofs.line.until_blank.Goals as goal

pub returns-in_err-at : goal.returns-in_err-at
returns-in_err-at c = rw c.from_residual.ensures (blank_none c.args.bytes.now (sym c.in_err-at.ensures))

pub returns : goal.returns
returns c = blank_found c.args.bytes.now c.in_ok-at.at (sym c.in_ok-at.ensures)
