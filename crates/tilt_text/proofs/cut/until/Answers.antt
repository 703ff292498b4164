use Rattle.std.proofs.Common.{sym}
use Rattle.tilt_text.proofs.Words.{until_found, until_none}
use Rattle.tilt_text.proofs.cut.until.Goals as goal

pub returns-in_err-at : goal.returns-in_err-at
returns-in_err-at c = rw c.from_residual.ensures (until_none c.args.mark c.args.bytes.now (sym c.in_err-at.ensures))

pub returns : goal.returns
returns c = until_found c.args.mark c.args.bytes.now c.in_ok-at.at (sym c.in_ok-at.ensures)
