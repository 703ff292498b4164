use Rattle.std.proofs.Common.{refl}
use Rattle.tilt_live_app.specs.Checking.{checked, unchecked}
use Rattle.tilt_live_app.proofs.checking.check_query.Goals as goal

pub returns-in-Ok-clause-is : goal.returns-in-Ok-clause-is
returns-in-Ok-clause-is g c = checked c.in-Ok.found c.in-Ok.ensures.checked c.print_check.ensures.printed

pub returns-in-Err-clause-is : goal.returns-in-Err-clause-is
returns-in-Err-clause-is g c =
    rw (c.report_unbegun.ensures.status, c.from.ensures)
    (unchecked c.in-Err.fault c.in-Err.ensures.fault refl (rw c.from.ensures at c.report_unbegun.ensures.line))
