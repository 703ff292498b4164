use Rattle.tilt_exactly_once.proofs.Called.{is-run}
use Rattle.tilt_exactly_once.specs.Framed.{KeepsLast, frames}
use Rattle.tilt_exactly_once.proofs.law.programs_are_runs.Goals as goal

pub returns : goal.returns
returns g c told of feed more from first folder old new end kept served short gives left =
    λ bytes rest holds parts.
    is-run g.F.Folder.seen g.F.Folder.may_leave (KeepsLast g.M.Machine.is) g.M.Machine.output of (frames g.M.Machine.commits) g.M.Machine.stops g.M.Machine.fits
    g.F.Folder.moment g.F.Folder.left_since g.P.Port.tells from bytes first old folder new feed more rest kept told short gives parts left end
    (served bytes holds)
