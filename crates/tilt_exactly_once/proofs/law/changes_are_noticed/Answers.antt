use Rattle.std.proofs.Common.{refl}
use Rattle.tilt_exactly_once.proofs.Noticed.{noticed, unchanged}
use Rattle.tilt_exactly_once.specs.Framed.{KeepsLast, frames}
use Rattle.tilt_exactly_once.proofs.law.changes_are_noticed.Goals as goal

pub returns : goal.returns
returns g c = record {
  changed = λ told of feed more bytes from first folder old new end kept was short gives left.
      noticed feed more bytes from old new short gives g.F.Folder.seen g.F.Folder.may_leave (KeepsLast g.M.Machine.is) g.M.Machine.output of
      (frames g.M.Machine.commits) g.M.Machine.stops g.M.Machine.fits g.F.Folder.moment g.F.Folder.left_since g.P.Port.tells first folder told kept left end was;
  same = λ told of feed more bytes rest from first folder old new short gives parts was.
      unchanged feed more bytes from old new short gives g.F.Folder.seen g.F.Folder.may_leave (KeepsLast g.M.Machine.is) g.M.Machine.output of
      (frames g.M.Machine.commits) g.M.Machine.stops g.M.Machine.fits g.F.Folder.moment g.F.Folder.left_since g.P.Port.tells first folder told rest parts _ was refl;
}
