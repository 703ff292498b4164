use Rattle.std.proofs.Common.{not, ap, sym}
use Rattle.tilt_watermarks.proofs.lane.Lane.overlaps.Goals as goal

pub returns-in-KnownUpTo : goal.returns-in-KnownUpTo
returns-in-KnownUpTo c = rw (c.in-KnownUpTo.is, ← c.self.view_is) (sym (ap not c.self.invariant))
