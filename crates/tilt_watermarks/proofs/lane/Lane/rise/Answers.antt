use Rattle.std.proofs.Common.{FitsSigned, w64, to_z-of_z, rules}
use Rattle.tilt_watermarks.proofs.Fitting.{fits-at}
use Rattle.tilt_watermarks.proofs.lane.Lane.rise.Goals as goal

pub invariant_of-self : goal.invariant_of-self
invariant_of-self c =
    let end = c.in-Some.end in
    let fits : FitsSigned w64 end = search rules in
    let rests = rw (c.in-Some.is, ← c.self.view_is) at c.requires.rests in
    rw (to_z-of_z fits) (fits-at end c.self.inside.edge.watermark c.self.inside.held.items c.self.invariant rests)
