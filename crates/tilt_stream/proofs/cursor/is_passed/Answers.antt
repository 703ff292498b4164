use Rattle.std.proofs.Common.{FitsSigned, to_z-of_z, w64, neg_ℤ, sym, arith, rules}
use Rattle.tilt_base.specs.declared.limits.TheConstants.{WIDE}
use Rattle.tilt_stream.proofs.Places.{passed-at, past-all}
use Rattle.tilt_stream.proofs.cursor.is_passed.Goals as goal

pub returns-in-Some : goal.returns-in-Some
returns-in-Some g c =
    let list = g.B.Buffer.list c.args.buffer.now in
    let passed = passed-at (neg_ℤ WIDE) WIDE list c.args.place c.in-Some.snap c.args.tick c.at.ensures.in_order (sym c.in-Some.ensures.snap) in
    let fits : FitsSigned w64 c.args.tick = search rules in
    let end_fits : FitsSigned w64 c.snap.inside.end = search rules in
    rw (to_z-of_z fits, to_z-of_z end_fits) (rw (← c.snap.view_is) at passed)

pub returns-in-None : goal.returns-in-None
returns-in-None g c =
    let all = past-all (g.B.Buffer.list c.args.buffer.now) c.args.place (sym c.in-None.ensures.snap) in
    let made = c.requires.made in
    absurd (omega arith)
