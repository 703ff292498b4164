use Rattle.std.proofs.Common.{FitsSigned, to_z-of_z, w64, arith, rules}
use Rattle.tilt_stream.proofs.Places.{ended-rises}
use Rattle.tilt_stream.proofs.cursor.Cursor.look.Goals as goal

pub seen_at-requires-clause-fits : goal.seen_at-requires-clause-fits
seen_at-requires-clause-fits g c =
    let fits : FitsSigned w64 c.args.tick = search rules in
    let rise = ended-rises c.args.self.now.tick c.args.tick (g.B.Buffer.list c.args.buffer.now) c.requires.onwards in
    rw (to_z-of_z fits) (omega (arith, rise, c.requires.fits))
