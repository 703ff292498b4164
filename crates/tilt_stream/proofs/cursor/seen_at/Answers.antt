use Rattle.std.proofs.Common.{◌≡◌, FitsSigned, to_z-of_z, w64, pos, ◌+ℤ◌, neg_ℤ, arith, rules}
use Rattle.std.proofs.lemmas.Int.{ints}
use Rattle.tilt_base.specs.declared.limits.TheConstants.{WIDE}
use Rattle.tilt_stream.proofs.Ended.{cell-found, cell-before, cell-behind, mark-found, mark-before, mark-behind}
use Rattle.tilt_stream.proofs.Places.{found-stands, found-there, none-stands, passed-at}
use Rattle.tilt_stream.specs.Snap.{ended_below}
use Rattle.tilt_stream.proofs.cursor.seen_at.Goals as goal

pub returns-in_default-clause-stands : goal.returns-in_default-clause-stands
returns-in_default-clause-stands g c = none-stands _ c.args.place c.args.tick (search rules) c.requires.fits

pub returns-in_default-clause-cell : goal.returns-in_default-clause-cell
returns-in_default-clause-cell g c =
    let at : c.args.place ≡ ended_below c.args.tick (g.B.Buffer.list c.args.buffer.now) =
    none-stands _ c.args.place c.args.tick (search rules) c.requires.fits in
    cell-behind (neg_ℤ WIDE) WIDE _ c.args.tick c.snap_at.ensures.in_order (rw (← at) (search rules))

pub returns-in_default-clause-next : goal.returns-in_default-clause-next
returns-in_default-clause-next g c =
    let at : c.args.place ≡ ended_below c.args.tick (g.B.Buffer.list c.args.buffer.now) =
    none-stands _ c.args.place c.args.tick (search rules) c.requires.fits in
    mark-behind (neg_ℤ WIDE) WIDE _ c.args.tick c.snap_at.ensures.in_order (rw (← at) (search rules))

pub returns-then-snap-tick-clause-stands : goal.returns-then-snap-tick-clause-stands
returns-then-snap-tick-clause-stands g c =
    (passed-at (neg_ℤ WIDE) WIDE _ c.args.place c.in-Some.snap c.args.tick c.snap_at.ensures.in_order (search rules)).0
    (rw (← c.snap.view_is) (grind (arith, ints)))

pub returns-then-snap-tick-2-clause-stands : goal.returns-then-snap-tick-2-clause-stands
returns-then-snap-tick-2-clause-stands g c =
    found-stands (neg_ℤ WIDE) WIDE _ c.args.place c.in-Some.snap c.args.tick c.snap_at.ensures.in_order (search rules)
    (rw (← c.snap.view_is) (grind (arith, ints))) c.requires.fits

pub returns-else-snap-tick-2-clause-stands : goal.returns-else-snap-tick-2-clause-stands
returns-else-snap-tick-2-clause-stands g c =
    found-stands (neg_ℤ WIDE) WIDE _ c.args.place c.in-Some.snap c.args.tick c.snap_at.ensures.in_order (search rules)
    (rw (← c.snap.view_is) (grind (arith, ints))) c.requires.fits

pub returns-then-snap-tick-2-clause-cell : goal.returns-then-snap-tick-2-clause-cell
returns-then-snap-tick-2-clause-cell g c =
    let here = found-there (neg_ℤ WIDE) WIDE _ c.args.place c.in-Some.snap c.args.tick c.snap_at.ensures.in_order (search rules)
    (rw (← c.snap.view_is) (grind (arith, ints))) c.requires.fits in
    rw (← c.snap.view_is) at (cell-found (neg_ℤ WIDE) WIDE _ c.args.tick c.in-Some.snap c.snap_at.ensures.in_order here
    (rw (← c.snap.view_is) (grind (arith, ints))))

pub returns-else-snap-tick-2-clause-cell : goal.returns-else-snap-tick-2-clause-cell
returns-else-snap-tick-2-clause-cell g c =
    let here = found-there (neg_ℤ WIDE) WIDE _ c.args.place c.in-Some.snap c.args.tick c.snap_at.ensures.in_order (search rules)
    (rw (← c.snap.view_is) (grind (arith, ints))) c.requires.fits in
    cell-before (neg_ℤ WIDE) WIDE _ c.args.tick c.in-Some.snap c.snap_at.ensures.in_order here (rw (← c.snap.view_is) (grind (arith, ints)))

pub returns-then-snap-tick-2-clause-next : goal.returns-then-snap-tick-2-clause-next
returns-then-snap-tick-2-clause-next g c =
    let here = found-there (neg_ℤ WIDE) WIDE _ c.args.place c.in-Some.snap c.args.tick c.snap_at.ensures.in_order (search rules)
    (rw (← c.snap.view_is) (grind (arith, ints))) c.requires.fits in
    let next = mark-found (neg_ℤ WIDE) WIDE _ c.args.tick c.in-Some.snap c.snap_at.ensures.in_order here
    (rw (← c.snap.view_is) (grind (arith, ints))) in
    let fits : FitsSigned w64 c.snap.inside.end = search rules in
    let next_fits : FitsSigned w64 (c.snap.inside.end +ℤ pos 1) = search rules in
    rw (to_z-of_z fits, to_z-of_z next_fits) (rw (← c.snap.view_is) at next)

pub returns-else-snap-tick-2-clause-next : goal.returns-else-snap-tick-2-clause-next
returns-else-snap-tick-2-clause-next g c =
    let here = found-there (neg_ℤ WIDE) WIDE _ c.args.place c.in-Some.snap c.args.tick c.snap_at.ensures.in_order (search rules)
    (rw (← c.snap.view_is) (grind (arith, ints))) c.requires.fits in
    let next = mark-before (neg_ℤ WIDE) WIDE _ c.args.tick c.in-Some.snap c.snap_at.ensures.in_order here
    (rw (← c.snap.view_is) (grind (arith, ints))) in
    let fits : FitsSigned w64 c.snap.inside.start = search rules in
    let next_fits : FitsSigned w64 (c.snap.inside.start +ℤ pos 1) = search rules in
    rw (to_z-of_z fits, to_z-of_z next_fits) (rw (← c.snap.view_is) at next)
