use Rattle.std.proofs.Common.{FitsSigned, to_z-of_z, w64, pos, ◌+ℤ◌, neg_ℤ, arith, rules}
use Rattle.std.proofs.lemmas.Int.{ints}
use Rattle.tilt_base.specs.declared.limits.TheConstants.{WIDE}
use Rattle.tilt_stream.proofs.Ended.{mark-found, mark-before, mark-behind}
use Rattle.tilt_stream.proofs.snap_list.SnapList.next_begin.Goals as goal

pub returns-in_err-snap-clause-next : goal.returns-in_err-snap-clause-next
returns-in_err-snap-clause-next c =
    rw c.from_residual.ensures (mark-behind (neg_ℤ WIDE) WIDE c.args.self.now c.args.after c.first_left.ensures.no_gaps.in_order (search rules))

pub returns-then-after-snap-clause-next : goal.returns-then-after-snap-clause-next
returns-then-after-snap-clause-next c =
    let next = mark-before (neg_ℤ WIDE) WIDE c.args.self.now c.args.after c.in_ok-snap.snap c.first_left.ensures.no_gaps.in_order (search rules) (rw (← c.snap.view_is) (grind (arith, ints))) in
    let fits : FitsSigned w64 c.snap.inside.start = search rules in
    let next_fits : FitsSigned w64 (c.snap.inside.start +ℤ pos 1) = search rules in
    rw (to_z-of_z fits, to_z-of_z next_fits) (rw (← c.snap.view_is) at next)

pub returns-else-after-snap-clause-next : goal.returns-else-after-snap-clause-next
returns-else-after-snap-clause-next c =
    let next = mark-found (neg_ℤ WIDE) WIDE c.args.self.now c.args.after c.in_ok-snap.snap c.first_left.ensures.no_gaps.in_order (search rules) (rw (← c.snap.view_is) (grind (arith, ints))) in
    let fits : FitsSigned w64 c.snap.inside.end = search rules in
    let next_fits : FitsSigned w64 (c.snap.inside.end +ℤ pos 1) = search rules in
    rw (to_z-of_z fits, to_z-of_z next_fits) (rw (← c.snap.view_is) at next)
