use Rattle.std.proofs.Common.{neg_ℤ, arith, ◌∙◌, rules}
use Rattle.std.proofs.lemmas.Int.{ints}
use Rattle.tilt_base.specs.declared.limits.TheConstants.{WIDE}
use Rattle.tilt_stream.proofs.Ended.{cell-found, cell-before, cell-behind}
use Rattle.tilt_stream.proofs.snap_list.SnapList.value_at.Goals as goal

pub returns-then-snap-tick : goal.returns-then-snap-tick
returns-then-snap-tick c =
    rw (← c.snap.view_is) at (cell-found (neg_ℤ WIDE) WIDE c.args.self.now c.args.tick c.in_ok-snap.snap c.first_left.ensures.no_gaps.in_order
    (search rules) (rw (← c.snap.view_is) (grind (arith, ints))))

pub returns-else-snap-tick : goal.returns-else-snap-tick
returns-else-snap-tick c =
    cell-before (neg_ℤ WIDE) WIDE c.args.self.now c.args.tick c.in_ok-snap.snap c.first_left.ensures.no_gaps.in_order (search rules) (rw (← c.snap.view_is) (grind (arith, ints)))

pub returns-in_err-snap : goal.returns-in_err-snap
returns-in_err-snap c =
    c.from_residual.ensures ∙ cell-behind (neg_ℤ WIDE) WIDE c.args.self.now c.args.tick c.first_left.ensures.no_gaps.in_order (search rules)
