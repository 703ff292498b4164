use Rattle.std.proofs.Common.{◌∙◌, neg_ℤ, rules}
use Rattle.tilt_base.specs.declared.limits.TheConstants.{WIDE}
use Rattle.tilt_stream.proofs.Ended.{first-found, none-found, InOrder-at}
use Rattle.tilt_stream.proofs.snap_list.SnapList.first_left.Goals as goal

pub returns-clause-snap : goal.returns-clause-snap
returns-clause-snap c =
    let found = c.in_ok-snap.ensures.lookup in
    rw (← c.self.view_is, ← c.deref.ensures.value) (first-found c.deref.result.now c.args.tick c.ended_below.result c.in_ok-snap.snap.now (search rules) found.3.0 found.1)

pub returns-in_err-snap-clause-snap : goal.returns-in_err-snap-clause-snap
returns-in_err-snap-clause-snap c =
    c.from_residual.ensures ∙ rw (← c.self.view_is, ← c.deref.ensures.value) (none-found c.deref.result.now c.args.tick c.ended_below.result (search rules) c.in_err-snap.ensures.lookup.0)

pub returns-clause-low : goal.returns-clause-low
returns-clause-low c =
    let found = c.in_ok-snap.ensures.lookup in
    (InOrder-at (neg_ℤ WIDE) WIDE c.self.inside.snaps.items c.ended_below.result c.in_ok-snap.snap.now c.self.invariant.in_order (search rules) (search rules)).0

pub returns-clause-high : goal.returns-clause-high
returns-clause-high c =
    let found = c.in_ok-snap.ensures.lookup in
    (InOrder-at (neg_ℤ WIDE) WIDE c.self.inside.snaps.items c.ended_below.result c.in_ok-snap.snap.now c.self.invariant.in_order (search rules) (search rules)).2
