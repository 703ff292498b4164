use Rattle.std.proofs.Common.{FitsSigned, to_z-of_z, w64, ◌≡◌, ◌<◌, ◌≤ℤ◌, ◌+◌, length, neg_ℤ, sym, ◌∙◌, arith, rules}
use Rattle.circular_buffer.proofs.Places.{slice_get-append_right}
use Rattle.tilt_base.specs.declared.limits.TheConstants.{WIDE}
use Rattle.tilt_engine.proofs.Inlets.{end-low, inlet-order, inlet-past, open-below}
use Rattle.tilt_engine.specs.Stock.{IsInlet}
use Rattle.tilt_engine.specs.contracts.inlet.Inlet.{the_view}
use Rattle.tilt_engine.specs.declared.inlet.Inlet.TheInside.{Inside}
use Rattle.tilt_feed.specs.Feed.{closed_at}
use Rattle.tilt_engine.proofs.inlet.InletBuffer.at.Goals as goal

-- where it is taken to end fits
fits : (inside : Inside) → IsInlet (the_view inside) → FitsSigned w64 inside.end
fits inside is =
    let low : neg_ℤ WIDE ≤ℤ inside.end = end-low (the_view inside) is in
    let high : inside.end ≤ℤ WIDE = is.high in
    search rules

pub returns-then-place-len-clause-in_order : goal.returns-then-place-len-clause-in_order
returns-then-place-len-clause-in_order c = rw (← c.self.view_is) (inlet-order (the_view c.self.inside) c.self.invariant)

pub resting_row-requires : goal.resting_row-requires
resting_row-requires c = rw (to_z-of_z (fits c.self.inside c.self.invariant)) (open-below (the_view c.self.inside) c.self.invariant)

pub returns-then-place-len-2-clause-snap : goal.returns-then-place-len-2-clause-snap
returns-then-place-len-2-clause-snap c =
    let row = rw (to_z-of_z (fits c.self.inside c.self.invariant)) at c.resting_row.ensures in
    let rows = c.self.inside.rows in
    let at : c.args.place ≡ length rows + 0 = omega arith in
    rw (← c.self.view_is) (row ∙ sym (slice_get-append_right rows (closed_at c.self.inside.end c.self.inside.edge.open_row) c.args.place 0 at))

pub returns-then-place-len-2-clause-in_order : goal.returns-then-place-len-2-clause-in_order
returns-then-place-len-2-clause-in_order c = rw (← c.self.view_is) (inlet-order (the_view c.self.inside) c.self.invariant)

pub returns-clause-snap : goal.returns-clause-snap
returns-clause-snap c =
    let past : length c.self.inside.rows < c.args.place = omega arith in
    rw (← c.self.view_is) (inlet-past (the_view c.self.inside) c.args.place past)

pub returns-clause-in_order : goal.returns-clause-in_order
returns-clause-in_order c = rw (← c.self.view_is) (inlet-order (the_view c.self.inside) c.self.invariant)
