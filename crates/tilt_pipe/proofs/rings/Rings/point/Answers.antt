use Rattle.std.proofs.Common.{FitsSigned, to_z-of_z, w64, ◌<◌, ◌<ℤ◌, ◌≤ℤ◌, neg_ℤ, ◌+ℤ◌, pos, length, ap, ◌∙◌, arith, rules}
use Rattle.std.proofs.lemmas.Int.{ints}
use Rattle.tilt_base.specs.declared.limits.TheConstants.{WIDE}
use Rattle.tilt_code.specs.Code.{LoopParts}
use Rattle.tilt_pipe.proofs.RingsKept.{IsPlaced, loop-is, placed}
use Rattle.tilt_pipe.specs.Made.{Work}
use Rattle.tilt_pipe.specs.contracts.rings.Rings.{the_view}
use Rattle.tilt_pipe.proofs.rings.Rings.point.Goals as goal
use Rattle.tilt_pipe.proofs.rings.Rings.point.Goals.{After-loops, After-start}

here : (c : After-loops) → (w : Work) × IsPlaced (the_view c.self.inside) c.args.place w
here c =
    let open_ = rw (← c.self.view_is) at c.requires in
    (open_.0, placed _ c.args.place open_.0 c.loops.ensures.code c.self.invariant open_.1)

pub bounds-loops-place : goal.bounds-loops-place
bounds-loops-place c = omega (arith, (here c).1.within_loops, ap length c.loops.ensures.loops)

pub offset_bounds-loops-place : goal.offset_bounds-loops-place
offset_bounds-loops-place c =
    let within : c.args.place < length c.loops.result.now = omega (arith, (here c).1.within_loops, ap length c.loops.ensures.loops) in
    search rules

pub start-requires : goal.start-requires
start-requires c = rw (← c.self.view_is) (here (goal.at.start-requires c).After-loops).1.within

-- its position fits, and so does the tick after that
fits : (c : After-start) → FitsSigned w64 c.start.result × FitsSigned w64 (c.start.result +ℤ pos 1)
    × (neg_ℤ WIDE ≤ℤ c.start.result) × (c.start.result <ℤ WIDE)
fits c =
    let it = (here c.before.before.before).1 in
    let start = rw (← c.self.view_is) at c.start.ensures in
    let low : neg_ℤ WIDE ≤ℤ c.start.result = rw start it.low in
    let high : c.start.result <ℤ WIDE = rw start it.high in
    (search rules, search rules, low, high)

pub overflow_add-start : goal.overflow_add-start
overflow_add-start c = let f = fits c in rw (to_z-of_z f.0) f.1

pub ceil-requires : goal.ceil-requires
ceil-requires c =
    let f = fits (goal.at.ceil-requires c).After-start in
    rw (to_z-of_z f.0, to_z-of_z f.1) (record { low = omega (arith, ints); high = omega (arith, ints) })

pub returns : goal.returns
returns c = λ w open_.
    let f = fits (goal.at.returns c).After-start in
    let of = (rw (← c.self.view_is) at open_).is in
    let loop = loop-is (the_view c.self.inside) c.args.place w c.loops.result.now c.index-loops-place.result of c.loops.ensures.loops c.index-loops-place.is in
    let grid = ap (λ (l : LoopParts). l.grid) (c.each.view_is ∙ loop) in
    let point_fits : FitsSigned w64 c.ceil.result = search rules in
    let value = rw (to_z-of_z f.0, to_z-of_z f.1, grid, c.start.ensures) at c.ceil.ensures.value in
    rw (to_z-of_z point_fits) value
