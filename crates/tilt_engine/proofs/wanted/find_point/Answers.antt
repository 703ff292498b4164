use Rattle.std.proofs.Common.{◌≡◌, ap, FitsSigned, w64, to_z, of_z, pos, ◌+ℤ◌, arith, rules}
use Rattle.std.proofs.lemmas.Int.{ints, to_z-of_z}
use Rattle.tilt_base.specs.Grid.{ceil}
use Rattle.tilt_code.specs.Code.{LoopParts}
use Rattle.tilt_turn.proofs.TurnTicks.{point-near}
use Rattle.tilt_engine.proofs.wanted.find_point.Goals as goal

pub returns-clause-near : goal.returns-clause-near
returns-clause-near c =
    let each = c.args.each.now in
    let ready = c.requires.ready.1 in
    let grid = ap (λ (l : LoopParts). l.grid) c.each.view_is in
    let fits : FitsSigned w64 c.ceil.result = search rules in
    let limit = ready.stretch.high in
    let below = c.requires.high in
    let next : to_z w64 (of_z w64 (to_z w64 (of_z w64 c.args.start) +ℤ pos 1)) ≡ c.args.start +ℤ pos 1 = omega (arith, ints) in
    let value : c.ceil.result ≡ ceil each.grid (c.args.start +ℤ pos 1) = rw (next, grid) at c.ceil.ensures.value in
    rw (to_z-of_z w64 c.ceil.result fits, value)
    (point-near each.grid each.lo each.hi c.args.start ready.grid ready.stretch c.requires.low c.requires.high)
