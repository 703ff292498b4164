use Rattle.std.proofs.Common.{◌≡◌, ◌∙◌, sym, ap, FitsSigned, w64, to_z, of_z, pos, ◌-ℤ◌, arith, rules}
use Rattle.std.specs.Int.{int_min}
use Rattle.std.proofs.lemmas.Int.{ints, to_z-of_z}
use Rattle.tilt_base.specs.Grid.{floor}
use Rattle.tilt_code.proofs.Turns.{turn-end_by_mark, turn-end_without_mark}
use Rattle.tilt_code.specs.Code.{LoopParts}
use Rattle.tilt_turn.proofs.state.turn_end.Goals as goal

pub returns-in-Some : goal.returns-in-Some
returns-in-Some c =
    let each = c.args.each.now in
    let ready = c.requires.ready.1 in
    let next = c.in-Some.next in
    let bounds = rw c.in-Some.is at c.requires.bounds in
    let low = bounds.low in
    let high = bounds.high in
    let hi : c.each.inside.hi ≡ each.hi = ap (λ (l : LoopParts). l.hi) c.each.view_is in
    let grid : c.each.inside.grid ≡ each.grid = ap (λ (l : LoopParts). l.grid) c.each.view_is in
    let fits : FitsSigned w64 c.min.result = search rules in
    let fits_hi : FitsSigned w64 c.each.inside.hi = search rules in
    let fits_floor : FitsSigned w64 c.floor.result = search rules in
    let before : to_z w64 (of_z w64 (to_z w64 (of_z w64 next) -ℤ pos 1)) ≡ next -ℤ pos 1 = omega (arith, ints) in
    let floored : c.floor.result ≡ floor each.grid (next -ℤ pos 1) = rw (grid, before) at c.floor.ensures.value in
    let least : c.min.result ≡ int_min each.hi (floor each.grid (next -ℤ pos 1)) =
    rw (to_z-of_z w64 c.each.inside.hi fits_hi, to_z-of_z w64 c.floor.result fits_floor, hi, floored)
    at c.min.ensures.value in
    λ body start some names. to_z-of_z w64 c.min.result fits ∙ least
    ∙ sym (turn-end_by_mark body each.grid ready.grid each.hi start some next (rw c.in-Some.is at names))

pub returns-in-None : goal.returns-in-None
returns-in-None c =
    let each = c.args.each.now in
    let ready = c.requires.ready.1 in
    let hi : c.each.inside.hi ≡ each.hi = ap (λ (l : LoopParts). l.hi) c.each.view_is in
    let fits_hi : FitsSigned w64 c.each.inside.hi = search rules in
    λ body start some names. to_z-of_z w64 c.each.inside.hi fits_hi ∙ hi
    ∙ sym (turn-end_without_mark body each.grid ready.grid each.hi start some (rw c.in-None.is at names))
