use Rattle.std.proofs.Common.{◌≡◌, ◌∙◌, ◌<◌, ◌≤◌, ℤ, List, [], ◌∷◌, ◌++◌, Option, Bor, FitsSigned, length, map, subst, ap, arith, rules}
use Rattle.std.specs.Int.{w64}
use Rattle.std.proofs.lemmas.Int.{to_z-of_z}
use Rattle.std.proofs.lemmas.List.{append-nil, length-map, map_push}
use Rattle.std.proofs.lemmas.Iterator.Consumers.{YieldsList-from_deque, YieldsList-turn}
use Rattle.tilt_base.proofs.Lists.{numbers-append, length-numbers}
use Rattle.tilt_base.specs.Reduce.{numbers}
use Rattle.tilt_window.proofs.refold.RefoldWindow.result.Goals as goal

-- the numbers among the cells that were read
abbrev read : List (Bor (Option ℤ)) → List ℤ
read yielded = numbers (map (λ cell. cell.now) yielded)

few_read : (yielded : List (Bor (Option ℤ))) (all : List (Option ℤ)) →
    length yielded < length all → length all ≤ 4611686018427387904 → length (read yielded) < 9223372036854775807
few_read yielded all turn held =
    let cells : List (Option ℤ) = map (λ cell. cell.now) yielded in
    omega (arith, length-numbers cells, length-map yielded (λ (cell : Bor (Option ℤ)). cell.now))

read_more : (yielded : List (Bor (Option ℤ))) (cell : Bor (Option ℤ)) → read (yielded ++ cell ∷ []) ≡ read yielded ++ numbers (cell.now ∷ [])
read_more yielded cell =
    let now = λ (c : Bor (Option ℤ)). c.now in
    ap numbers (map_push now yielded cell) ∙ numbers-append (map now yielded) (cell.now ∷ [])

pub add-requires : goal.add-requires
add-requires g c =
    let cells = YieldsList-from_deque c.self.inside.cells.items cc in
    let turn = YieldsList-turn cells c.loop-cell.yielded _ c.loop-cell.yielded_by _ _ c.in-Some.cell c.in-Some.is c.next.ensures.steps in
    record { few = (read c.loop-cell.yielded, c.loop-cell.invariant, few_read _ _ turn.0 c.self.invariant) }

pub loop-cell-preserved-in-Some-cell : goal.loop-cell-preserved-in-Some-cell
loop-cell-preserved-in-Some-cell g c =
    let fits : FitsSigned w64 c.in-Some-cell.number = search rules in
    let numbers_read = read c.loop-cell.yielded in
    let cells = YieldsList-from_deque c.self.inside.cells.items cc in
    let turn = YieldsList-turn cells c.loop-cell.yielded _ c.loop-cell.yielded_by _ _ c.in-Some.cell c.in-Some.is c.next.ensures.steps in
    let added = c.add.ensures numbers_read (few_read _ _ turn.0 c.self.invariant) c.loop-cell.invariant in
    rw (read_more c.loop-cell.yielded c.in-Some.cell, c.in-Some-cell.is)
    (subst (λ n. g.R.Reduction.Holds c.add.new.state (numbers_read ++ n ∷ [])) (to_z-of_z w64 _ fits) added)

pub loop-cell-preserved : goal.loop-cell-preserved
loop-cell-preserved g c =
    rw (read_more c.loop-cell.yielded c.in-Some.cell, c.in_default.is, append-nil) c.loop-cell.invariant
