use Rattle.std.proofs.Common.{◌<◌, ℤ, List, [], ◌∷◌, ◌++◌, Option, length, subst, sym, arith, rules}
use Rattle.tilt_base.proofs.Lists.{numbers-append}
use Rattle.tilt_base.specs.Reduce.{numbers}
use Rattle.tilt_window.proofs.Stacked.{first_state, few_joined}
use Rattle.tilt_window.proofs.turn.state_from.Goals as goal

few_with : (cell : Option ℤ) (cells : List (Option ℤ)) → length cells < 4611686018427387904 →
    length (numbers (cell ∷ []) ++ numbers cells) < 9223372036854775808
few_with cell cells few = few_joined (cell ∷ []) cells (omega (arith, few))

pub merge-requires : goal.merge-requires
merge-requires g c =
    let (cells, few, each) = c.requires in
    let some : 0 < length c.args.behind.now.items = search rules in
    let state = c.in-Some.state.now in
    let held = first_state g.R.Reduction.Holds c.args.behind.now.items state cells some (search rules) each in
    record { few = (numbers (c.args.cell ∷ []), numbers cells, c.add_cell.ensures [] (omega arith) c.empty-first.ensures, held, few_with c.args.cell cells few) }

pub returns-in-Some : goal.returns-in-Some
returns-in-Some g c = λ cells few each.
    let some : 0 < length c.args.behind.now.items = search rules in
    let state = c.in-Some.state.now in
    let held = first_state g.R.Reduction.Holds c.args.behind.now.items state cells some (search rules) each in
    let merged = c.merge.ensures (numbers (c.args.cell ∷ [])) (numbers cells) (few_with c.args.cell cells few)
    (c.add_cell.ensures [] (omega arith) c.empty-first.ensures) held in
    subst (λ ns. g.R.Reduction.Holds c.merge.result ns) (sym (numbers-append (c.args.cell ∷ []) cells)) merged
