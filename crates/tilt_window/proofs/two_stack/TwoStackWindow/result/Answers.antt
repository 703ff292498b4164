use Rattle.std.proofs.Common.{◌≤◌, ◌<◌, ◌∙◌, ◌++◌, length, subst, sym, ap, rules}
use Rattle.tilt_base.proofs.Lists.{numbers-append}
use Rattle.tilt_base.specs.Reduce.{numbers, reduce}
use Rattle.tilt_window.proofs.Stacked.{first_state, few_joined}
use Rattle.tilt_window.proofs.two_stack.TwoStackWindow.result.Goals as goal

pub merge-requires : goal.merge-requires
merge-requires g c =
    let (few, stacked) = c.self.invariant in
    let older = stacked.older_cells in
    let newer = stacked.newer_cells in
    let states = c.self.inside.states.items in
    let some : 0 < length states = search rules in
    let held = first_state g.R.Reduction.Holds states c.in-Some.older.now older some (search rules) stacked.from_each in
    let joined = few_joined older newer (subst (λ cells. length cells ≤ 4611686018427387904) stacked.split few) in
    record { few = (numbers older, numbers newer, held, stacked.all, joined) }

pub returns-in-Some : goal.returns-in-Some
returns-in-Some g c =
    let (few, stacked) = c.self.invariant in
    let older = stacked.older_cells in
    let newer = stacked.newer_cells in
    let states = c.self.inside.states.items in
    let some : 0 < length states = search rules in
    let held = first_state g.R.Reduction.Holds states c.in-Some.older.now older some (search rules) stacked.from_each in
    let joined = few_joined older newer (subst (λ cells. length cells ≤ 4611686018427387904) stacked.split few) in
    let merged = c.merge.ensures (numbers older) (numbers newer) joined held stacked.all in
    c.finish-in-Some.ensures (numbers older ++ numbers newer) merged ∙
    ap (λ ns. reduce g.R.Reduction.reducer ns) (sym (numbers-append older newer) ∙ ap numbers (sym stacked.split ∙ c.self.view_is))
