use Rattle.std.proofs.Common.{◌∷◌, FitsSigned, subst, rules}
use Rattle.std.specs.Int.{w64}
use Rattle.std.proofs.lemmas.Int.{to_z-of_z}
use Rattle.tilt_base.specs.Reduce.{numbers}
use Rattle.tilt_window.proofs.state.remove_cell.Goals as goal

pub remove_first-requires : goal.remove_first-requires
remove_first-requires g c =
    let (cells, held) = c.requires in
    let fits : FitsSigned w64 c.in-Some.number = search rules in
    record {
      held = (numbers cells, rw (to_z-of_z w64 _ fits) (subst (λ cell. g.R.Reduction.Holds c.args.state.now (numbers (cell ∷ cells))) c.in-Some.is held));
    }
