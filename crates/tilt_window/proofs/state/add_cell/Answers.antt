use Rattle.std.proofs.Common.{◌<◌, ℤ, List, [], ◌∷◌, ◌++◌, Option, FitsSigned, length, subst, arith, rules}
use Rattle.std.specs.Int.{w64}
use Rattle.std.proofs.lemmas.Int.{to_z-of_z}
use Rattle.std.proofs.lemmas.List.{append-nil}
use Rattle.tilt_base.proofs.Lists.{numbers-append, length-numbers}
use Rattle.tilt_base.specs.Reduce.{numbers}
use Rattle.tilt_window.proofs.state.add_cell.Goals as goal

few_numbers : (cells : List (Option ℤ)) → length cells < 9223372036854775807 → length (numbers cells) < 9223372036854775807
few_numbers cells few = omega (arith, few, length-numbers cells)

pub add-requires : goal.add-requires
add-requires g c =
    let (cells, held, few) = c.requires in
    record { few = (numbers cells, held, few_numbers cells few) }

pub returns-in-Some : goal.returns-in-Some
returns-in-Some g c = λ cells few held.
    let fits : FitsSigned w64 c.in-Some.number = search rules in
    let added = c.add.ensures (numbers cells) (few_numbers cells few) held in
    rw (numbers-append cells (c.args.cell ∷ []), c.in-Some.is)
    (subst (λ n. g.R.Reduction.Holds c.add.new.state (numbers cells ++ n ∷ [])) (to_z-of_z w64 _ fits) added)

pub returns-in_default : goal.returns-in_default
returns-in_default g c = λ cells few held. rw (numbers-append cells (c.args.cell ∷ []), c.in_default.is, append-nil) held
