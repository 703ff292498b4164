use Rattle.std.proofs.Common.{FitsSigned, rules}
use Rattle.std.specs.Int.{w64}
use Rattle.std.proofs.lemmas.Int.{to_z-of_z}
use Rattle.tilt_text.proofs.Numbers.{shortest_some, shortest_none}
use Rattle.tilt_text.proofs.spelled.shortest.Goals as goal

pub returns-in_err-number : goal.returns-in_err-number
returns-in_err-number c = rw c.from_residual.ensures (shortest_none c.args.word.now c.in_err-number.ensures)

pub returns : goal.returns
returns c =
    let fits : FitsSigned w64 c.in_ok-number.number = search rules in
    rw (to_z-of_z w64 c.in_ok-number.number fits) (shortest_some c.args.word.now c.in_ok-number.number fits c.in_ok-number.ensures)
