use Rattle.std.proofs.Common.{rules, ℤ, pos}
use Rattle.std.proofs.lemmas.Result.{err_from_is_err_and}
use Rattle.tilt_cli.specs.Number.{IsNumber}
use Rattle.tilt_cli.proofs.number.push_number.Goals as goal

pub returns-in_err-number : goal.returns-in_err-number
returns-in_err-number c =
    let p = err_from_is_err_and c.from_residual.result c.from_residual.ensures.1 in
    let none : (z : ℤ) → ¬ (IsNumber (pos 0) (pos 4294967295) c.args.word.now z) = search rules in
    rw p.1 (λ usage number is. none (pos number) is)
