use Rattle.std.proofs.Common.{rules, ℤ, pos}
use Rattle.std.proofs.lemmas.Result.{err_from_is_err_and}
use Rattle.std.specs.Prelude.{◌+ℤ◌}
use Rattle.tilt_base.specs.declared.limits.TheConstants.{T}
use Rattle.tilt_cli.specs.Number.{IsNumber}
use Rattle.tilt_cli.proofs.Values.{only_ticks}
use Rattle.tilt_cli.proofs.value.Value.read.Goals as goal

pub returns-in_err-ok_or-in-Ticks : goal.returns-in_err-ok_or-in-Ticks
returns-in_err-ok_or-in-Ticks c =
    let p = err_from_is_err_and c.from_residual-in_err-ok_or-in-Ticks.result c.from_residual-in_err-ok_or-in-Ticks.ensures.1 in
    let none : (z : ℤ) → ¬ (IsNumber (pos 0) (T +ℤ T) c.args.word.now z) = search rules in
    rw (p.1, c.in-Ticks.is) (λ usage value is. let spelled = only_ticks c.args.word.now value is in none (pos spelled.0) spelled.1)
