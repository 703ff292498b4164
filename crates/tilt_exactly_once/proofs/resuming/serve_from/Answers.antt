use Rattle.std.proofs.Common.{◌∙◌, ap, refl, Err}
use Rattle.std.proofs.lemmas.Result.{err_from_is_err_and}
use Rattle.tilt_exactly_once.specs.Feeding.{passed, unpassed}
use Rattle.tilt_exactly_once.proofs.resuming.serve_from.Goals as goal

pub returns-in_err-pass-clause-served : goal.returns-in_err-pass-clause-served
returns-in_err-pass-clause-served g c told of bytes underway holds =
    let p = err_from_is_err_and c.from_residual.result c.from_residual.ensures.1 in
    rw (p.1 ∙ ap Err p.2) (unpassed refl (c.in_err-pass.ensures.unpassed of bytes underway.machine_is))

pub returns-clause-served : goal.returns-clause-served
returns-clause-served g c told of bytes underway holds =
    passed (g.P.Port.transcript c.pass.new.port) (c.in_ok-pass.ensures.reached of bytes underway.machine_is) (λ t. c.in_ok-pass.ensures.passed t of bytes underway.machine_is)
    c.serve.ensures.halt (c.serve.ensures.served told of bytes underway holds)
