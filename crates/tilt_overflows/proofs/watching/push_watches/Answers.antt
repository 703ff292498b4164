use Rattle.std.proofs.Common.{◌≡◌, map}
use Rattle.tilt_overflows.proofs.Large.{err_and, too_large}
use Rattle.tilt_overflows.proofs.watching.push_watches.Goals as goal
use Rattle.tilt_overflows.specs.Watching.{AreSmall, watch}
use Rattle.tilt_overflows.specs.declared.fault.WatchError.TheVariants.{TooLarge}

pub returns-in_err-watch-clause-small : goal.returns-in_err-watch-clause-small
returns-in_err-watch-clause-small c =
    let defs = c.args.defs.now in
    err_and c.from_residual.result c.in_err-watch.field-0.0 (λ _. AreSmall (map watch defs)) (λ fault. fault ≡ TooLarge → AreSmall (map watch defs) → ⊥) c.from_residual.ensures
    (λ is. too_large defs c.loop-def.def-index c.def-item.result c.loop-def-test.true c.def-item.is (c.in_err-watch.ensures.small is))
