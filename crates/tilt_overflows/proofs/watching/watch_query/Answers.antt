use Rattle.std.proofs.Common.{◌≡◌, ◌+◌, ◌<◌, length, map, rules, subst, sym}
use Rattle.tilt_core.specs.Core.{IsCore}
use Rattle.tilt_overflows.proofs.Accepted.{watching_accepted}
use Rattle.tilt_overflows.proofs.Large.{err_and, watches_small}
use Rattle.tilt_overflows.proofs.watching.watch_query.Goals as goal
use Rattle.tilt_overflows.specs.Watching.{AreSmall, watch, watching_core, watching_defs}
use Rattle.tilt_overflows.specs.declared.fault.WatchError.TheVariants.{TooLarge}

pub returns-in_err-push_watches : goal.returns-in_err-push_watches
returns-in_err-push_watches c =
    let core = c.args.core.now in
    let same : c.defs-2.result.now ≡ core.defs = c.defs-2.ensures.defs in
    err_and c.from_residual-in_err-push_watches.result c.in_err-push_watches.field-0.0 (λ made. made ≡ watching_core core) (λ fault. fault ≡ TooLarge → IsCore (watching_core core) → ⊥)
    c.from_residual-in_err-push_watches.ensures
    (λ is accepted. c.in_err-push_watches.ensures.small is (subst (λ defs. AreSmall (map watch defs)) (sym same) (watches_small core accepted)))

pub new-requires : goal.new-requires
new-requires c =
    let core = c.args.core.now in
    let inputs : c.in_ok-inputs.inputs.items ≡ core.inputs = search rules in
    let names : c.in_ok-names.names.items ≡ (watching_core core).names = search rules in
    let defs : c.push_one.new.all.items ≡ watching_defs core = search rules in
    let few : length core.inputs + length core.defs + length core.defs < 256 = search rules in
    let same : c.defs-2.result.now ≡ core.defs = c.defs-2.ensures.defs in
    let small : AreSmall (map watch core.defs) = subst (λ defs. AreSmall (map watch defs)) same c.in_ok-push_watches.ensures.small in
    let parts : watching_core core ≡ record { inputs = c.in_ok-inputs.inputs.items; names = c.in_ok-names.names.items; defs = c.push_one.new.all.items } =
    (λ i. record { inputs = sym inputs i; names = sym names i; defs = sym defs i }) in
    subst IsCore parts (watching_accepted core c.inputs.ensures.accepted few small)
