use Rattle.std.proofs.Common.{◌≡◌, ◌+◌, length, refl, Some, rules}
use Rattle.std.specs.Prelude.{option_map}
use Rattle.tilt_core.specs.Core.{domain_of}
use Rattle.tilt_core.specs.CoreTree.{tree_of}
use Rattle.tilt_overflows.proofs.Reach.{margins_reach, reach_low, reach_of}
use Rattle.tilt_overflows.proofs.watching.emitted_watch.Goals as goal
use Rattle.tilt_overflows.specs.Watching.{each_tick, some_of, widened}

pub widened-requires-clause-back : goal.widened-requires-clause-back
widened-requires-clause-back c = rw ((margins_reach c.args.core.now c.args.margins.now c.requires).back) (reach_low c.args.core.now).0

pub widened-requires-clause-ahead : goal.widened-requires-clause-ahead
widened-requires-clause-ahead c = rw ((margins_reach c.args.core.now c.args.margins.now c.requires).ahead) (reach_low c.args.core.now).1

pub returns : goal.returns
returns c =
    let core = c.args.core.now in
    let is = margins_reach core c.args.margins.now c.requires in
    let body : tree_of c.in_ok-body.body ≡ some_of (length core.inputs + length core.defs) (length core.names) = search rules in
    let over : Some c.widened.result ≡ option_map (widened (reach_of core)) (domain_of core.defs) = rw (c.domain.ensures.span, c.widened.ensures, is.back, is.ahead) refl in
    (λ i. record { body = body i; over = over i; grid = each_tick })
