use Rattle.std.proofs.Common.{◌≡◌, ◌+◌, length, map, ap, ◌∙◌, arith}
use Rattle.tilt_feed.specs.Horizon.{with_horizons}
use Rattle.tilt_live.proofs.Ticks.{last-within}
use Rattle.tilt_engine.specs.CodeHorizon.{horizon_by}
use Rattle.tilt_live.proofs.horizon.query_horizon.Goals as goal

pub clipped-requires : goal.clipped-requires
clipped-requires c =
    let core = c.args.core.now in
    let inputs = c.args.inputs.now in
    let accepted = c.emitted.ensures.accepted in
    let last : c.emitted.result + 1 ≡ length inputs + length core.defs = omega (arith, accepted.one_emitted, c.emitted.ensures.number, c.requires.each) in
    let made : map horizon_by c.deref.result.now ≡ with_horizons (map horizon_by inputs) core.defs =
    ap (map horizon_by) c.deref.ensures.value ∙ c.in_ok-add_definitions.ensures.value
    ∙ ap (λ hs. with_horizons (map horizon_by hs) c.defs.result.now) c.in_ok-horizons.ensures.same ∙ ap (with_horizons (map horizon_by inputs)) c.defs.ensures.defs in
    last-within inputs c.deref.result.now core.defs c.domain.result c.emitted.result c.horizon_of-horizon.result c.domain.ensures.span c.domain.ensures.stretch last
    made c.horizon_of-horizon.ensures.value
