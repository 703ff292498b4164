use Rattle.std.proofs.Common.{◌∙◌, List, ap, map}
use Rattle.tilt_engine.proofs.Engined.{inlet-horizons}
use Rattle.tilt_engine.specs.Stock.{InletParts, inlet_horizon}
use Rattle.tilt_engine.proofs.engine.Engine.input_horizons.Goals as goal

pub returns : goal.returns
returns c = λ code feed given is.
    let e = c.args.self.now in
    c.in_ok-add_inputs.ensures.value
    ∙ ap (λ (list : List InletParts). map (inlet_horizon e.finished) list) c.deref.ensures.value
    ∙ inlet-horizons e code feed given is.at
