use Rattle.std.proofs.Common.{◌∙◌, List, ap}
use Rattle.tilt_engine.proofs.Taking.{engine-fault}
use Rattle.tilt_engine.specs.Inlets.{inlet_fault}
use Rattle.tilt_engine.specs.Stock.{InletParts}
use Rattle.tilt_engine.proofs.engine.Engine.fault.Goals as goal

pub returns : goal.returns
returns c = λ code feed given is.
    let e = c.args.self.now in
    c.fault_of.ensures
    ∙ ap (λ (list : List InletParts). inlet_fault e.finished list c.args.event) c.deref.ensures.value
    ∙ engine-fault e code feed given c.args.event is.at
