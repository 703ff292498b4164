use Rattle.std.proofs.Common.{FitsSigned, to_z-of_z, w64, rules}
use Rattle.tilt_engine.proofs.Inlets.{update-inlet}
use Rattle.tilt_engine.specs.contracts.inlet.Inlet.{the_view}
use Rattle.tilt_engine.proofs.inlet.Inlet.update.Goals as goal

pub invariant_of-self-2 : goal.invariant_of-self-2
invariant_of-self-2 c =
    let fits : FitsSigned w64 c.resting_end-self-inside.result = search rules in
    let before = the_view c.self.inside in
    let allowed = rw (← c.self.view_is) at c.requires in
    rw (to_z-of_z fits, c.resting_end-self-inside.ensures, c.edge_after-self-inside.ensures, c.in_ok-add_closed.ensures.ok)
    (update-inlet c.args.update before.input c.self.invariant.order allowed)
