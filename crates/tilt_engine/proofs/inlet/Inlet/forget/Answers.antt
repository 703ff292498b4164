use Rattle.std.proofs.Common.{◌∙◌, List, refl, subst, sym}
use Rattle.tilt_engine.proofs.Shorter.{inlet-later}
use Rattle.tilt_engine.specs.Stock.{IsInlet}
use Rattle.tilt_stream.specs.Snap.{Snapshot}
use Rattle.tilt_engine.proofs.inlet.Inlet.forget.Goals as goal

pub invariant_of-self : goal.invariant_of-self
invariant_of-self c =
    let old = c.self.inside in
    subst (λ (list : List Snapshot). IsInlet (record { input = record { rows = list; edge = old.edge }; end = old.end })) (sym (c.in_ok-rows.ensures ∙ rw (← c.self.view_is) refl))
    (inlet-later c.args.count (record { input = record { rows = old.rows; edge = old.edge }; end = old.end }) c.self.invariant)
