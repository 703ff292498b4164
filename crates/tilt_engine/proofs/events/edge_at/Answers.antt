use Rattle.std.proofs.Common.{◌∙◌, length, refl, sym}
use Rattle.std.proofs.lemmas.Option.{slice_get_read}
use Rattle.tilt_engine.proofs.InletPlaces.{edge-at, edge-past}
use Rattle.tilt_engine.proofs.events.edge_at.Goals as goal

pub returns-in-Some : goal.returns-in-Some
returns-in-Some c =
    let found = c.in-Some.ensures.lookup in
    let inlets = c.args.inputs.now in
    let number = c.args.number in
    let input = c.in-Some.input.now in
    c.edge.ensures.edge ∙ sym (edge-at inlets number input (slice_get_read inlets (length inlets) number input refl found.3.0 found.1))

pub returns-in-None : goal.returns-in-None
returns-in-None c = sym (edge-past c.args.inputs.now c.args.number c.in-None.ensures.lookup.3)
