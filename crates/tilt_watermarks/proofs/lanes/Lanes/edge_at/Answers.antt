use Rattle.std.proofs.Common.{◌∙◌, length, refl, sym, ap}
use Rattle.std.proofs.lemmas.Option.{slice_get_read}
use Rattle.tilt_watermarks.proofs.Places.{input-at, input-past}
use Rattle.tilt_watermarks.specs.Held.{Waiting}
use Rattle.tilt_watermarks.proofs.lanes.Lanes.edge_at.Goals as goal

pub returns-in-Some : goal.returns-in-Some
returns-in-Some c =
    let found = c.in-Some.ensures.lookup in
    let inputs = c.deref.result.now in
    let number = c.args.number in
    let input = c.in-Some.lane.now in
    rw (← c.deref.ensures.value) (c.edge.ensures.edge ∙ sym (ap (λ (i : Waiting). i.edge) (input-at inputs number input (slice_get_read inputs (length inputs) number input refl found.3.0 found.1))))

pub returns-in-None : goal.returns-in-None
returns-in-None c = rw (← c.deref.ensures.value) (sym (ap (λ (i : Waiting). i.edge) (input-past c.deref.result.now c.args.number c.in-None.ensures.lookup.3)))
