use Rattle.std.proofs.Common.{Some, length, refl, sym}
use Rattle.std.proofs.lemmas.Option.{slice_get_read}
use Rattle.tilt_watermarks.proofs.Places.{overlaps-at, overlaps-never, overlaps-past}
use Rattle.tilt_watermarks.proofs.lanes.Lanes.overlaps_at.Goals as goal

pub returns-in-Some-Some : goal.returns-in-Some-Some
returns-in-Some-Some c =
    let found = c.in-Some-Some.ensures.lookup in
    let inputs = c.deref.result.now in
    let number = c.args.number in
    let input = c.in-Some-Some.lane.now in
    rw (← c.deref.ensures.value, c.in-Some-Some.is-0, c.overlaps.ensures)
    (sym (overlaps-at (Some c.in-Some-Some.field-0-0) inputs number input c.args.update (slice_get_read inputs (length inputs) number input refl found.3.0 found.1)))

pub returns-in_default : goal.returns-in_default
returns-in_default c = rw (← c.deref.ensures.value) (sym (overlaps-past c.args.lateness c.deref.result.now c.args.number c.args.update c.in_default.ensures.lookup.3))

pub returns-in_default-2 : goal.returns-in_default-2
returns-in_default-2 c = rw c.in_default.is-0 (sym (overlaps-never c.args.self.now.lanes.items c.args.number c.args.update))
