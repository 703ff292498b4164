use Rattle.std.proofs.Common.{◌≤◌, ◌∙◌, length, refl, sym, rules, w64}
use Rattle.std.proofs.lemmas.Int.{to_z-of_z}
use Rattle.std.proofs.lemmas.Option.{slice_get_read}
use Rattle.tilt_watermarks.proofs.Fitting.{takes-between, takes-last, takes-not}
use Rattle.tilt_watermarks.proofs.lane.Lane.takes.Goals as goal

pub returns-then-not-fits_after : goal.returns-then-not-fits_after
returns-then-not-fits_after c =
    let held = c.self.inside.held.items in
    let same = to_z-of_z w64 c.watermark_at.result (search rules) in
    let first = rw (same, c.watermark_at.ensures, ← c.self.view_is) at c.fits_after.ensures in
    rw (← c.self.view_is) (sym (takes-not c.self.inside.edge.watermark held c.args.place c.args.update c.self.invariant (sym first ∙ c.if-not-fits_after.true)))

pub returns-in-Some : goal.returns-in-Some
returns-in-Some c =
    let held = c.self.inside.held.items in
    let found = c.in-Some.ensures.item in
    let at = slice_get_read held (length held) c.args.place c.in-Some.next.now refl found.3.0 found.1 in
    let same = to_z-of_z w64 c.watermark_at.result (search rules) in
    let first = rw (same, c.watermark_at.ensures, ← c.self.view_is) at c.fits_after.ensures in
    let end = to_z-of_z w64 c.watermark_after.result (search rules) in
    let second = rw (end, c.watermark_after.ensures) at c.fits_after-in-Some.ensures in
    rw (← c.self.view_is)
    (second ∙ sym (takes-between c.self.inside.edge.watermark held c.args.place c.args.update c.in-Some.next.now c.self.invariant (sym first ∙ c.if-not-fits_after.false) at))

pub returns-in-None : goal.returns-in-None
returns-in-None c =
    let held = c.self.inside.held.items in
    let past : length held ≤ c.args.place = c.in-None.ensures.item.3 in
    let same = to_z-of_z w64 c.watermark_at.result (search rules) in
    let first = rw (same, c.watermark_at.ensures, ← c.self.view_is) at c.fits_after.ensures in
    rw (← c.self.view_is) (sym (takes-last c.self.inside.edge.watermark held c.args.place c.args.update c.self.invariant (sym first ∙ c.if-not-fits_after.false) past))
