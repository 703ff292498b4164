use Rattle.std.proofs.Common.{◌≡◌, ◌-◌, ℕ, suc, take, length, refl, sym, subst, arith, rules, w64}
use Rattle.std.proofs.lemmas.Int.{to_z-of_z}
use Rattle.std.proofs.lemmas.Option.{slice_get_read}
use Rattle.tilt_watermarks.proofs.Fitting.{fits-range, last-at}
use Rattle.tilt_watermarks.specs.Held.{last_watermark}
use Rattle.tilt_feed.specs.Events.{watermark_after as after}
use Rattle.tilt_watermarks.proofs.lane.Lane.watermark_at.Goals as goal

pub watermark_after-requires : goal.watermark_after-requires
watermark_after-requires c =
    let held = c.self.inside.held.items in
    let update = c.in-Some.update.now in
    let found = c.in-Some.ensures.item in
    let at = slice_get_read held (length held) (c.args.place - 1) update refl found.3.0 found.1 in
    fits-range c.self.inside.edge.watermark held (c.args.place - 1) update c.self.invariant at

pub returns-in-Some : goal.returns-in-Some
returns-in-Some c =
    let held = c.self.inside.held.items in
    let update = c.in-Some.update.now in
    let watermark = c.self.inside.edge.watermark in
    let found = c.in-Some.ensures.item in
    let at = slice_get_read held (length held) (c.args.place - 1) update refl found.3.0 found.1 in
    let place : suc (c.args.place - 1) ≡ c.args.place = omega (arith, c.if-place-eq0.false) in
    rw (← c.self.view_is, to_z-of_z w64 c.watermark_after.result (search rules), c.watermark_after.ensures)
    (sym (subst (λ (n : ℕ). last_watermark watermark (take n held) ≡ after update) place (last-at watermark held (c.args.place - 1) update at)))
