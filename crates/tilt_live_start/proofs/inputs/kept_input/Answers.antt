use Rattle.std.proofs.Common.{rules, ◌≡◌, ◌∙◌, ℤ, None, FitsSigned, to_z, of_z, to_z-of_z, w64, subst, sym}
use Rattle.tilt_feed.specs.Laws.{IsInOrder}
use Rattle.tilt_live_start.proofs.Kept.{kept-order}
use Rattle.tilt_live_start.specs.Seen.{seen_upto}
use Rattle.tilt_live_start.proofs.inputs.kept_input.Goals as goal

pub unreachable-requires : goal.unreachable-requires
unreachable-requires c =
    let kept = c.kept.inside in
    let fits : FitsSigned w64 c.seen_upto.result = search rules in
    let cut_fits : FitsSigned w64 kept.cut = search rules in
    let at = rw (to_z-of_z cut_fits) at c.seen_upto.ensures in
    let watermark : to_z w64 (of_z w64 c.seen_upto.result) ≡ seen_upto kept.cut kept.last_end = to_z-of_z fits ∙ at in
    let order = rw (← c.kept.view_is) at (kept-order c.requires.0 c.args.kept c.requires.1) in
    let there = subst (λ (t : ℤ). IsInOrder (record { rows = kept.rows; edge = record { open_row = None; watermark = t } })) (sym watermark) order in
    let bad = c.in-None.ensures.exact.1 there in
    absurd (cc bad)
