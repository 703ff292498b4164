use Rattle.std.proofs.Common.{[], sym, ◌∙◌}
use Rattle.tilt_feed_text.proofs.Splitting.{unfinished-none, unfinished-until}
use Rattle.tilt_live_run.proofs.Underway.{rest-shorter}
use Rattle.tilt_live_folder.proofs.tail.after_lines.Goals as goal

pub loop-after-smaller : goal.loop-after-smaller
loop-after-smaller c = rest-shorter c.loop-after.rest.now c.in-Some.field-0-0.now c.in-Some.after.now c.in-Some.ensures

pub loop-after-preserved : goal.loop-after-preserved
loop-after-preserved c =
    c.loop-after.invariant ∙ unfinished-until [] c.loop-after.rest.now c.in-Some.field-0-0.now c.in-Some.after.now c.in-Some.ensures

pub returns : goal.returns
returns c = sym (c.loop-after.invariant ∙ unfinished-none [] c.loop-after.rest.now c.in_default.ensures)
