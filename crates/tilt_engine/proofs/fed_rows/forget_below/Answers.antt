use Rattle.std.proofs.lemmas.List.Edits.{map_over_more}
use Rattle.tilt_engine.proofs.fed_rows.forget_below.Goals as goal

pub loop-input-preserved : goal.loop-input-preserved
loop-input-preserved c =
    rw (c.in_ok-forget_below.ensures, ← c.input-item.is)
    (map_over_more _ c.args.inputs.now c.loop-input.inputs c.loop-input.input-index c.input-item.result c.loop-input-test.true
    c.loop-input.invariant c.input-item.is)
