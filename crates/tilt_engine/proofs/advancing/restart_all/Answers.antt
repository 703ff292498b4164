use Rattle.std.proofs.lemmas.List.Edits.{map_over_more}
use Rattle.tilt_engine.specs.Stock.{restarted}
use Rattle.tilt_engine.proofs.advancing.restart_all.Goals as goal

pub loop-made-preserved : goal.loop-made-preserved
loop-made-preserved c =
    rw (c.restart.ensures, ← c.made-item.is)
    (map_over_more restarted c.args.loops.now c.loop-made.loops c.loop-made.made-index c.made-item.result c.loop-made-test.true c.loop-made.invariant
    c.made-item.is)
