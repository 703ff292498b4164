use Rattle.std.proofs.Common.{◌∙◌}
use Rattle.tilt_engine.proofs.NextReads.{added-next, reads-next}
use Rattle.tilt_engine.proofs.wanted.add_body.Goals as goal

pub loop-instr-preserved : goal.loop-instr-preserved
loop-instr-preserved c = record {
  count = c.add_instr.ensures.count ∙ c.loop-instr.invariant.count;
  firsts = λ buffer.
      added-next _ _ _ _ _ _ (c.add_instr.ensures.firsts buffer)
      (reads-next buffer _ c.args.body.now c.loop-instr.instr-index _ c.loop-instr-test.true) (c.loop-instr.invariant.firsts buffer);
}
