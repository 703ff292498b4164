use Rattle.tilt_code.proofs.Lines.{block_put}
use Rattle.tilt_code.proofs.listing.put_block.Goals as goal

pub loop-register-preserved : goal.loop-register-preserved
loop-register-preserved c =
    block_put c.args.block.now c.loop-register.register _ c.args.text.now.items c.loop-register.text.items c.put_step.new.text.items c.loop-register-test.true
    c.loop-register.invariant c.in_ok-put_step.ensures
