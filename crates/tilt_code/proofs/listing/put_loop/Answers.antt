use Rattle.std.proofs.Common.{arith}
use Rattle.std.proofs.lemmas.Grind.{common_steps}
use Rattle.tilt_code.proofs.Lines.{loop_put}
use Rattle.tilt_code.proofs.listing.put_loop.Goals as goal

pub returns : goal.returns
returns c =
    rw (← c.each.view_is) (loop_put _ c.args.text.now.items c.put_head.new.text.items c.put_maps.new.text.items c.put_block.new.text.items c.put.new.text.items
    (grind (arith, common_steps)) (grind (arith, common_steps)) (grind (arith, common_steps)) c.in_ok-put.ensures)
