use Rattle.std.proofs.Common.{arith}
use Rattle.std.proofs.lemmas.Grind.{common_steps}
use Rattle.tilt_code.proofs.Lines.{head_put}
use Rattle.tilt_code.proofs.listing.put_head.Goals as goal

pub returns : goal.returns
returns c =
    rw (← c.grid.view_is) (head_put c.args.lo c.args.hi (record { period = c.grid.inside.period; offset = c.grid.inside.offset }) c.args.text.now.items
    c.put.new.text.items c.put_numbers.new.text.items c.put-2.new.text.items c.put_numbers-2.new.text.items c.put-3.new.text.items c.in_ok-put.ensures
    (grind (arith, common_steps)) c.in_ok-put-2.ensures (grind (arith, common_steps)) c.in_ok-put-3.ensures)
