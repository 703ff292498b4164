use Rattle.tilt_turn.proofs.TurnTicks.{point-fits}
use Rattle.tilt_turn.proofs.leaf.Leaf.look.Goals as goal

pub returns-in-Port : goal.returns-in-Port
returns-in-Port g c =
    let r = c.args.reading.now in
    rw c.in-Port.is (rw (point-fits r.point c.requires.may.near) at c.look.ensures r.each.now.maps)
