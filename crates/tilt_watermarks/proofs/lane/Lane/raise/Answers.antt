use Rattle.std.proofs.Common.{ap, sym}
use Rattle.tilt_feed.specs.declared.edge.Edge.{Edge}
use Rattle.tilt_watermarks.proofs.Fitting.{due-left, moved-append}
use Rattle.tilt_watermarks.specs.Held.{Waiting, due, left, moved_all, rising}
use Rattle.tilt_watermarks.proofs.lane.Lane.raise.Goals as goal

pub rise-requires-clause-rests : goal.rise-requires-clause-rests
rise-requires-clause-rests c = rw (c.hand_on.ensures.lane) (due-left c.args.end c.args.self.now.held)

pub returns-clause-lane : goal.returns-clause-lane
returns-clause-lane c =
    let end = c.args.end in
    let held = c.args.self.now.held in
    let front = due end held in
    rw (c.rise.ensures.lane, c.hand_on.ensures.lane)
    (ap (λ (edge : Edge). let w : Waiting = record { edge = edge; held = left end held } in w)
    (sym (moved-append front (rising end (moved_all front c.args.self.now.edge)) c.args.self.now.edge)))
