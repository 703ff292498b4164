use Rattle.std.proofs.Common.{inr}
use Rattle.tilt_live.proofs.Lives.{live-begun, of-some-run}
use Rattle.tilt_live.proofs.live.Live.begun.Goals as goal

pub returns-in-Ok-clause-begun : goal.returns-in-Ok-clause-begun
returns-in-Ok-clause-begun c = λ accepted feed given is.
    live-begun c.args.self.now c.find_begun.new.self accepted feed given is c.in-Ok.begun c.find_begun.ensures.tick
    (c.in-Ok.ensures.begun accepted is.code is.left is.returned is.running)

pub returns-in-Ok-clause-live : goal.returns-in-Ok-clause-live
returns-in-Ok-clause-live c =
    let some = of-some-run c.args.self.now c.requires c.if-self.false in
    inr (some.0, some.1, some.2, some.3, (c.in-Ok.ensures.begun some.0 some.1 some.2 some.3 some.4).1)
