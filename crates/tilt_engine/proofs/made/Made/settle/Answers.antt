use Rattle.std.proofs.Common.{FitsSigned, to_z-of_z, w64, rules, ap}
use Rattle.tilt_engine.proofs.Mades.{settled-made, settled-touches, settled-low}
use Rattle.tilt_engine.specs.contracts.made.Made.{the_view}
use Rattle.tilt_engine.proofs.made.Made.settle.Goals as goal

pub push-requires-clause-touches : goal.push-requires-clause-touches
push-requires-clause-touches c =
    let on = rw (← c.self.view_is) at c.requires.on in
    settled-touches (the_view c.self.inside) c.args.snap c.self.invariant on.begins

pub push-requires-clause-low : goal.push-requires-clause-low
push-requires-clause-low c =
    let on = rw (← c.self.view_is) at c.requires.on in
    let low = settled-low (the_view c.self.inside) c.self.invariant in
    let begins = on.begins in
    rw begins low

pub invariant_of-self-2 : goal.invariant_of-self-2
invariant_of-self-2 c =
    let on = rw (← c.self.view_is) at c.requires.on in
    let fits : FitsSigned w64 c.snap.inside.end = search rules in
    let end = ap (λ s. s.end) c.snap.view_is in
    rw (c.in_ok-push.ensures.ok, to_z-of_z fits, end) (settled-made (the_view c.self.inside) c.args.snap c.self.invariant on)
