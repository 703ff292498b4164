use Rattle.tilt_code.specs.References.{IsCode}
use Rattle.std.proofs.Common.{◌≡◌, subst, rules, sym}
use Rattle.tilt_pipe.proofs.Settled.{left-none}
use Rattle.tilt_pipe.specs.Chain.{AreLeft}
use Rattle.tilt_pipe.proofs.chain.Chain.trim_held.Goals as goal

pub returns-clause-is : goal.returns-clause-is
returns-clause-is c =
    let none : c.loop-number.number ≡ 0 = search rules in
    left-none c.loop-number.self c.args.place (subst IsCode (sym c.loop-number.invariant.alike.code) c.loops.ensures.code)
    (subst (AreLeft c.loop-number.self c.args.place) none c.loop-number.invariant.left)
