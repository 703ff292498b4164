-- The first snapshot goes only if it isn't wanted, and stays only if a reader reads it.
use Rattle.std.proofs.Common.{FitsSigned, w64, sym, subst, rules, arith}
use Rattle.std.proofs.lemmas.Int.{to_z-of_z}
use Rattle.tilt_pipe.proofs.Settled.{one-goes}
use Rattle.tilt_pipe.proofs.Trimming.{IsReleased, alike-long, released, some-held, there-at}
use Rattle.tilt_pipe.specs.Positions.{RingsParts}
use Rattle.tilt_pipe.proofs.chain.Chain.drops_first.Goals as goal
use Rattle.tilt_pipe.proofs.chain.Chain.drops_first.Goals.{After-let_first_go}

pub reader_up_to-requires-clause-end : goal.reader_up_to-requires-clause-end
reader_up_to-requires-clause-end c =
    let fits : FitsSigned w64 c.args.end = search rules in
    rw (to_z-of_z w64 c.args.end fits) (λ w r of at. (c.requires.«end» w r of at).0)

pub let_first_go-requires : goal.let_first_go-requires
let_first_go-requires c =
    let p = c.args.self.now.rings in
    let it = there-at p c.args.place c.loops.ensures.code c.loops.ensures.rings c.requires.there in
    (it.ring, it.it.at, some-held p c.args.place it.work it.ring c.args.end it.it c.requires.«end»)

-- the rings after it
after : (c : After-let_first_go) → IsReleased c.args.self.now.rings c.let_first_go.new.self c.args.place
after c =
    let p = c.args.self.now.rings in
    let it = there-at p c.args.place c.loops.ensures.code c.loops.ensures.rings c.requires.there in
    let fits : FitsSigned w64 c.args.end = search rules in
    let late = rw (to_z-of_z w64 c.args.end fits) at c.in_default.ensures in
    subst (λ (q : RingsParts). IsReleased p q c.args.place) (sym (c.let_first_go.ensures it.ring it.it.at))
    (released p c.args.place it.work it.ring c.args.end it.it c.requires.«end» late c.requires.may.wanted)

pub unheld_end-requires : goal.unheld_end-requires
unheld_end-requires c =
    let a = after (goal.at.unheld_end-requires c).After-let_first_go in
    let d = c.args.self.now in
    record {
      may = (one-goes d c.args.place c.let_first_go.new.self c.requires.may a).may;
      there = omega (arith, c.requires.there, alike-long d.rings c.let_first_go.new.self a.alike);
    }

pub returns-clause-alike : goal.returns-clause-alike
returns-clause-alike c = (after (goal.at.returns-clause-alike c).After-let_first_go).alike

pub returns-clause-lets : goal.returns-clause-lets
returns-clause-lets c =
    one-goes c.args.self.now c.args.place c.let_first_go.new.self c.requires.may (after (goal.at.returns-clause-lets c).After-let_first_go)

pub returns-clause-fewer : goal.returns-clause-fewer
returns-clause-fewer c = λ _. (after (goal.at.returns-clause-fewer c).After-let_first_go).fewer
