use Rattle.std.proofs.Common.{◌∙◌, Some, refl, arith}
use Rattle.std.proofs.lemmas.Int.{ints}
use Rattle.tilt_code.specs.References.{IsCode}
use Rattle.tilt_pipe.proofs.Pulling.{none-left, pull-begun, pull-ends, rings-stand}
use Rattle.tilt_pipe.proofs.Works.{last-loop}
use Rattle.tilt_pipe.specs.Pulled.{given_in}
use Rattle.tilt_pipe.proofs.pipe.pull.Goals as goal

pub returns-then-not-is_open-clause-given : goal.returns-then-not-is_open-clause-given
returns-then-not-is_open-clause-given c =
    let p = c.args.chain.now.rings in
    let l = last-loop p.code p.inputs c.loops.ensures.code in
    let tells = (rw c.loops.ensures.loops at c.is_open.ensures) l.work l.is in
    none-left p l (rings-stand p c.loops.ensures.code c.loops.ensures.rings) (grind (arith, ints))

pub loop-snap-init : goal.loop-snap-init
loop-snap-init c =
    let p = c.args.chain.now.rings in
    let l = last-loop p.code p.inputs c.loops.ensures.code in
    let tells = (rw c.loops.ensures.loops at c.is_open.ensures) l.work l.is in
    record {
      chain = c.requires.exact.chain;
      code = refl;
      inputs = refl;
      pulled = rw (c.requires.none, c.loops.ensures.loops)
          (pull-begun p l (rings-stand p c.loops.ensures.code c.loops.ensures.rings) c.requires.exact.made (tells.0 c.if-not-is_open.false));
    }

pub step-requires-clause-pulled : goal.step-requires-clause-pulled
step-requires-clause-pulled c = (given_in c.args.chain.now.rings, c.loop-snap.invariant.pulled)

pub loop-snap-smaller : goal.loop-snap-smaller
loop-snap-smaller c = c.in_ok-snap.ensures.nearer (given_in c.args.chain.now.rings) c.loop-snap.invariant.pulled c.in_default.is

pub loop-snap-preserved : goal.loop-snap-preserved
loop-snap-preserved c =
    let i = c.loop-snap.invariant in
    record {
      chain = c.in_ok-snap.ensures.chain;
      code = c.step.ensures.code ∙ i.code;
      inputs = c.step.ensures.inputs ∙ i.inputs;
      pulled = rw c.in_default.is at (c.in_ok-snap.ensures.pulled (given_in c.args.chain.now.rings) i.pulled);
    }

pub returns-in-Some-clause-exact : goal.returns-in-Some-clause-exact
returns-in-Some-clause-exact c =
    let i = c.loop-snap.invariant in
    let given = given_in c.args.chain.now.rings in
    let e = c.in_ok-snap.ensures in
    let p = c.step.new.chain.rings in
    let code : IsCode p.code = rw (e.code, i.code) c.loops.ensures.code in
    let there = rw c.in-Some.is at (e.made given i.pulled) in
    let done = pull-ends given p (Some c.in-Some.snap) code (rw c.in-Some.is at (e.pulled given i.pulled)) (rw (e.code, e.inputs) there) in
    record { chain = e.chain; made = done.made }
