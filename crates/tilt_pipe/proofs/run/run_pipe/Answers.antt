use Rattle.std.proofs.Common.{◌≡◌, ◌∙◌, sym, ap, arith, take, slice_get, Some}
use Rattle.tilt_code.specs.Run.{run_of}
use Rattle.std.proofs.lemmas.Option.{slice_get_within}
use Rattle.tilt_pipe.proofs.Collected.{given-out, next-touches, next-within, with-next, nothing-left}
use Rattle.tilt_pipe.specs.Value.{PipeParts}
use Rattle.tilt_pipe.proofs.run.run_pipe.Goals as goal
use Rattle.tilt_pipe.proofs.run.run_pipe.Goals.{In-Some}

next : (c : In-Some) → slice_get (run_of c.args.code c.args.inputs.items) c.loop-list.pipe.given ≡ Some c.in-Some.snap
next c =
    let i = c.loop-list.invariant in
    given-out c.loop-list.pipe c.args.code c.args.inputs.items c.in_ok-snap.field-0 i.code i.inputs (c.in_ok-snap.ensures.given i.granted)
    ∙ c.in-Some.is

pub push-requires : goal.push-requires
push-requires c =
    let i = c.loop-list.invariant in
    let code = c.args.code in
    let inputs = c.args.inputs.items in
    let given = c.loop-list.pipe.given in
    let next_is = next (goal.at.push-requires c).In-Some in
    let within = next-within code inputs c.loop-list.list given c.in-Some.snap i.is i.taken next_is in
    record {
      touches = next-touches code inputs c.loop-list.list given c.in-Some.snap i.is i.taken next_is;
      low = within.0;
      high = within.1;
    }

pub loop-list-smaller : goal.loop-list-smaller
loop-list-smaller c =
    let next_is = next (goal.at.loop-list-smaller c).In-Some in
    let after = rw c.in-Some.is at (c.in_ok-snap.ensures.after c.loop-list.invariant.granted) in
    omega (arith, slice_get_within (run_of c.args.code c.args.inputs.items) c.loop-list.pipe.given c.in-Some.snap next_is, ap (λ (p : PipeParts). p.given) after)

pub loop-list-preserved : goal.loop-list-preserved
loop-list-preserved c =
    let i = c.loop-list.invariant in
    let next_is = next (goal.at.loop-list-preserved c).In-Some in
    let after = rw c.in-Some.is at (c.in_ok-snap.ensures.after i.granted) in
    record {
      is = i.is;
      granted = ap (λ (p : PipeParts). p.refused) after;
      code = ap (λ (p : PipeParts). p.code) after ∙ i.code;
      inputs = ap (λ (p : PipeParts). p.inputs) after ∙ i.inputs;
      taken = c.in_ok-push.ensures.ok
          ∙ with-next c.args.code c.args.inputs.items c.loop-list.list c.loop-list.pipe.given c.in-Some.snap i.is i.taken next_is
          ∙ ap (λ (p : PipeParts). take p.given (run_of c.args.code c.args.inputs.items)) (sym after);
    }

pub returns : goal.returns
returns c =
    let i = c.loop-list.invariant in
    let next = given-out c.loop-list.pipe c.args.code c.args.inputs.items c.in_ok-snap.field-0 i.code i.inputs (c.in_ok-snap.ensures.given i.granted) in
    i.taken ∙ nothing-left (run_of c.args.code c.args.inputs.items) c.loop-list.pipe.given c.in_ok-snap.field-0 next c.in_default.not-Some
