use Rattle.std.proofs.Common.{◌≡◌, ◌∙◌, ◌≤◌, ℕ, length, ap, subst, sym, arith}
use Rattle.std.proofs.lemmas.Option.{slice_get_within}
use Rattle.std.proofs.lemmas.Result.{err_from_is_err_and}
use Rattle.tilt_printed.proofs.Streams.{line-failed, line-put, line-room, line-wanting, lines-none, lines-put, next-of, one-later}
use Rattle.tilt_code.specs.Run.{run_of}
use Rattle.tilt_pipe.proofs.Collected.{nothing-left}
use Rattle.tilt_pipe.specs.Value.{PipeParts, pipe_after}
use Rattle.tilt_printed.proofs.streamed.put_lines.Goals as goal

pub loop-pipe-init : goal.loop-pipe-init
loop-pipe-init g c =
    let given : c.args.pipe.given ≡ 0 = ap (λ (p : PipeParts). p.given) c.requires.fresh in
    record {
      is = c.requires.fresh ∙ ap (pipe_after c.args.pipe.code c.args.pipe.inputs) (sym given);
      within = subst (λ (n : ℕ). n ≤ length (run_of c.args.pipe.code c.args.pipe.inputs)) (sym given) (omega arith);
      prints = lines-none _ _ _ _ _ (run_of c.args.pipe.code c.args.pipe.inputs) c.args.pipe.given given;
    }

pub returns-in_err-snap : goal.returns-in_err-snap
returns-in_err-snap g c =
    let p = err_from_is_err_and c.from_residual.result c.from_residual.ensures.1 in
    line-wanting _ _ _ _ _ _ (run_of c.args.pipe.code c.args.pipe.inputs) c.loop-pipe.pipe.given c.loop-pipe.invariant.prints p.0 c.from_residual.result p.1 p.2

pub put_snap-requires : goal.put_snap-requires
put_snap-requires g c =
    let i = c.loop-pipe.invariant in
    let next = next-of c.args.pipe.code c.args.pipe.inputs c.loop-pipe.pipe c.in_ok-snap.field-0 i.is c.in_ok-snap.ensures.given in
    line-room _ _ _ _ _ _ (run_of c.args.pipe.code c.args.pipe.inputs) c.loop-pipe.pipe.given i.prints c.in-Some.snap g.met.O.Sink.takes_fewer c.requires.room (next ∙ c.in-Some.is)

pub loop-pipe-smaller : goal.loop-pipe-smaller
loop-pipe-smaller g c =
    let i = c.loop-pipe.invariant in
    let next = next-of c.args.pipe.code c.args.pipe.inputs c.loop-pipe.pipe c.in_ok-snap.field-0 i.is c.in_ok-snap.ensures.given in
    let within = slice_get_within (run_of c.args.pipe.code c.args.pipe.inputs) c.loop-pipe.pipe.given c.in-Some.snap (next ∙ c.in-Some.is) in
    let later = one-later c.args.pipe.code c.args.pipe.inputs c.loop-pipe.pipe c.next.new.self i.is (rw c.in-Some.is at (c.in_ok-snap.ensures.after (ap (λ (p : PipeParts). p.refused) i.is))) in
    let given = later.0 in
    omega arith

pub loop-pipe-preserved : goal.loop-pipe-preserved
loop-pipe-preserved g c =
    let i = c.loop-pipe.invariant in
    let next = next-of c.args.pipe.code c.args.pipe.inputs c.loop-pipe.pipe c.in_ok-snap.field-0 i.is c.in_ok-snap.ensures.given in
    let later = one-later c.args.pipe.code c.args.pipe.inputs c.loop-pipe.pipe c.next.new.self i.is (rw c.in-Some.is at (c.in_ok-snap.ensures.after (ap (λ (p : PipeParts). p.refused) i.is))) in
    let within = slice_get_within (run_of c.args.pipe.code c.args.pipe.inputs) c.loop-pipe.pipe.given c.in-Some.snap (next ∙ c.in-Some.is) in
    let given = later.0 in
    record {
      is = later.1;
      within = omega arith;
      prints = line-put _ _ _ _ _ _ (run_of c.args.pipe.code c.args.pipe.inputs) c.loop-pipe.pipe.given i.prints c.in-Some.snap _ c.next.new.self.given later.0
          (next ∙ c.in-Some.is) c.in_ok-put_snap.ensures;
    }

pub returns-in_err-put_snap : goal.returns-in_err-put_snap
returns-in_err-put_snap g c =
    let i = c.loop-pipe.invariant in
    let next = next-of c.args.pipe.code c.args.pipe.inputs c.loop-pipe.pipe c.in_ok-snap.field-0 i.is c.in_ok-snap.ensures.given in
    line-failed _ _ _ _ _ _ (run_of c.args.pipe.code c.args.pipe.inputs) c.loop-pipe.pipe.given i.prints c.in-Some.snap _ _ c.from_residual-in_err-put_snap.result
    c.from_residual-in_err-put_snap.ensures.0 (next ∙ c.in-Some.is) c.in_err-put_snap.ensures

pub returns : goal.returns
returns g c =
    let i = c.loop-pipe.invariant in
    let next = next-of c.args.pipe.code c.args.pipe.inputs c.loop-pipe.pipe c.in_ok-snap.field-0 i.is c.in_ok-snap.ensures.given in
    lines-put _ _ _ _ _ _ (run_of c.args.pipe.code c.args.pipe.inputs) c.loop-pipe.pipe.given i.prints _
    (nothing-left (run_of c.args.pipe.code c.args.pipe.inputs) c.loop-pipe.pipe.given c.in_ok-snap.field-0 next c.in_default.not-Some)
