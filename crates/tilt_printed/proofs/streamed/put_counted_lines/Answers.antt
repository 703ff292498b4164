use Rattle.std.proofs.Common.{◌≡◌, ◌∙◌, ◌≤◌, ℕ, length, ap, subst, sym, arith}
use Rattle.std.proofs.lemmas.Option.{slice_get_within}
use Rattle.std.proofs.lemmas.Result.{err_from_is_err_and}
use Rattle.tilt_printed.proofs.Streams.{line-failed, line-put, line-room, line-wanting, lines-none, lines-put, most-first, most-later, next-of, none-of, one-later, place-end}
use Rattle.tilt_code.specs.Run.{run_of}
use Rattle.tilt_pipe.proofs.Collected.{nothing-left}
use Rattle.tilt_pipe.specs.Rings.{most_held}
use Rattle.tilt_pipe.specs.Value.{PipeParts, pipe_after}
use Rattle.tilt_printed.proofs.streamed.put_counted_lines.Goals as goal

pub loop-pipe-init : goal.loop-pipe-init
loop-pipe-init g c =
    let given : c.args.pipe.given ≡ 0 = ap (λ (p : PipeParts). p.given) c.requires.fresh in
    record {
      is = c.requires.fresh ∙ ap (pipe_after c.args.pipe.code c.args.pipe.inputs) (sym given);
      within = subst (λ (n : ℕ). n ≤ length (run_of c.args.pipe.code c.args.pipe.inputs)) (sym given) (omega arith);
      most = c.held-most.ensures ∙ most-first c.args.pipe.code c.args.pipe.inputs c.args.pipe c.requires.fresh;
      prints = lines-none _ _ _ _ _ (run_of c.args.pipe.code c.args.pipe.inputs) c.args.pipe.given given;
    }

pub returns-in_err-snapshot-clause-prints : goal.returns-in_err-snapshot-clause-prints
returns-in_err-snapshot-clause-prints g c =
    let p = err_from_is_err_and c.from_residual.result c.from_residual.ensures.1 in
    line-wanting _ _ _ _ _ _ (run_of c.args.pipe.code c.args.pipe.inputs) c.loop-pipe.pipe.given c.loop-pipe.invariant.prints p.0 c.from_residual.result p.1 p.2

pub put_snap-requires : goal.put_snap-requires
put_snap-requires g c =
    let i = c.loop-pipe.invariant in
    let next = next-of c.args.pipe.code c.args.pipe.inputs c.loop-pipe.pipe c.in_ok-snapshot.field-0 i.is c.in_ok-snapshot.ensures.given in
    line-room _ _ _ _ _ _ (run_of c.args.pipe.code c.args.pipe.inputs) c.loop-pipe.pipe.given i.prints c.in-Some.snapshot g.met.O.Sink.takes_fewer c.requires.room (next ∙ c.in-Some.is)

pub loop-pipe-smaller : goal.loop-pipe-smaller
loop-pipe-smaller g c =
    let i = c.loop-pipe.invariant in
    let next = next-of c.args.pipe.code c.args.pipe.inputs c.loop-pipe.pipe c.in_ok-snapshot.field-0 i.is c.in_ok-snapshot.ensures.given in
    let within = slice_get_within (run_of c.args.pipe.code c.args.pipe.inputs) c.loop-pipe.pipe.given c.in-Some.snapshot (next ∙ c.in-Some.is) in
    let later = one-later c.args.pipe.code c.args.pipe.inputs c.loop-pipe.pipe c.next.new.self i.is (rw c.in-Some.is at (c.in_ok-snapshot.ensures.after (ap (λ (p : PipeParts). p.refused) i.is))) in
    let given = later.0 in
    omega arith

pub loop-pipe-preserved : goal.loop-pipe-preserved
loop-pipe-preserved g c =
    let i = c.loop-pipe.invariant in
    let next = next-of c.args.pipe.code c.args.pipe.inputs c.loop-pipe.pipe c.in_ok-snapshot.field-0 i.is c.in_ok-snapshot.ensures.given in
    let later = one-later c.args.pipe.code c.args.pipe.inputs c.loop-pipe.pipe c.next.new.self i.is (rw c.in-Some.is at (c.in_ok-snapshot.ensures.after (ap (λ (p : PipeParts). p.refused) i.is))) in
    let within = slice_get_within (run_of c.args.pipe.code c.args.pipe.inputs) c.loop-pipe.pipe.given c.in-Some.snapshot (next ∙ c.in-Some.is) in
    let given = later.0 in
    record {
      is = later.1;
      within = omega arith;
      most = c.note_held.ensures
          ∙ most-later c.args.pipe.code c.args.pipe.inputs c.loop-pipe.pipe c.next.new.self c.loop-pipe.most i.most later;
      prints = line-put _ _ _ _ _ _ (run_of c.args.pipe.code c.args.pipe.inputs) c.loop-pipe.pipe.given i.prints c.in-Some.snapshot _ c.next.new.self.given later.0
          (next ∙ c.in-Some.is) c.in_ok-put_snap.ensures;
    }

pub returns-in_err-put_snap-clause-prints : goal.returns-in_err-put_snap-clause-prints
returns-in_err-put_snap-clause-prints g c =
    let i = c.loop-pipe.invariant in
    let next = next-of c.args.pipe.code c.args.pipe.inputs c.loop-pipe.pipe c.in_ok-snapshot.field-0 i.is c.in_ok-snapshot.ensures.given in
    line-failed _ _ _ _ _ _ (run_of c.args.pipe.code c.args.pipe.inputs) c.loop-pipe.pipe.given i.prints c.in-Some.snapshot _ _ c.from_residual-in_err-put_snap.result
    c.from_residual-in_err-put_snap.ensures.0 (next ∙ c.in-Some.is) c.in_err-put_snap.ensures

pub returns-clause-prints : goal.returns-clause-prints
returns-clause-prints g c =
    let i = c.loop-pipe.invariant in
    let next = next-of c.args.pipe.code c.args.pipe.inputs c.loop-pipe.pipe c.in_ok-snapshot.field-0 i.is c.in_ok-snapshot.ensures.given in
    lines-put _ _ _ _ _ _ (run_of c.args.pipe.code c.args.pipe.inputs) c.loop-pipe.pipe.given i.prints _
    (nothing-left (run_of c.args.pipe.code c.args.pipe.inputs) c.loop-pipe.pipe.given c.in_ok-snapshot.field-0 next c.in_default.not-Some)

pub returns-clause-most : goal.returns-clause-most
returns-clause-most g c =
    let i = c.loop-pipe.invariant in
    let next = next-of c.args.pipe.code c.args.pipe.inputs c.loop-pipe.pipe c.in_ok-snapshot.field-0 i.is c.in_ok-snapshot.ensures.given in
    i.most ∙ ap (most_held c.args.pipe.code c.args.pipe.inputs)
    (place-end (run_of c.args.pipe.code c.args.pipe.inputs) c.loop-pipe.pipe.given (none-of next c.in_default.not-Some) i.within)
