use Rattle.std.proofs.Common.{◌≡◌, ◌∙◌, ◌≤◌, ℕ, length, ap, refl, subst, sym, arith}
use Rattle.std.proofs.lemmas.Option.{slice_get_within}
use Rattle.std.proofs.lemmas.Result.{err_from_is_err_and}
use Rattle.tilt_printed.proofs.SeenLines.{seen-failed, seen-more, seen-none, seen-wanting}
use Rattle.tilt_printed.proofs.Streams.{line-failed, line-put, line-room, line-wanting, lines-none, lines-put, next-of, one-later}
use Rattle.tilt_printed.specs.Left.{left_of}
use Rattle.tilt_code.specs.Run.{run_of}
use Rattle.tilt_pipe.proofs.Collected.{nothing-left}
use Rattle.tilt_pipe.specs.Value.{PipeParts, pipe_after}
use Rattle.tilt_printed.proofs.watched.put_seen_lines.Goals as goal

pub loop-pipe-init : goal.loop-pipe-init
loop-pipe-init g c =
    let all = run_of c.args.pipe.code c.args.pipe.inputs in
    let given : c.args.pipe.given ≡ 0 = ap (λ (p : PipeParts). p.given) c.requires.fresh in
    let none = seen-none c.args.panel.now _ all c.args.pipe.given given c.requires.in_step in
    record {
      is = c.requires.fresh ∙ ap (pipe_after c.args.pipe.code c.args.pipe.inputs) (sym given);
      within = subst (λ (n : ℕ). n ≤ length all) (sym given) (omega arith);
      prints = lines-none _ _ _ _ _ all c.args.pipe.given given;
      places = none.0;
      list = none.1;
      in_step = c.requires.in_step;
    }

pub returns-in_err-snap-clause-prints : goal.returns-in_err-snap-clause-prints
returns-in_err-snap-clause-prints g c =
    let p = err_from_is_err_and c.from_residual.result c.from_residual.ensures.1 in
    line-wanting _ _ _ _ _ _ (run_of c.args.pipe.code c.args.pipe.inputs) c.loop-pipe.pipe.given c.loop-pipe.invariant.prints p.0 c.from_residual.result p.1 p.2

pub returns-in_err-snap-clause-seen : goal.returns-in_err-snap-clause-seen
returns-in_err-snap-clause-seen g c =
    let p = err_from_is_err_and c.from_residual.result c.from_residual.ensures.1 in
    let i = c.loop-pipe.invariant in
    rw p.1 (seen-wanting (left_of g.O.Sink.tells g.O.Sink.written c.args.out.now c.loop-pipe.out _ _ _ c.args.watchers.now c.loop-pipe.watchers)
    (g.O.Sink.written c.loop-pipe.out) (run_of c.args.pipe.code c.args.pipe.inputs) c.loop-pipe.pipe.given i.list i.prints.whole p.0 p.2 refl)

pub put_snap-requires : goal.put_snap-requires
put_snap-requires g c =
    let i = c.loop-pipe.invariant in
    let next = next-of c.args.pipe.code c.args.pipe.inputs c.loop-pipe.pipe c.in_ok-snap.field-0 i.is c.in_ok-snap.ensures.given in
    line-room _ _ _ _ _ _ (run_of c.args.pipe.code c.args.pipe.inputs) c.loop-pipe.pipe.given i.prints c.in-Some.snap g.met.O.Sink.takes_fewer c.requires.room (next ∙ c.in-Some.is)

pub loop-pipe-smaller : goal.loop-pipe-smaller
loop-pipe-smaller g c =
    let i = c.loop-pipe.invariant in
    let next = next-of c.args.pipe.code c.args.pipe.inputs c.loop-pipe.pipe c.in_ok-snap.field-0 i.is c.in_ok-snap.ensures.given in
    let within = slice_get_within (run_of c.args.pipe.code c.args.pipe.inputs) c.loop-pipe.pipe.given c.in-Some.snap (next ∙ c.in-Some.is) in
    let later = one-later c.args.pipe.code c.args.pipe.inputs c.loop-pipe.pipe c.next.new.self i.is (rw c.in-Some.is at (c.in_ok-snap.ensures.after (ap (λ (p : PipeParts). p.refused) i.is))) in
    let given = later.0 in
    omega arith

pub loop-pipe-preserved : goal.loop-pipe-preserved
loop-pipe-preserved g c =
    let all = run_of c.args.pipe.code c.args.pipe.inputs in
    let i = c.loop-pipe.invariant in
    let next = next-of c.args.pipe.code c.args.pipe.inputs c.loop-pipe.pipe c.in_ok-snap.field-0 i.is c.in_ok-snap.ensures.given in
    let later = one-later c.args.pipe.code c.args.pipe.inputs c.loop-pipe.pipe c.next.new.self i.is (rw c.in-Some.is at (c.in_ok-snap.ensures.after (ap (λ (p : PipeParts). p.refused) i.is))) in
    let within = slice_get_within all c.loop-pipe.pipe.given c.in-Some.snap (next ∙ c.in-Some.is) in
    let given = later.0 in
    let more = seen-more _ c.loop-pipe.panel c.show_snap.new.panel _ _ _ all c.loop-pipe.pipe.given c.next.new.self.given c.in-Some.snap i.places i.list later.0 (next ∙ c.in-Some.is)
    c.show_snap.ensures.places c.show_snap.ensures.list in
    record {
      is = later.1;
      within = omega arith;
      prints = line-put _ _ _ _ _ _ all c.loop-pipe.pipe.given i.prints c.in-Some.snap _ c.next.new.self.given later.0 (next ∙ c.in-Some.is) c.in_ok-put_snap.ensures;
      places = more.0;
      list = more.1;
      in_step = c.show_snap.ensures.in_step;
    }

pub returns-in_err-put_snap-clause-prints : goal.returns-in_err-put_snap-clause-prints
returns-in_err-put_snap-clause-prints g c =
    let i = c.loop-pipe.invariant in
    let next = next-of c.args.pipe.code c.args.pipe.inputs c.loop-pipe.pipe c.in_ok-snap.field-0 i.is c.in_ok-snap.ensures.given in
    line-failed _ _ _ _ _ _ (run_of c.args.pipe.code c.args.pipe.inputs) c.loop-pipe.pipe.given i.prints c.in-Some.snap _ _ c.from_residual-in_err-put_snap.result
    c.from_residual-in_err-put_snap.ensures.0 (next ∙ c.in-Some.is) c.in_err-put_snap.ensures

pub returns-in_err-put_snap-clause-seen : goal.returns-in_err-put_snap-clause-seen
returns-in_err-put_snap-clause-seen g c =
    let p = err_from_is_err_and c.from_residual-in_err-put_snap.result c.from_residual-in_err-put_snap.ensures.1 in
    let i = c.loop-pipe.invariant in
    let next = next-of c.args.pipe.code c.args.pipe.inputs c.loop-pipe.pipe c.in_ok-snap.field-0 i.is c.in_ok-snap.ensures.given in
    rw p.1 (seen-failed (left_of g.O.Sink.tells g.O.Sink.written c.args.out.now c.put_snap.new.sink _ _ _ c.args.watchers.now c.loop-pipe.watchers)
    (g.O.Sink.written c.loop-pipe.out) (run_of c.args.pipe.code c.args.pipe.inputs) c.loop-pipe.pipe.given i.list i.prints.whole c.in-Some.snap p.0 p.2 (next ∙ c.in-Some.is)
    c.in_err-put_snap.ensures.front)

pub returns-clause-prints : goal.returns-clause-prints
returns-clause-prints g c =
    let i = c.loop-pipe.invariant in
    let next = next-of c.args.pipe.code c.args.pipe.inputs c.loop-pipe.pipe c.in_ok-snap.field-0 i.is c.in_ok-snap.ensures.given in
    lines-put _ _ _ _ _ _ (run_of c.args.pipe.code c.args.pipe.inputs) c.loop-pipe.pipe.given i.prints _
    (nothing-left (run_of c.args.pipe.code c.args.pipe.inputs) c.loop-pipe.pipe.given c.in_ok-snap.field-0 next c.in_default.not-Some)

pub returns-clause-places : goal.returns-clause-places
returns-clause-places g c =
    let i = c.loop-pipe.invariant in
    let next = next-of c.args.pipe.code c.args.pipe.inputs c.loop-pipe.pipe c.in_ok-snap.field-0 i.is c.in_ok-snap.ensures.given in
    rw (nothing-left (run_of c.args.pipe.code c.args.pipe.inputs) c.loop-pipe.pipe.given c.in_ok-snap.field-0 next c.in_default.not-Some) at i.places

pub returns-clause-left : goal.returns-clause-left
returns-clause-left g c =
    let i = c.loop-pipe.invariant in
    let next = next-of c.args.pipe.code c.args.pipe.inputs c.loop-pipe.pipe c.in_ok-snap.field-0 i.is c.in_ok-snap.ensures.given in
    rw (nothing-left (run_of c.args.pipe.code c.args.pipe.inputs) c.loop-pipe.pipe.given c.in_ok-snap.field-0 next c.in_default.not-Some) at i.list
