use Rattle.std.proofs.Common.{◌∙◌, ◌+◌, sym, ap, refl, Err}
use Rattle.std.proofs.lemmas.Result.{err_from_is_err_and}
use Rattle.tilt_feed.specs.Printed.{printed}
use Rattle.tilt_live_run.proofs.Showing.{all-given, shown-all, shown-failed, shown-next, shown-none, shown-stopped}
use Rattle.tilt_live_run.proofs.shown.show_final.Goals as goal

pub loop-init : goal.loop-init
loop-init g c = record {
  live = c.requires;
  of = λ accepted feed given is. (given, is, shown-none _ _ _ _ given);
}

pub next-requires : goal.next-requires
next-requires g c = c.loop.invariant.live

pub returns-in_err-snap-clause-shown : goal.returns-in_err-snap-clause-shown
returns-in_err-snap-clause-shown g c = λ accepted feed given is.
    let before = c.loop.invariant.of accepted feed given is in
    let p = err_from_is_err_and c.from_residual.result c.from_residual.ensures.1 in
    shown-stopped _ _ _ _ _ given before.0 p.0 c.from_residual.result p.1 (λ e. cc (sym p.2 ∙ e)) (λ e. cc (sym p.2 ∙ e)) before.2

pub returns-in_default-clause-shown : goal.returns-in_default-clause-shown
returns-in_default-clause-shown g c = λ accepted feed given is.
    let before = c.loop.invariant.of accepted feed given is in
    let next = rw c.in_default.is at (c.in_ok-snap.ensures.next accepted feed before.0 before.1) in
    shown-all _ _ _ _ _ given before.0 before.2 (sym next.0)

pub returns-in_default-clause-goes_on : goal.returns-in_default-clause-goes_on
returns-in_default-clause-goes_on g c = λ accepted feed given is.
    let before = c.loop.invariant.of accepted feed given is in
    let next = rw c.in_default.is at (c.in_ok-snap.ensures.next accepted feed before.0 before.1) in
    rw (← all-given (printed accepted.core feed) before.0 (sym next.0) next.1.within) next.1

pub returns-in_err-write_snap-clause-shown : goal.returns-in_err-write_snap-clause-shown
returns-in_err-write_snap-clause-shown g c = λ accepted feed given is.
    let before = c.loop.invariant.of accepted feed given is in
    let next = rw c.in-Some.is at (c.in_ok-snap.ensures.next accepted feed before.0 before.1) in
    let p = err_from_is_err_and c.from_residual-in_err-write_snap.result c.from_residual-in_err-write_snap.ensures.1 in
    shown-failed _ _ _ _ _ _ given before.0 c.in-Some.snap _ c.from_residual-in_err-write_snap.result (p.1 ∙ ap Err p.2) before.2 (sym next.0)
    c.in_err-write_snap.ensures

pub loop-preserved : goal.loop-preserved
loop-preserved g c = record {
  live = c.next.ensures.live;
  of = λ accepted feed given is.
      let before = c.loop.invariant.of accepted feed given is in
      let next = rw c.in-Some.is at (c.in_ok-snap.ensures.next accepted feed before.0 before.1) in
      (before.0 + 1, next.1, shown-next _ _ _ _ _ _ given before.0 c.in-Some.snap before.2 (sym next.0) c.in_ok-write_snap.ensures);
}

pub returns-clause-shown : goal.returns-clause-shown
returns-clause-shown g c = λ accepted feed given is.
    let before = c.loop.invariant.of accepted feed given is in
    shown-stopped _ _ _ _ _ given before.0 _ _ refl (λ e. cc e) (λ e. cc e) before.2

pub returns-clause-live : goal.returns-clause-live
returns-clause-live g c = c.loop.invariant.live
