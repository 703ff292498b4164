use Rattle.std.proofs.Common.{◌∙◌, ◌+◌, ap, refl, Err}
use Rattle.std.proofs.lemmas.Result.{err_from_is_err_and}
use Rattle.tilt_feed_text.proofs.Splitting.{cut_again}
use Rattle.tilt_feed_text.specs.declared.pending.TheConstants.{LINE}
use Rattle.tilt_live_keys.proofs.Underway.{underway-end, underway-first, underway-more, underway-refused, underway-stopped}
use Rattle.tilt_live_run.proofs.Running.{kept-few}
use Rattle.tilt_live_run.proofs.Underway.{rest-shorter}
use Rattle.tilt_live_keys.proofs.keyed_live.KeyedLive.take_piece.Goals as goal

pub loop-line-init : goal.loop-line-init
loop-line-init g c = record {
  takes = c.requires.lines;
  of = λ recipe number feed front is. underway-first _ _ _ recipe _ c.args.self.now number feed front _ is;
}

pub take_end-requires : goal.take_end-requires
take_end-requires g c =
    let runs = c.requires.runs in
    let now = c.loop-line.invariant.of runs.0 runs.1 runs.2 runs.3 runs.4 in
    record { runs = (runs.0, now.number_now, now.feed_now, now.front_now, now.is); lines = c.loop-line.invariant.takes }

pub returns-in_err-take_end-clause-taken : goal.returns-in_err-take_end-clause-taken
returns-in_err-take_end-clause-taken g c = λ recipe number feed front is.
    let p = err_from_is_err_and c.from_residual.result c.from_residual.ensures.1 in
    underway-stopped _ _ _ recipe _ c.args.self.now number feed front _ c.loop-line.self c.take_end.new.self _ _ c.loop-line.rest.now c.in-Some.line.now c.in-Some.after.now
    c.in-Some.ensures (c.loop-line.invariant.of recipe number feed front is) c.in_err-take_end.field-0.0 c.from_residual.result (p.1 ∙ ap Err p.2)
    (λ n f x now. c.in_err-take_end.ensures.taken recipe n f x now)

pub loop-line-smaller : goal.loop-line-smaller
loop-line-smaller g c = rest-shorter c.loop-line.rest.now c.in-Some.line.now c.in-Some.after.now c.in-Some.ensures

pub loop-line-preserved : goal.loop-line-preserved
loop-line-preserved g c = record {
  takes = c.take_end.ensures.takes;
  of = λ recipe number feed front is.
      let more =
      underway-more _ _ _ recipe _ c.args.self.now number feed front _ c.loop-line.self c.take_end.new.self _ _ c.loop-line.rest.now c.in-Some.line.now c.in-Some.after.now
      c.in-Some.ensures (c.loop-line.invariant.of recipe number feed front is) (λ n f x now. c.in_ok-take_end.ensures.taken recipe n f x now) in
      record {
        number_now = more.number_now;
        feed_now = more.feed_now;
        front_now = more.front_now;
        is = record { lines_are = more.is.lines_are; pending = more.is.pending };
        onward = more.onward;
      };
}

pub append_cut-requires : goal.append_cut-requires
append_cut-requires g c =
    let runs = c.requires.runs in
    let now = c.loop-line.invariant.of runs.0 runs.1 runs.2 runs.3 runs.4 in
    kept-few now.front_now c.loop-line.self.pending.items now.is.pending

pub returns-in_err-append_cut-clause-taken : goal.returns-in_err-append_cut-clause-taken
returns-in_err-append_cut-clause-taken g c = λ recipe number feed front is.
    let p = err_from_is_err_and c.from_residual-in_err-append_cut.result c.from_residual-in_err-append_cut.ensures.1 in
    underway-refused _ _ _ recipe _ c.args.self.now number feed front _ c.loop-line.self _ c.loop-line.rest.now
    (c.loop-line.invariant.of recipe number feed front is) _ c.from_residual-in_err-append_cut.result (p.1 ∙ ap Err p.2)

pub returns-in_err-append_cut-clause-takes : goal.returns-in_err-append_cut-clause-takes
returns-in_err-append_cut-clause-takes g c = c.loop-line.invariant.takes

pub returns-clause-taken : goal.returns-clause-taken
returns-clause-taken g c = λ recipe number feed front is.
    underway-end _ _ _ recipe _ c.args.self.now number feed front _ c.loop-line.self _ c.loop-line.rest.now (c.loop-line.invariant.of recipe number feed front is)
    _ refl c.in_default.ensures
    (λ n f x of. record {
      lines_are = of.lines_are;
      pending = c.in_ok-append_cut.ensures.ok ∙ rw of.pending (cut_again (LINE + 1) x c.loop-line.rest.now);
    })

pub returns-clause-takes : goal.returns-clause-takes
returns-clause-takes g c = c.loop-line.invariant.takes
