use Rattle.std.proofs.Common.{◌∙◌, ◌+◌, ◌++◌, ap, refl, length, Err}
use Rattle.std.proofs.lemmas.Result.{err_from_is_err_and}
use Rattle.tilt_feed_text.proofs.Splitting.{cut_again}
use Rattle.tilt_feed_text.specs.declared.pending.TheConstants.{LINE}
use Rattle.tilt_live_run.proofs.Placing.{passing-end, passing-first, passing-line}
use Rattle.tilt_live_run.proofs.Running.{kept-few}
use Rattle.tilt_live_run.proofs.Underway.{rest-shorter, underway-end, underway-first, underway-more, underway-refused, underway-stopped}
use Rattle.tilt_live_run.specs.Places.{passed_line}
use Rattle.tilt_live_run.specs.declared.place.Place.{Place}
use Rattle.tilt_live_run.proofs.live_run.LiveRun.take_piece.Goals as goal

pub loop-line-init : goal.loop-line-init
loop-line-init g c = record {
  takes = c.requires.lines;
  sound = c.requires.sound;
  placed = λ bytes is. passing-first bytes c.args.piece.now c.args.self.now.place is;
  keeps = refl;
  shown = refl;
  display = refl;
  of = λ accepted options number state front given is. underway-first _ _ _ accepted options given _ number state front _ c.args.self.now is;
}

pub take_end-requires-clause-sound : goal.take_end-requires-clause-sound
take_end-requires-clause-sound g c = c.loop-line.invariant.sound

pub take_end-requires-clause-lines : goal.take_end-requires-clause-lines
take_end-requires-clause-lines g c = c.loop-line.invariant.takes

pub returns-in_err-take_end-clause-taken : goal.returns-in_err-take_end-clause-taken
returns-in_err-take_end-clause-taken g c = λ accepted options number state front given is.
    let p = err_from_is_err_and c.from_residual.result c.from_residual.ensures.1 in
    underway-stopped _ _ _ accepted options given _ number state front _ c.loop-line.self c.take_end.new.self _ _ c.loop-line.rest.now c.in-Some.line.now c.in-Some.after.now
    c.in-Some.ensures (c.loop-line.invariant.of accepted options number state front given is) c.in_err-take_end.field-0.0 c.from_residual.result (p.1 ∙ ap Err p.2)
    (λ n s x now. c.in_err-take_end.ensures.taken accepted options n s x given now)

pub returns-in_err-take_end-clause-kept : goal.returns-in_err-take_end-clause-kept
returns-in_err-take_end-clause-kept g c =
    (c.take_end.ensures.kept.0 ∙ c.loop-line.invariant.shown, c.take_end.ensures.kept.1 ∙ c.loop-line.invariant.display)

pub loop-line-smaller : goal.loop-line-smaller
loop-line-smaller g c = rest-shorter c.loop-line.rest.now c.in-Some.line.now c.in-Some.after.now c.in-Some.ensures

pub loop-line-preserved : goal.loop-line-preserved
loop-line-preserved g c = record {
  takes = c.take_end.ensures.takes;
  sound = record { live = c.take_end.ensures.sound.live; pending = c.take_end.ensures.sound.pending };
  placed = λ bytes is.
      passing-line bytes c.args.piece.now c.loop-line.self.place _ c.loop-line.rest.now c.in-Some.line.now c.in-Some.after.now c.in-Some.ensures
      (c.pass_line-self.ensures ∙ ap (λ (p : Place). passed_line p (length c.in-Some.line.now)) c.take_end.ensures.placed) (c.loop-line.invariant.placed bytes is);
  keeps = c.take_end.ensures.keeps ∙ c.loop-line.invariant.keeps;
  shown = c.take_end.ensures.kept.0 ∙ c.loop-line.invariant.shown;
  display = c.take_end.ensures.kept.1 ∙ c.loop-line.invariant.display;
  of = λ accepted options number state front given is.
      let more =
      underway-more _ _ _ accepted options given _ number state front _ c.loop-line.self c.take_end.new.self _ _ c.loop-line.rest.now c.in-Some.line.now c.in-Some.after.now
      c.in-Some.ensures (c.loop-line.invariant.of accepted options number state front given is) (λ n s x now. c.in_ok-take_end.ensures.taken accepted options n s x given now) in
      record {
        number_now = more.number_now;
        state_now = more.state_now;
        front_now = more.front_now;
        is = record { line_run = more.is.line_run; pending = more.is.pending };
        onward = more.onward;
      };
}

pub append_cut-requires : goal.append_cut-requires
append_cut-requires g c = c.loop-line.invariant.sound.pending

pub returns-in_err-append_cut-clause-taken : goal.returns-in_err-append_cut-clause-taken
returns-in_err-append_cut-clause-taken g c = λ accepted options number state front given is.
    let p = err_from_is_err_and c.from_residual-in_err-append_cut.result c.from_residual-in_err-append_cut.ensures.1 in
    underway-refused _ _ _ accepted options given _ number state front _ c.loop-line.self _ c.loop-line.rest.now
    (c.loop-line.invariant.of accepted options number state front given is) _ c.from_residual-in_err-append_cut.result (p.1 ∙ ap Err p.2)

pub returns-in_err-append_cut-clause-kept : goal.returns-in_err-append_cut-clause-kept
returns-in_err-append_cut-clause-kept g c = (c.loop-line.invariant.shown, c.loop-line.invariant.display)

pub returns-in_err-append_cut-clause-takes : goal.returns-in_err-append_cut-clause-takes
returns-in_err-append_cut-clause-takes g c = c.loop-line.invariant.takes

pub returns-clause-taken : goal.returns-clause-taken
returns-clause-taken g c = λ accepted options number state front given is.
    underway-end _ _ _ accepted options given _ number state front _ c.loop-line.self _ c.loop-line.rest.now
    (c.loop-line.invariant.of accepted options number state front given is) _ c.in_default.ensures
    (λ n s x of. record {
      line_run = of.line_run;
      pending = c.in_ok-append_cut.ensures.ok ∙ rw of.pending (cut_again (LINE + 1) x c.loop-line.rest.now);
    })

pub returns-clause-kept : goal.returns-clause-kept
returns-clause-kept g c = (c.loop-line.invariant.shown, c.loop-line.invariant.display)

pub returns-clause-takes : goal.returns-clause-takes
returns-clause-takes g c = c.loop-line.invariant.takes

pub returns-in_err-append_cut-clause-sound : goal.returns-in_err-append_cut-clause-sound
returns-in_err-append_cut-clause-sound g c = record {
  live = c.loop-line.invariant.sound.live;
  pending = rw c.in_err-append_cut.ensures.err c.loop-line.invariant.sound.pending;
}

pub returns-clause-sound : goal.returns-clause-sound
returns-clause-sound g c = record {
  live = c.loop-line.invariant.sound.live;
  pending = kept-few (c.loop-line.self.pending.items ++ c.loop-line.rest.now) c.append_cut.new.line.items c.in_ok-append_cut.ensures.ok;
}

pub returns-clause-placed : goal.returns-clause-placed
returns-clause-placed g c = λ bytes is.
    passing-end bytes c.args.piece.now c.loop-line.self.place _ c.loop-line.rest.now c.in_default.ensures c.pass-self.ensures (c.loop-line.invariant.placed bytes is)
