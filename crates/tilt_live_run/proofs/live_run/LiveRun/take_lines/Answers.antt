use Rattle.std.proofs.Common.{◌∙◌, ◌++◌, ◌∷◌, [], ap, refl, Err}
use Rattle.std.proofs.lemmas.Result.{err_from_is_err_and}
use Rattle.tilt_live_run.proofs.Pieces.{ok-into}
use Rattle.tilt_live_run.proofs.Placing.{passing-first, passing-part, passing-whole}
use Rattle.tilt_live_run.proofs.Stepping.{along-end, along-first, along-more, line-added, line-then, none-added, piece-short}
use Rattle.tilt_live_run.proofs.Underway.{rest-shorter}
use Rattle.tilt_live_run.proofs.live_run.LiveRun.take_lines.Goals as goal

pub loop-line-init : goal.loop-line-init
loop-line-init g c = record {
  takes = c.requires.lines;
  sound = c.requires.sound;
  placed = λ bytes is. passing-first bytes c.args.piece.now c.args.self.now.place is;
  keeps = refl;
  of = λ accepted options bytes is. along-first _ _ _ _ accepted options _ _ bytes _ c.args.self.now is;
}

pub step-requires-clause-sound : goal.step-requires-clause-sound
step-requires-clause-sound g c = c.loop-line.invariant.sound

pub returns-in_err-step-clause-taken : goal.returns-in_err-step-clause-taken
returns-in_err-step-clause-taken g c = λ accepted options bytes is.
    let p = err_from_is_err_and c.from_residual.result c.from_residual.ensures.1 in
    let along = c.loop-line.invariant.of accepted options bytes is in
    let found = c.in-Some.ensures in
    let stepped = rw (found.2, line-added accepted.core options (bytes ++ along.done) c.loop-line.rest.now found.0 c.in-Some.after.now found.1)
    at (c.in_err-step.ensures.stepped accepted options (bytes ++ along.done) along.is) in
    along-end _ _ _ _ accepted options _ _ bytes _ c.loop-line.self c.step.new.self _ _ _ _ c.loop-line.rest.now c.from_residual.result along
    (rw (line-then c.loop-line.rest.now found.0 c.in-Some.after.now found.1)
    (piece-short _ _ _ _ accepted options _ _ _ _ c.step.new.self (bytes ++ along.done) (found.0 ++ 10 ∷ []) c.in-Some.after.now c.in_err-step.field-0.0 c.from_residual.result
    (p.1 ∙ ap Err p.2) stepped))

pub loop-line-smaller : goal.loop-line-smaller
loop-line-smaller g c = rest-shorter c.loop-line.rest.now c.in-Some.ensures.0 c.in-Some.after.now c.in-Some.ensures.1

pub loop-line-preserved : goal.loop-line-preserved
loop-line-preserved g c = record {
  takes = c.step.ensures.takes;
  sound = c.step.ensures.sound;
  placed = λ bytes is.
      let passing = c.loop-line.invariant.placed bytes is in
      let found = c.in-Some.ensures in
      passing-part bytes c.args.piece.now c.loop-line.self.place c.step.new.self.place c.loop-line.rest.now (found.0 ++ 10 ∷ []) c.in-Some.after.now
      (line-then c.loop-line.rest.now found.0 c.in-Some.after.now found.1) passing (rw found.2 at (c.in_ok-step.ensures.placed (bytes ++ passing.done) passing.is));
  keeps = c.step.ensures.keeps ∙ c.loop-line.invariant.keeps;
  of = λ accepted options bytes is.
      let along = c.loop-line.invariant.of accepted options bytes is in
      let found = c.in-Some.ensures in
      let stepped = rw (found.2, line-added accepted.core options (bytes ++ along.done) c.loop-line.rest.now found.0 c.in-Some.after.now found.1)
      at (c.in_ok-step.ensures.stepped accepted options (bytes ++ along.done) along.is) in
      along-more _ _ _ _ accepted options _ _ bytes _ c.loop-line.self c.step.new.self _ _ _ _ c.loop-line.rest.now found.0 c.in-Some.after.now found.1 along stepped;
}

pub step-requires-2-clause-sound : goal.step-requires-2-clause-sound
step-requires-2-clause-sound g c = c.loop-line.invariant.sound

pub returns-clause-taken : goal.returns-clause-taken
returns-clause-taken g c = λ accepted options bytes is.
    let along = c.loop-line.invariant.of accepted options bytes is in
    let stepped = rw (none-added accepted.core options (bytes ++ along.done) c.loop-line.rest.now c.in_default.ensures)
    at (c.step-2.ensures.stepped accepted options (bytes ++ along.done) along.is) in
    along-end _ _ _ _ accepted options _ _ bytes _ c.loop-line.self c.step-2.new.self _ _ _ _ c.loop-line.rest.now c.step-2.result along stepped

pub returns-clause-placed : goal.returns-clause-placed
returns-clause-placed g c = λ bytes is.
    let passing = c.loop-line.invariant.placed bytes is in
    ok-into c.step-2.result _ _ (λ later. passing-whole bytes c.args.piece.now c.loop-line.self.place c.step-2.new.self.place c.loop-line.rest.now passing later)
    (c.step-2.ensures.placed (bytes ++ passing.done) passing.is)
