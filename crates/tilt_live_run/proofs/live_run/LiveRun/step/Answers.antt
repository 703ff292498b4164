use Rattle.std.proofs.Common.{◌∙◌, sym, ap, refl, length, Ok, Err}
use Rattle.std.proofs.lemmas.Result.{err_from_is_err_and}
use Rattle.tilt_feed.specs.Printed.{printed}
use Rattle.tilt_feed_text.specs.Split.{unfinished}
use Rattle.tilt_live_run.specs.declared.display.Display.{Display}
use Rattle.tilt_live_run.proofs.Lines.{shown-news}
use Rattle.tilt_live_run.proofs.Stepping.{taken-live, taken-shown, lost-memory, lost-written, not-lost, shown-after}
use Rattle.tilt_live_run.specs.Runs.{number_of, state_after, state_taken}
use Rattle.tilt_live_run.proofs.live_run.LiveRun.step.Goals as goal

pub returns-then-is_lost-clause-stepped : goal.returns-then-is_lost-clause-stepped
returns-then-is_lost-clause-stepped g c = λ accepted options bytes is.
    let taken = c.take_piece-taken.ensures.taken accepted options (number_of bytes) (state_after options accepted.core bytes) (unfinished bytes)
    (length (printed accepted.core (state_after options accepted.core bytes).feed)) is.after in
    lost-written _ _ _ _ _ _ _ _ accepted.core options bytes c.args.piece.now _ c.take_piece-taken.result
    (lost-memory c.take_piece-taken.result (sym c.if-is_lost.ensures) c.take_piece-taken.ensures.no_write_fault) taken.reports taken.stop

pub returns-in_err-show-clause-stepped : goal.returns-in_err-show-clause-stepped
returns-in_err-show-clause-stepped g c = λ accepted options bytes is.
    let core = accepted.core in
    let given = length (printed core (state_after options core bytes).feed) in
    let after = (state_taken options core bytes c.args.piece.now).feed in
    let p = err_from_is_err_and c.from_residual.result c.from_residual.ensures.1 in
    let taken = c.take_piece-taken.ensures.taken accepted options (number_of bytes) (state_after options core bytes) (unfinished bytes) given is.after in
    let bad = not-lost c.take_piece-taken.result (sym c.if-is_lost.ensures) in
    let live = taken-live _ _ _ _ _ accepted options bytes c.args.piece.now given c.take_piece-taken.new.self c.take_piece-taken.result bad taken in
    let kept = c.take_piece-taken.ensures.kept in
    let adds = rw (kept.1, is.after.line_run.display_is, kept.0) at (c.in_err-show.ensures.adds accepted after given live) in
    shown-after _ _ _ _ _ _ _ _ _ core options bytes c.args.piece.now _ c.take_piece-taken.result (Err c.in_err-show.field-0.0) c.from_residual.result bad taken.reports taken.stop
    (rw (shown-news options.display core (state_after options core bytes).feed after c.args.self.now.run.shown is.begun) at adds) c.in_err-show.ensures.no_bad_line (p.1 ∙ ap Err p.2)
    (rw (p.1 ∙ ap Err p.2) tt)

pub returns-clause-stepped : goal.returns-clause-stepped
returns-clause-stepped g c = λ accepted options bytes is.
    let core = accepted.core in
    let given = length (printed core (state_after options core bytes).feed) in
    let after = (state_taken options core bytes c.args.piece.now).feed in
    let taken = c.take_piece-taken.ensures.taken accepted options (number_of bytes) (state_after options core bytes) (unfinished bytes) given is.after in
    let bad = not-lost c.take_piece-taken.result (sym c.if-is_lost.ensures) in
    let live = taken-live _ _ _ _ _ accepted options bytes c.args.piece.now given c.take_piece-taken.new.self c.take_piece-taken.result bad taken in
    let kept = c.take_piece-taken.ensures.kept in
    let adds = rw (kept.1, is.after.line_run.display_is, kept.0) at (c.in_ok-show.ensures.adds accepted after given live) in
    shown-after _ _ _ _ _ _ _ _ _ core options bytes c.args.piece.now _ c.take_piece-taken.result (Ok tt) c.take_piece-taken.result bad taken.reports taken.stop
    (rw (shown-news options.display core (state_after options core bytes).feed after c.args.self.now.run.shown is.begun) at adds) tt refl
    (taken-shown _ _ _ _ _ accepted options bytes c.args.piece.now given c.take_piece-taken.new.self _ c.take_piece-taken.result taken
    (c.in_ok-show.ensures.goes_on accepted after given live)
    (λ yes. c.in_ok-show.ensures.begun accepted after given live (ap (λ (display : Display). display.with_begun) (kept.1 ∙ is.after.line_run.display_is) ∙ yes)) c.show.ensures.rest
    (λ feed of keeps. c.in_ok-show.ensures.rows accepted feed given of keeps) refl)

pub returns-in_err-show-clause-sound : goal.returns-in_err-show-clause-sound
returns-in_err-show-clause-sound g c = record { live = c.show.ensures.live; pending = c.take_piece-taken.ensures.sound.pending }

pub returns-clause-sound : goal.returns-clause-sound
returns-clause-sound g c = record { live = c.show.ensures.live; pending = c.take_piece-taken.ensures.sound.pending }

pub returns-clause-placed : goal.returns-clause-placed
returns-clause-placed g c = λ bytes is. c.take_piece-taken.ensures.placed bytes is
