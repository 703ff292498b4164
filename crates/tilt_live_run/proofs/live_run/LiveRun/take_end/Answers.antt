use Rattle.std.proofs.Common.{◌≡◌, ◌∙◌, ◌++◌, ◌+◌, [], take, refl, sym, ap, Ok, Err, length, vec_len, arith, rules}
use Rattle.std.proofs.lemmas.Bool.{eqb-true}
use Rattle.std.proofs.lemmas.List.{nil_from_length}
use Rattle.std.proofs.lemmas.Result.{err_from_is_err_and}
use Rattle.tilt_feed_form.proofs.Saying.{fault-cut, step-cut}
use Rattle.tilt_feed_text.proofs.Splitting.{cut_again}
use Rattle.tilt_feed_text.specs.declared.pending.TheConstants.{LINE}
use Rattle.tilt_live_run.proofs.Pieces.{line-into, line-refused, line-same, on-err, on-ok}
use Rattle.tilt_live_run.proofs.Running.{kept-few, none-kept}
use Rattle.tilt_live_run.proofs.live_run.LiveRun.take_end.Goals as goal

pub returns-then-is_empty-clause-taken : goal.returns-then-is_empty-clause-taken
returns-then-is_empty-clause-taken g c = λ accepted options number state front given is.
    let stored : vec_len c.args.self.now.pending ≡ length c.args.self.now.pending.items = search rules in
    let none = rw stored at (sym c.is_empty.ensures ∙ c.if-is_empty.true) in
    let kept : c.args.self.now.pending.items ≡ [] = nil_from_length c.args.self.now.pending.items (eqb-true _ 0 none) in
    rw (none-kept front c.args.self.now.pending.items is.pending none)
    (line-into _ _ _ accepted.core options _ _ _ _ _ number state c.args.end.now c.take.result c.take.result refl
    (on-ok c.take.result _ (λ n s of. record { line_run = of; pending = kept })) (c.take.ensures.taken accepted options number state given is.line_run))

pub append_cut-requires : goal.append_cut-requires
append_cut-requires g c = c.requires.sound.pending

pub returns-in_err-append_cut-clause-sound : goal.returns-in_err-append_cut-clause-sound
returns-in_err-append_cut-clause-sound g c = record { live = c.requires.sound.live; pending = rw c.in_err-append_cut.ensures.err c.requires.sound.pending }

pub returns-in_err-take-clause-sound : goal.returns-in_err-take-clause-sound
returns-in_err-take-clause-sound g c = record {
  live = c.in_err-take.ensures.live c.requires.sound.live;
  pending = kept-few (c.args.self.now.pending.items ++ c.args.end.now) c.append_cut.new.line.items c.in_ok-append_cut.ensures.ok;
}

pub returns-clause-sound : goal.returns-clause-sound
returns-clause-sound g c = record { live = c.in_ok-take.ensures.live c.requires.sound.live; pending = rw c.clear.ensures.items (omega arith) }

pub returns-in_err-append_cut-clause-taken : goal.returns-in_err-append_cut-clause-taken
returns-in_err-append_cut-clause-taken g c = λ accepted options number state front given is.
    let p = err_from_is_err_and c.from_residual.result c.from_residual.ensures.1 in
    line-refused _ _ _ accepted.core options _ _ _ number state (front ++ c.args.end.now) c.from_residual.result (p.1 ∙ ap Err p.2)

pub returns-in_err-take-clause-taken : goal.returns-in_err-take-clause-taken
returns-in_err-take-clause-taken g c = λ accepted options number state front given is.
    let p = err_from_is_err_and c.from_residual-in_err-take.result c.from_residual-in_err-take.ensures.1 in
    let cut : c.append_cut.new.line.items ≡ take (LINE + 1) (front ++ c.args.end.now) =
    c.in_ok-append_cut.ensures.ok ∙ rw is.pending (cut_again (LINE + 1) front c.args.end.now) in
    line-into _ _ _ accepted.core options _ _ _ _ _ number state (front ++ c.args.end.now) _ c.from_residual-in_err-take.result (p.1 ∙ ap Err p.2)
    (on-err c.from_residual-in_err-take.result _ _ (p.1 ∙ ap Err p.2))
    (line-same _ _ _ accepted.core options _ _ _ _ number state (take (LINE + 1) (front ++ c.args.end.now)) (front ++ c.args.end.now) _
    (step-cut options.form accepted.core.inputs number (front ++ c.args.end.now) state.kept)
    (fault-cut options.form accepted.core.inputs number (front ++ c.args.end.now) state.kept)
    (rw (c.deref.ensures.value ∙ cut) at (c.in_err-take.ensures.taken accepted options number state given is.line_run)))

pub returns-clause-taken : goal.returns-clause-taken
returns-clause-taken g c = λ accepted options number state front given is.
    let cut : c.append_cut.new.line.items ≡ take (LINE + 1) (front ++ c.args.end.now) =
    c.in_ok-append_cut.ensures.ok ∙ rw is.pending (cut_again (LINE + 1) front c.args.end.now) in
    line-into _ _ _ accepted.core options _ _ _ _ _ number state (front ++ c.args.end.now) _ (Ok tt) refl
    (λ n s of. record { line_run = of; pending = c.clear.ensures.items })
    (line-same _ _ _ accepted.core options _ _ _ _ number state (take (LINE + 1) (front ++ c.args.end.now)) (front ++ c.args.end.now) _
    (step-cut options.form accepted.core.inputs number (front ++ c.args.end.now) state.kept)
    (fault-cut options.form accepted.core.inputs number (front ++ c.args.end.now) state.kept)
    (rw (c.deref.ensures.value ∙ cut) at (c.in_ok-take.ensures.taken accepted options number state given is.line_run)))

pub returns-then-is_empty-clause-sound : goal.returns-then-is_empty-clause-sound
returns-then-is_empty-clause-sound g c = record { live = c.take.ensures.live c.requires.sound.live; pending = c.requires.sound.pending }
