use Rattle.std.proofs.Common.{◌≡◌, ◌∙◌, ◌++◌, ◌+◌, [], take, refl, sym, ap, Ok, Err, length, vec_len, rules}
use Rattle.std.proofs.lemmas.Bool.{eqb-true}
use Rattle.std.proofs.lemmas.List.{nil_from_length}
use Rattle.std.proofs.lemmas.Result.{err_from_is_err_and}
use Rattle.tilt_feed_text.proofs.Splitting.{cut_again}
use Rattle.tilt_feed_text.specs.declared.pending.TheConstants.{LINE}
use Rattle.tilt_live_keys.proofs.Cutting.{heard-cut}
use Rattle.tilt_live_keys.proofs.Pieces.{line-into, line-refused, on-err, on-ok}
use Rattle.tilt_live_run.proofs.Running.{kept-few, none-kept}
use Rattle.tilt_live_keys.proofs.keyed_live.KeyedLive.take_end.Goals as goal

pub take-requires : goal.take-requires
take-requires g c = record { runs = (c.requires.runs.0, c.requires.runs.1, c.requires.runs.2, c.requires.runs.4.lines_are); lines = c.requires.lines }

pub returns-then-is_empty-clause-taken : goal.returns-then-is_empty-clause-taken
returns-then-is_empty-clause-taken g c = λ recipe number feed front is.
    let stored : vec_len c.args.self.now.pending ≡ length c.args.self.now.pending.items = search rules in
    let none = rw stored at (sym c.is_empty.ensures ∙ c.if-is_empty.true) in
    let kept : c.args.self.now.pending.items ≡ [] = nil_from_length c.args.self.now.pending.items (eqb-true _ 0 none) in
    rw (none-kept front c.args.self.now.pending.items is.pending none)
    (line-into _ _ _ recipe _ _ _ _ _ _ number feed _ c.take.result c.take.result refl
    (on-ok c.take.result _ (λ n f of. record { lines_are = of; pending = kept })) (c.take.ensures.taken recipe number feed is.lines_are))

pub append_cut-requires : goal.append_cut-requires
append_cut-requires g c = kept-few c.requires.runs.3 c.args.self.now.pending.items c.requires.runs.4.pending

pub returns-in_err-append_cut-clause-taken : goal.returns-in_err-append_cut-clause-taken
returns-in_err-append_cut-clause-taken g c = λ recipe number feed front is.
    let p = err_from_is_err_and c.from_residual.result c.from_residual.ensures.1 in
    line-refused _ _ _ recipe _ _ _ _ number feed _ c.from_residual.result (p.1 ∙ ap Err p.2)

pub take-requires-2 : goal.take-requires-2
take-requires-2 g c = record { runs = (c.requires.runs.0, c.requires.runs.1, c.requires.runs.2, c.requires.runs.4.lines_are); lines = c.requires.lines }

pub returns-in_err-take-clause-taken : goal.returns-in_err-take-clause-taken
returns-in_err-take-clause-taken g c = λ recipe number feed front is.
    let p = err_from_is_err_and c.from_residual-in_err-take.result c.from_residual-in_err-take.ensures.1 in
    let cut : c.append_cut.new.line.items ≡ take (LINE + 1) (front ++ c.args.end.now) =
    c.in_ok-append_cut.ensures.ok ∙ rw is.pending (cut_again (LINE + 1) front c.args.end.now) in
    line-into _ _ _ recipe _ _ _ _ _ _ number feed _ _ c.from_residual-in_err-take.result (p.1 ∙ ap Err p.2)
    (on-err c.from_residual-in_err-take.result _ _ (p.1 ∙ ap Err p.2))
    (rw (c.deref.ensures.value ∙ cut, heard-cut number (front ++ c.args.end.now)) at (c.in_err-take.ensures.taken recipe number feed is.lines_are))

pub returns-clause-taken : goal.returns-clause-taken
returns-clause-taken g c = λ recipe number feed front is.
    let cut : c.append_cut.new.line.items ≡ take (LINE + 1) (front ++ c.args.end.now) =
    c.in_ok-append_cut.ensures.ok ∙ rw is.pending (cut_again (LINE + 1) front c.args.end.now) in
    line-into _ _ _ recipe _ _ _ _ _ _ number feed _ _ (Ok tt) refl
    (λ n f of. record { lines_are = of; pending = c.clear.ensures.items })
    (rw (c.deref.ensures.value ∙ cut, heard-cut number (front ++ c.args.end.now)) at (c.in_ok-take.ensures.taken recipe number feed is.lines_are))
