use Rattle.std.proofs.Common.{◌≡◌, ℕ, List, subst, ◌∙◌}
use Rattle.std.proofs.lemmas.Result.{err_from_is_err_and}
use Rattle.tilt_live_app.specs.StateFile.{RefusesState, long, of_none, of_other_options, of_other_query}
use Rattle.tilt_load.specs.Load.{IsTooLong}
use Rattle.tilt_load.proofs.Loads.{load_fault_weaker}
use Rattle.tilt_report.specs.Report.{report_of}
use Rattle.tilt_run_state.specs.Rejection.{RejectsState}
use Rattle.tilt_run_state.specs.Rejection as state
use Rattle.tilt_run_state.specs.declared.rejection.StateRejection.TheVariants.{NotAState, OtherOptions, OtherQuery}
use Rattle.tilt_live_app.proofs.state_file.load_state.Goals as goal

pub returns-in_err-bytes-clause-fault : goal.returns-in_err-bytes-clause-fault
returns-in_err-bytes-clause-fault g c =
    let p = err_from_is_err_and c.from_residual.result c.from_residual.ensures.1 in
    let tells = g.S.Shelf.tells in
    let name = c.args.name.now in
    let file = g.S.Shelf.files c.args.shelf.now name in
    rw (p.1, p.2) (load_fault_weaker tells tells (IsTooLong name file) (RefusesState c.args.query.now c.args.form.now name file) (λ which. which ≡ name)
    (λ which. which ≡ name) _ _ _ _ (λ t. t) (λ why t is. rw is.0 (long is.1)) (λ which rose same. (rose, same)) (report_of c.in_err-bytes.field-0.0) c.in_err-bytes.ensures.fault)

pub returns-in-Err-NotAState-clause-fault : goal.returns-in-Err-NotAState-clause-fault
returns-in-Err-NotAState-clause-fault g c = λ told.
    let whole = c.in_ok-bytes.ensures.whole told in
    of_none (rw whole at c.in_ok-bytes.ensures.short)
    (subst (λ (bytes : List ℕ). RejectsState c.args.query.now c.args.form.now bytes NotAState) (c.deref.ensures.value ∙ whole)
    (rw c.in-Err-NotAState.field-0-is at c.in-Err-NotAState.ensures.rejected))

pub returns-in-Err-OtherQuery-clause-fault : goal.returns-in-Err-OtherQuery-clause-fault
returns-in-Err-OtherQuery-clause-fault g c = λ told.
    let whole = c.in_ok-bytes.ensures.whole told in
    of_other_query (rw whole at c.in_ok-bytes.ensures.short)
    (subst (λ (bytes : List ℕ). RejectsState c.args.query.now c.args.form.now bytes OtherQuery) (c.deref.ensures.value ∙ whole)
    (rw c.in-Err-OtherQuery.field-0-is at c.in-Err-OtherQuery.ensures.rejected))

pub returns-in-Err-OtherOptions-clause-fault : goal.returns-in-Err-OtherOptions-clause-fault
returns-in-Err-OtherOptions-clause-fault g c = λ told.
    let whole = c.in_ok-bytes.ensures.whole told in
    of_other_options (rw whole at c.in_ok-bytes.ensures.short)
    (subst (λ (bytes : List ℕ). RejectsState c.args.query.now c.args.form.now bytes OtherOptions) (c.deref.ensures.value ∙ whole)
    (rw c.in-Err-OtherOptions.field-0-is at c.in-Err-OtherOptions.ensures.rejected))

pub returns-in-Ok-clause-taken : goal.returns-in-Ok-clause-taken
returns-in-Ok-clause-taken g c = λ told.
    let whole = c.in_ok-bytes.ensures.whole told in
    record {
      short = rw whole at c.in_ok-bytes.ensures.short;
      takes = subst (λ (bytes : List ℕ). state.TakesState c.args.query.now c.args.form.now bytes c.in-Ok.state) (c.deref.ensures.value ∙ whole) c.in-Ok.ensures.taken;
      only = λ other valid range e query. c.in-Ok.ensures.only other valid range (c.deref.ensures.value ∙ whole ∙ e) query;
    }
