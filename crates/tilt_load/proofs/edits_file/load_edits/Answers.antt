use Rattle.std.proofs.Common.{◌≡◌}
use Rattle.std.specs.Prelude.{⊤}
use Rattle.std.proofs.lemmas.Result.{err_from_is_err_and}
use Rattle.tilt_load.specs.EditsFile.{RefusesEdits}
use Rattle.tilt_load.specs.Load.{IsTooLong}
use Rattle.tilt_load.proofs.Loads.{load_fault_weaker}
use Rattle.tilt_load.proofs.OneEdits.{edits_refuse, edits_too_long}
use Rattle.tilt_report.specs.Report.{report_of, report_of_edits}
use Rattle.tilt_load.proofs.edits_file.load_edits.Goals as goal

pub returns-in_err-bytes-clause-fault : goal.returns-in_err-bytes-clause-fault
returns-in_err-bytes-clause-fault g c =
    let p = err_from_is_err_and c.from_residual.result c.from_residual.ensures.1 in
    let tells = g.S.Shelf.tells in
    let inputs = c.args.inputs.now in
    let name = c.args.name.now in
    let file = g.S.Shelf.files c.args.shelf.now name in
    rw (p.1, p.2) (load_fault_weaker tells tells (IsTooLong name file) (RefusesEdits inputs name file) (λ which. which ≡ name) (λ which. which ≡ name) _ _ _ _ (λ t. t)
    (λ why t is. edits_too_long inputs name file why is) (λ which rose same. (rose, same)) (report_of c.in_err-bytes.field-0.0) c.in_err-bytes.ensures.fault)

pub returns-in_err-read_edits-clause-fault : goal.returns-in_err-read_edits-clause-fault
returns-in_err-read_edits-clause-fault g c =
    let p = err_from_is_err_and c.from_residual-in_err-read_edits.result c.from_residual-in_err-read_edits.ensures.1 in
    let tells = g.S.Shelf.tells in
    let inputs = c.args.inputs.now in
    let name = c.args.name.now in
    let file = g.S.Shelf.files c.args.shelf.now name in
    let bytes = c.deref.result.now in
    let fault = c.in_err-read_edits.field-0.0 in
    let refuses = edits_refuse inputs name bytes fault (rw c.deref.ensures.value c.in_ok-bytes.ensures.short) c.in_err-read_edits.ensures.faulty in
    rw (p.1, p.2) (load_fault_weaker ⊤ tells (RefusesEdits inputs name bytes) (RefusesEdits inputs name file) (λ _. ⊥) (λ which. which ≡ name) 0 0 _ _ (λ t. tt)
    (λ why t is. rw (c.deref.ensures.value, c.in_ok-bytes.ensures.whole t) at is) (λ which rose never. absurd never) (report_of_edits fault) refuses)

pub returns-clause-taken : goal.returns-clause-taken
returns-clause-taken g c =
    λ told.
    let whole = c.in_ok-bytes.ensures.whole told in
    record { short = rw whole at c.in_ok-bytes.ensures.short; said = rw (c.deref.ensures.value, whole) at c.in_ok-read_edits.ensures.edits }
