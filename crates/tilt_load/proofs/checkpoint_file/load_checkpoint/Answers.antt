use Rattle.std.proofs.Common.{◌≡◌, ◌∙◌, subst, sym}
use Rattle.tilt_checkpoint.specs.Spelling.{Spells}
use Rattle.std.proofs.lemmas.Result.{err_from_is_err_and}
use Rattle.tilt_load.specs.CheckpointFile.{RefusesCheckpoint, of_none}
use Rattle.tilt_load.specs.Load.{IsTooLong}
use Rattle.tilt_load.proofs.Loads.{load_fault_weaker}
use Rattle.tilt_load.proofs.OneCheckpoint.{checkpoint_too_long}
use Rattle.tilt_report.specs.Report.{report_of}
use Rattle.tilt_load.proofs.checkpoint_file.load_checkpoint.Goals as goal

pub returns-in_err-bytes-clause-fault : goal.returns-in_err-bytes-clause-fault
returns-in_err-bytes-clause-fault g c =
    let p = err_from_is_err_and c.from_residual.result c.from_residual.ensures.1 in
    let tells = g.S.Shelf.tells in
    let name = c.args.name.now in
    let file = g.S.Shelf.files c.args.shelf.now name in
    rw (p.1, p.2) (load_fault_weaker tells tells (IsTooLong name file) (RefusesCheckpoint name file) (λ which. which ≡ name) (λ which. which ≡ name) _ _ _ _ (λ t. t)
    (λ why t is. checkpoint_too_long name file why is) (λ which rose same. (rose, same)) (report_of c.in_err-bytes.field-0.0) c.in_err-bytes.ensures.fault)

pub returns-in-Err-BadCheckpoint-clause-fault : goal.returns-in-Err-BadCheckpoint-clause-fault
returns-in-Err-BadCheckpoint-clause-fault g c =
    λ told.
    let whole = c.in_ok-bytes.ensures.whole told in
    let none = c.in-Err-BadCheckpoint.ensures.bad c.in-Err-BadCheckpoint.field-0-is in
    of_none (rw whole at c.in_ok-bytes.ensures.short) (λ k is e. none k is (subst (λ b. Spells b k) (sym (c.deref.ensures.value ∙ whole)) e))

pub returns-clause-taken : goal.returns-clause-taken
returns-clause-taken g c =
    λ told.
    let whole = c.in_ok-bytes.ensures.whole told in
    let read = c.in-Ok.ensures.checkpoint in
    record {
      short = rw whole at c.in_ok-bytes.ensures.short;
      valid = read.0;
      spelled = rw (c.deref.ensures.value, whole) at read.1;
    }
