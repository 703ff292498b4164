use Rattle.std.proofs.Common.{◌≡◌}
use Rattle.std.specs.Prelude.{⊤}
use Rattle.std.proofs.lemmas.Result.{err_from_is_err_and, IfErr-weaker, IfOk-weaker}
use Rattle.tilt_load.specs.Load.{IsTooLong}
use Rattle.tilt_load.specs.QueryFile.{RefusesQuery}
use Rattle.tilt_report.specs.Report.{report_of}
use Rattle.tilt_load.proofs.Loads.{load_fault_weaker, too_long_refuses}
use Rattle.tilt_load.proofs.query_file.load_query.Goals as goal

pub returns-in_err-bytes-clause-fault : goal.returns-in_err-bytes-clause-fault
returns-in_err-bytes-clause-fault g c =
    let p = err_from_is_err_and c.from_residual.result c.from_residual.ensures.1 in
    let name = c.args.name.now in
    let file = g.S.Shelf.files c.args.shelf.now name in
    rw (p.1, p.2) (load_fault_weaker g.S.Shelf.tells g.S.Shelf.tells (IsTooLong name file) (RefusesQuery name file) (λ which. which ≡ name)
    (λ which. which ≡ name) (g.S.Shelf.read_faults c.args.shelf.now) (g.S.Shelf.read_faults c.load.new.shelf) (g.S.Shelf.read_faults c.args.shelf.now)
    (g.S.Shelf.read_faults c.load.new.shelf) (λ t. t) (λ report t is. too_long_refuses name file report is) (λ which rose same. (rose, same))
    (report_of c.in_err-bytes.field-0.0) c.in_err-bytes.ensures.fault)

pub returns-clause-fault : goal.returns-clause-fault
returns-clause-fault g c =
    let name = c.args.name.now in
    let file = g.S.Shelf.files c.args.shelf.now name in
    let bytes = c.deref.result.now in
    IfErr-weaker c.read_query.result _ _ (λ fault is. load_fault_weaker ⊤ g.S.Shelf.tells (RefusesQuery name bytes) (RefusesQuery name file) (λ _. ⊥)
    (λ which. which ≡ name) 0 0 (g.S.Shelf.read_faults c.args.shelf.now) (g.S.Shelf.read_faults c.load.new.shelf) (λ t. tt)
    (λ report t refuses. rw (c.deref.ensures.value, c.in_ok-bytes.ensures.whole t) at refuses) (λ which rose never. absurd never) (report_of fault) is) (c.read_query.ensures.fault name)

pub returns-clause-given : goal.returns-clause-given
returns-clause-given g c =
    λ t. IfOk-weaker c.read_query.result _ _ (λ query _. rw (c.in_ok-bytes.ensures.whole t) at c.in_ok-bytes.ensures.given) c.read_query.ensures.valid
