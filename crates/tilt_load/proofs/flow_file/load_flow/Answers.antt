use Rattle.std.proofs.Common.{◌≡◌}
use Rattle.std.specs.Prelude.{⊤}
use Rattle.std.proofs.lemmas.Result.{err_from_is_err_and}
use Rattle.tilt_load.proofs.Loads.{load_fault_weaker}
use Rattle.tilt_load.proofs.OneFlow.{flow_refuses, flow_too_long, has_valid}
use Rattle.tilt_load.specs.FlowFile.{HasFlow, RefusesFlow}
use Rattle.tilt_load.specs.Load.{IsTooLong}
use Rattle.tilt_report.specs.Report.{report_of, report_of_flow}
use Rattle.tilt_load.proofs.flow_file.load_flow.Goals as goal

pub returns-in_err-bytes-clause-fault : goal.returns-in_err-bytes-clause-fault
returns-in_err-bytes-clause-fault g c =
    let p = err_from_is_err_and c.from_residual.result c.from_residual.ensures.1 in
    let tells = g.S.Shelf.tells in
    let name = c.args.name.now in
    let file = g.S.Shelf.files c.args.shelf.now name in
    rw (p.1, p.2) (load_fault_weaker tells tells (IsTooLong name file) (RefusesFlow name file) (λ which. which ≡ name) (λ which. which ≡ name) _ _ _ _ (λ t. t)
    (λ why t is. flow_too_long name file why is) (λ which rose same. (rose, same)) (report_of c.in_err-bytes.field-0.0) c.in_err-bytes.ensures.fault)

pub returns-in_err-flow-clause-fault : goal.returns-in_err-flow-clause-fault
returns-in_err-flow-clause-fault g c =
    let p = err_from_is_err_and c.from_residual-in_err-flow.result c.from_residual-in_err-flow.ensures.1 in
    let tells = g.S.Shelf.tells in
    let name = c.args.name.now in
    let file = g.S.Shelf.files c.args.shelf.now name in
    let bytes = c.deref.result.now in
    let fault = c.in_err-flow.field-0.0 in
    let refuses = flow_refuses name bytes fault (rw c.deref.ensures.value c.in_ok-bytes.ensures.short) c.in_err-flow.ensures.faulty in
    rw (p.1, p.2) (load_fault_weaker ⊤ tells (RefusesFlow name bytes) (RefusesFlow name file) (λ _. ⊥) (λ which. which ≡ name) 0 0 _ _ (λ t. tt)
    (λ why t is. rw (c.deref.ensures.value, c.in_ok-bytes.ensures.whole t) at is) (λ which rose never. absurd never) (report_of_flow fault) refuses)

pub accept_query-requires : goal.accept_query-requires
accept_query-requires g c = has_valid c.deref.result.now c.in_ok-flow.flow c.in_ok-flow.ensures.flow

pub returns-in_err-accepted-clause-fault : goal.returns-in_err-accepted-clause-fault
returns-in_err-accepted-clause-fault g c =
    let p = err_from_is_err_and c.from_residual-in_err-accepted.result c.from_residual-in_err-accepted.ensures.1 in
    let tells = g.S.Shelf.tells in
    let name = c.args.name.now in
    let file = g.S.Shelf.files c.args.shelf.now name in
    let bytes = c.deref.result.now in
    let has : HasFlow bytes c.in_ok-flow.flow = record { short = rw c.deref.ensures.value c.in_ok-bytes.ensures.short; read = c.in_ok-flow.ensures.flow } in
    rw (p.1, p.2) (load_fault_weaker ⊤ tells (RefusesFlow name bytes) (RefusesFlow name file) (λ _. ⊥) (λ which. which ≡ name) 0 0 _ _ (λ t. tt)
    (λ why t is. rw (c.deref.ensures.value, c.in_ok-bytes.ensures.whole t) at is) (λ which rose never. absurd never) (report_of c.in_err-accepted.field-0.0)
    (c.in_err-accepted.ensures.fault name bytes has))

pub returns-clause-taken : goal.returns-clause-taken
returns-clause-taken g c =
    λ told.
    let whole = c.in_ok-bytes.ensures.whole told in
    record {
      has_flow = record { short = rw whole at c.in_ok-bytes.ensures.short; read = rw (c.deref.ensures.value, whole) at c.in_ok-flow.ensures.flow };
      margins = c.in_ok-accepted.accepted.margins;
      reach = c.in_ok-accepted.ensures.margins;
    }

pub returns-clause-valid : goal.returns-clause-valid
returns-clause-valid g c = has_valid c.deref.result.now c.in_ok-flow.flow c.in_ok-flow.ensures.flow
