use Rattle.std.proofs.Common.{◌≡◌, ap, ◌∙◌, sym}
use Rattle.std.specs.Prelude.{option_map}
use Rattle.std.proofs.lemmas.Result.{err_from_is_err_and}
use Rattle.tilt_commands.specs.Divided.{RefusesParts, no_query}
use Rattle.tilt_commands.proofs.Divided.{told_fault, told_none}
use Rattle.tilt_load.proofs.Loads.{load_fault_weaker}
use Rattle.tilt_load.specs.QueryFile.{RefusesQuery}
use Rattle.tilt_report.specs.Report.{reason_of, report_of}
use Rattle.tilt_commands.proofs.parts_command.load_divided.Goals as goal

pub returns-in_err-loaded-clause-fault : goal.returns-in_err-loaded-clause-fault
returns-in_err-loaded-clause-fault g c =
    let p = err_from_is_err_and c.from_residual.result c.from_residual.ensures.1 in
    let name = c.args.name.now in
    let file = g.S.Shelf.files c.args.shelf.now name in
    rw (p.1, p.2) (load_fault_weaker g.S.Shelf.tells g.S.Shelf.tells (RefusesQuery name file) (RefusesParts name c.args.division.cuts.now c.args.division.order.now file)
    (λ which. which ≡ name) (λ which. which ≡ name) _ _ _ _ (λ t. t) (λ why t is. no_query is) (λ which rose same. (rose, same))
    (report_of c.in_err-loaded.field-0.0) c.in_err-loaded.ensures.fault)

pub returns-in-None-clause-taken : goal.returns-in-None-clause-taken
returns-in-None-clause-taken g c = λ told. record {
  taken = c.in_ok-loaded.ensures.taken told;
  fits = told_none c.args.division.cuts.now c.args.division.order.now c.in_ok-loaded.loaded.accepted.core c.domain.result c.domain.ensures.value (ap (option_map (λ r. reason_of r))
      (sym c.in-None.is) ∙ c.division_fault.ensures);
}

pub returns-in-None-clause-fits : goal.returns-in-None-clause-fits
returns-in-None-clause-fits g c = told_none c.args.division.cuts.now c.args.division.order.now c.in_ok-loaded.loaded.accepted.core c.domain.result c.domain.ensures.value (ap (option_map
    (λ r. reason_of r)) (sym c.in-None.is) ∙ c.division_fault.ensures)

pub returns-clause-fault : goal.returns-clause-fault
returns-clause-fault g c =
    λ told.
    let name = c.args.name.now in
    let fault = ap (option_map (λ r. reason_of r)) (sym c.in-Some.is) ∙ c.division_fault.ensures in
    told_fault name c.args.division.cuts.now c.args.division.order.now (g.S.Shelf.files c.args.shelf.now name) c.in_ok-loaded.loaded.accepted.core c.domain.result
    (reason_of c.in-Some.refusal) c.domain.ensures.value fault (c.in_ok-loaded.ensures.taken told)
