use Rattle.std.proofs.Common.{◌∙◌, ap, arith, sym}
use Rattle.std.proofs.lemmas.Result.{err_from_is_err_and}
use Rattle.tilt_core.specs.Core.{CoreParts}
use Rattle.tilt_live_app.proofs.Living.{names-unbegun, state-unbegun, zone-unbegun}
use Rattle.tilt_live_app.proofs.Watching.{counts-unbegun}
use Rattle.tilt_live_cli.specs.Arguments.{command_value}
use Rattle.tilt_live_app.specs.BeginReport.{begin_report}
use Rattle.tilt_live_app.specs.Begun.{no_memory}
use Rattle.tilt_live_run.specs.declared.run_options.RunOptions.{RunOptions}
use Rattle.tilt_outside.proofs.MoreReads.{reads-then}
use Rattle.tilt_report.specs.Report.{report_of}
use Rattle.tilt_live_app.proofs.job.load_job.Goals as goal

pub run_options-requires : goal.run_options-requires
run_options-requires g c = let few = c.inputs-inputs.ensures.accepted.few in rw c.inputs-inputs.ensures.names (omega (arith, few))

pub returns-in_err-table-clause-fault : goal.returns-in_err-table-clause-fault
returns-in_err-table-clause-fault g c =
    let p = err_from_is_err_and c.from_residual-in_err-table.result c.from_residual-in_err-table.ensures.1 in
    rw (p.1, p.2) (zone-unbegun g.S.Shelf.tells g.S.Shelf.files g.S.Shelf.read_faults g.S.Shelf.save_faults g.S.Shelf.takes
    (command_value c.args.command.now) c.args.shelf.now c.load_query_of.new.shelf c.load_table.new.shelf c.in_ok-loaded.ensures.rest
    (begin_report c.in_err-table.field-0.0) c.in_err-table.ensures.fault)

pub returns-in_err-options-clause-fault : goal.returns-in_err-options-clause-fault
returns-in_err-options-clause-fault g c =
    let p = err_from_is_err_and c.from_residual-in_err-options.result c.from_residual-in_err-options.ensures.1 in
    let loaded = c.in_ok-loaded.loaded in
    let inputs = c.inputs-inputs.ensures.names ∙ ap (λ (k : CoreParts). k.inputs) c.core.ensures.value in
    let fault = rw inputs at c.in_err-options.ensures.fault in
    rw (p.1, p.2) (names-unbegun g.S.Shelf.tells g.S.Shelf.files g.S.Shelf.read_faults g.S.Shelf.save_faults g.S.Shelf.takes
    (command_value c.args.command.now) c.args.shelf.now c.load_table.new.shelf loaded.query loaded.accepted.core loaded.decimals
    c.in_ok-loaded.ensures.taken (begin_report c.in_err-options.field-0.0) fault)

pub returns-in_err-from-clause-fault : goal.returns-in_err-from-clause-fault
returns-in_err-from-clause-fault g c =
    let p = err_from_is_err_and c.from_residual-in_err-from.result c.from_residual-in_err-from.ensures.1 in
    let loaded = c.in_ok-loaded.loaded in
    let inputs = c.inputs-inputs.ensures.names ∙ ap (λ (k : CoreParts). k.inputs) c.core.ensures.value in
    let form = ap (λ (o : RunOptions). o.form) (rw inputs at c.in_ok-options.ensures.asked) in
    let fault = rw form at c.in_err-from.ensures.fault in
    rw (p.1, p.2) (state-unbegun g.S.Shelf.tells g.S.Shelf.files g.S.Shelf.read_faults g.S.Shelf.save_faults g.S.Shelf.takes
    (command_value c.args.command.now) c.args.shelf.now c.load_table.new.shelf c.load_from.new.shelf fault.0 loaded.query loaded.accepted.core loaded.decimals
    c.in_ok-table.table (reads-then c.in_ok-loaded.ensures.rest c.in_ok-table.ensures.rest) fault.1 c.in_ok-loaded.ensures.taken
    (rw c.in_ok-loaded.ensures.rest.same_files at c.in_ok-table.ensures.zone) (report_of c.in_err-from.field-0.0) fault.2)

pub returns-in_err-opening-clause-fault : goal.returns-in_err-opening-clause-fault
returns-in_err-opening-clause-fault g c =
    let p = err_from_is_err_and c.from_residual-in_err-opening.result c.from_residual-in_err-opening.ensures.1 in
    rw (p.1, p.2, c.in_err-opening.ensures.fault) no_memory

pub returns-clause-asked : goal.returns-clause-asked
returns-clause-asked g c =
    let inputs = c.inputs-inputs.ensures.names ∙ ap (λ (k : CoreParts). k.inputs) c.core.ensures.value in
    rw inputs at c.in_ok-options.ensures.asked

pub returns-clause-named : goal.returns-clause-named
returns-clause-named g c =
    let inputs = c.inputs-inputs.ensures.names ∙ ap (λ (k : CoreParts). k.inputs) c.core.ensures.value in
    rw inputs at c.in_ok-options.ensures.named

pub returns-clause-goes_on : goal.returns-clause-goes_on
returns-clause-goes_on g c = rw (c.in_ok-table.ensures.rest.same_files ∙ c.in_ok-loaded.ensures.rest.same_files) at c.in_ok-from.ensures.goes_on

pub returns-clause-zone : goal.returns-clause-zone
returns-clause-zone g c = rw c.in_ok-loaded.ensures.rest.same_files at c.in_ok-table.ensures.zone

pub returns-clause-rest : goal.returns-clause-rest
returns-clause-rest g c = reads-then (reads-then c.in_ok-loaded.ensures.rest c.in_ok-table.ensures.rest) c.in_ok-from.ensures.rest

pub returns-in_err-from-clause-rest : goal.returns-in_err-from-clause-rest
returns-in_err-from-clause-rest g c = reads-then (reads-then c.in_ok-loaded.ensures.rest c.in_ok-table.ensures.rest) c.in_err-from.ensures.rest

pub returns-clause-fit : goal.returns-clause-fit
returns-clause-fit g c = rw (sym c.in_ok-loaded.ensures.accepted.1) at c.in_ok-from.ensures.fit

pub returns-in_err-counting-clause-fault : goal.returns-in_err-counting-clause-fault
returns-in_err-counting-clause-fault g c =
    let p = err_from_is_err_and c.from_residual-in_err-counting.result c.from_residual-in_err-counting.ensures.1 in
    let loaded = c.in_ok-loaded.loaded in
    rw (p.1, p.2) (counts-unbegun g.S.Shelf.tells g.S.Shelf.files g.S.Shelf.read_faults g.S.Shelf.save_faults g.S.Shelf.takes
    (command_value c.args.command.now) c.args.shelf.now c.load_table.new.shelf loaded.query loaded.accepted.core loaded.decimals
    c.in_ok-loaded.ensures.taken (begin_report c.in_err-counting.field-0.0) c.in_err-counting.ensures.fault)

pub returns-in_err-table-clause-rest : goal.returns-in_err-table-clause-rest
returns-in_err-table-clause-rest g c = reads-then c.in_ok-loaded.ensures.rest c.in_err-table.ensures.rest

pub returns-in_err-options-clause-rest : goal.returns-in_err-options-clause-rest
returns-in_err-options-clause-rest g c = reads-then c.in_ok-loaded.ensures.rest c.in_ok-table.ensures.rest

pub returns-in_err-counting-clause-rest : goal.returns-in_err-counting-clause-rest
returns-in_err-counting-clause-rest g c = reads-then c.in_ok-loaded.ensures.rest c.in_ok-table.ensures.rest

pub returns-in_err-opening-clause-rest : goal.returns-in_err-opening-clause-rest
returns-in_err-opening-clause-rest g c = reads-then c.in_ok-loaded.ensures.rest c.in_ok-table.ensures.rest
