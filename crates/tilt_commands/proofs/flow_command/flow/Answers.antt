use Rattle.std.proofs.Common.{List, ℕ, ap, refl}
use Rattle.std.proofs.lemmas.Result.{err_from_is_err_and}
use Rattle.std.specs.Prelude.{⊤}
use Rattle.tilt_commands.proofs.Doing.{fits_unsaved, none_shown}
use Rattle.tilt_commands.proofs.Flowed.{flow_core_inputs, flow_gives}
use Rattle.tilt_commands.specs.Table.{flow_row}
use Rattle.tilt_load.proofs.FileCommands.{both_read, file_undone, inputs_undone, not_done, turn_of_input}
use Rattle.tilt_load.specs.Does.{reading}
use Rattle.tilt_load.specs.FileCommand.{done, own_turn}
use Rattle.tilt_outside.proofs.MoreReads.{reads-then}
use Rattle.tilt_printed.specs.declared.printed.Printed.TheVariants.{Run}
use Rattle.tilt_report.specs.Report.{printed, report_of}
use Rattle.tilt_cli.specs.Binding.{bindings_of}
use Rattle.tilt_commands.proofs.flow_command.flow.Goals as goal

pub load_flow-requires : goal.load_flow-requires
load_flow-requires g c = c.requires c.args.file.now own_turn

pub returns-in_err-loaded : goal.returns-in_err-loaded
returns-in_err-loaded g c =
    let p = err_from_is_err_and c.from_residual.result c.from_residual.ensures.1 in
    let fault = c.in_err-loaded.field-0.0 in
    rw (p.1, p.2) (not_done fault (λ w. file_undone (flow_row c.args.file.now) c.args.file.now (bindings_of c.args.binds.now)
    (reading g.S.Shelf.tells g.S.Shelf.files g.S.Shelf.read_faults g.S.Shelf.save_faults g.S.Shelf.takes g.S.Shelf.given c.args.shelf.now c.load_flow.new.shelf)
    (report_of fault) c.in_err-loaded.ensures.fault) c.load_flow.ensures.rest)

pub load_inputs-requires : goal.load_inputs-requires
load_inputs-requires g c =
    λ file turn.
    let inputs = flow_core_inputs c.in_ok-loaded.loaded.flow c.in_ok-loaded.loaded.accepted.core c.in_ok-loaded.ensures.valid c.in_ok-loaded.ensures.core in
    c.requires file (turn_of_input (flow_row c.args.file.now) g.S.Shelf.tells (g.S.Shelf.files c.args.shelf.now) c.args.file.now (bindings_of c.args.binds.now)
    c.in_ok-loaded.loaded.flow c.in_ok-loaded.ensures.taken file
    (rw (c.load_flow.ensures.rest.same_files, c.inputs.ensures.names, c.core.ensures.value, inputs) at turn))

pub returns-in_err-rows : goal.returns-in_err-rows
returns-in_err-rows g c =
    let p = err_from_is_err_and c.from_residual-in_err-rows.result c.from_residual-in_err-rows.ensures.1 in
    let fault = c.in_err-rows.field-0.0 in
    let inputs = flow_core_inputs c.in_ok-loaded.loaded.flow c.in_ok-loaded.loaded.accepted.core c.in_ok-loaded.ensures.valid c.in_ok-loaded.ensures.core in
    rw (p.1, p.2) (not_done fault (λ w. inputs_undone (flow_row c.args.file.now) c.args.file.now (bindings_of c.args.binds.now)
    (reading g.S.Shelf.tells g.S.Shelf.files g.S.Shelf.read_faults g.S.Shelf.save_faults g.S.Shelf.takes g.S.Shelf.given c.args.shelf.now c.load_inputs.new.shelf)
    c.in_ok-loaded.loaded.flow (g.S.Shelf.read_faults c.load_flow.new.shelf) c.in_ok-loaded.ensures.taken c.load_flow.ensures.rest.no_fewer_read_faults
    (report_of fault) (rw (c.load_flow.ensures.rest.same_files, c.inputs.ensures.names, c.core.ensures.value, inputs) at c.in_err-rows.ensures.fault))
    (reads-then c.load_flow.ensures.rest c.load_inputs.ensures.rest))

pub query_pipe-requires : goal.query_pipe-requires
query_pipe-requires g c = rw (c.inputs.ensures.names, c.core.ensures.value) at c.in_ok-rows.ensures.many

pub returns : goal.returns
returns g c =
    let flow = c.in_ok-loaded.loaded.flow in
    let core = c.in_ok-loaded.loaded.accepted.core in
    let inputs = flow_core_inputs flow core c.in_ok-loaded.ensures.valid c.in_ok-loaded.ensures.core in
    rw c.unsaved.ensures (record {
      made = λ t w.
          let read = rw (c.load_flow.ensures.rest.same_files, c.inputs.ensures.names, c.core.ensures.value, inputs) at (c.in_ok-rows.ensures.taken t) in
          done flow c.in_ok-rows.rows.items (c.in_ok-loaded.ensures.taken t) read
          (ap (λ (text : List ℕ). printed text) (flow_gives flow core c.in_ok-loaded.ensures.valid c.in_ok-loaded.ensures.core
          (g.S.Shelf.files c.args.shelf.now) (bindings_of c.args.binds.now) c.in_ok-rows.rows.items read _ c.in_ok-pipe.ensures.means));
      kept = fits_unsaved ⊤ ⊥ (Run c.in_ok-pipe.pipe) c.in_ok-pipe.ensures.fresh (λ all. all, λ all. all) (none_shown _ refl);
      fault = λ w. tt;
      read = λ t w.
          let first = c.in_ok-loaded.ensures.given t in
          both_read (flow_row c.args.file.now) c.args.file.now (bindings_of c.args.binds.now)
          (reading g.S.Shelf.tells g.S.Shelf.files g.S.Shelf.read_faults g.S.Shelf.save_faults g.S.Shelf.takes g.S.Shelf.given c.args.shelf.now c.load_inputs.new.shelf)
          flow (g.S.Shelf.given c.load_flow.new.shelf) (c.in_ok-loaded.ensures.taken t) first
          (rw (c.load_flow.ensures.rest.same_files, c.inputs.ensures.names, c.core.ensures.value, inputs) at (c.in_ok-rows.ensures.given t));
      rest = reads-then c.load_flow.ensures.rest c.load_inputs.ensures.rest;
    })
