use Rattle.std.proofs.Common.{refl}
use Rattle.std.proofs.lemmas.Result.{err_from_is_err_and}
use Rattle.tilt_commands.proofs.Doing.{fits_unsaved, none_shown}
use Rattle.tilt_commands.specs.Table.{parts_row}
use Rattle.tilt_load.proofs.FileCommands.{both_read, file_undone, inputs_undone, not_done, turn_of_input}
use Rattle.tilt_load.specs.Does.{reading}
use Rattle.tilt_load.specs.FileCommand.{done, own_turn}
use Rattle.tilt_outside.proofs.MoreReads.{reads-then}
use Rattle.tilt_printed.specs.declared.printed.Printed.TheVariants.{Whole}
use Rattle.tilt_report.specs.Report.{report_of}
use Rattle.tilt_cli.specs.Binding.{bindings_of}
use Rattle.tilt_commands.proofs.parts_command.parts.Goals as goal

pub load_divided-requires : goal.load_divided-requires
load_divided-requires g c = c.requires.lent c.args.query.now own_turn

pub returns-in_err-loaded : goal.returns-in_err-loaded
returns-in_err-loaded g c =
    let p = err_from_is_err_and c.from_residual.result c.from_residual.ensures.1 in
    let fault = c.in_err-loaded.field-0.0 in
    rw (p.1, p.2) (not_done fault (λ w. file_undone (parts_row c.args.query.now c.args.division.cuts.now c.args.division.order.now) c.args.query.now
    (bindings_of c.args.binds.now) (reading g.S.Shelf.tells g.S.Shelf.files g.S.Shelf.read_faults g.S.Shelf.save_faults g.S.Shelf.takes g.S.Shelf.given c.args.shelf.now c.load_divided.new.shelf)
    (report_of fault) c.in_err-loaded.ensures.fault) c.load_divided.ensures.rest)

pub load_inputs-requires : goal.load_inputs-requires
load_inputs-requires g c =
    λ file turn.
    c.requires.lent file (turn_of_input (parts_row c.args.query.now c.args.division.cuts.now c.args.division.order.now) g.S.Shelf.tells
    (g.S.Shelf.files c.args.shelf.now) c.args.query.now (bindings_of c.args.binds.now)
    c.in_ok-loaded.loaded.accepted.core c.in_ok-loaded.ensures.taken file (rw (c.load_divided.ensures.rest.same_files, c.inputs.ensures.names, c.core.ensures.value) at turn))

pub returns-in_err-rows : goal.returns-in_err-rows
returns-in_err-rows g c =
    let p = err_from_is_err_and c.from_residual-in_err-rows.result c.from_residual-in_err-rows.ensures.1 in
    let fault = c.in_err-rows.field-0.0 in
    rw (p.1, p.2) (not_done fault (λ w. inputs_undone (parts_row c.args.query.now c.args.division.cuts.now c.args.division.order.now) c.args.query.now
    (bindings_of c.args.binds.now) (reading g.S.Shelf.tells g.S.Shelf.files g.S.Shelf.read_faults g.S.Shelf.save_faults g.S.Shelf.takes g.S.Shelf.given c.args.shelf.now c.load_inputs.new.shelf)
    c.in_ok-loaded.loaded.accepted.core (g.S.Shelf.read_faults c.load_divided.new.shelf) c.in_ok-loaded.ensures.taken c.load_divided.ensures.rest.no_fewer_read_faults
    (report_of fault) (rw (c.load_divided.ensures.rest.same_files, c.inputs.ensures.names, c.core.ensures.value) at c.in_err-rows.ensures.fault))
    (reads-then c.load_divided.ensures.rest c.load_inputs.ensures.rest))

pub run_parts-requires-clause-many : goal.run_parts-requires-clause-many
run_parts-requires-clause-many g c =
    rw (c.deref.ensures.value, c.in_ok-inputs.ensures) (rw (c.inputs.ensures.names, c.core.ensures.value) at c.in_ok-rows.ensures.many)

pub returns : goal.returns
returns g c =
    rw c.unsaved.ensures (record {
      made = λ t w.
          let read = rw (c.load_divided.ensures.rest.same_files, c.inputs.ensures.names, c.core.ensures.value) at (c.in_ok-rows.ensures.taken t) in
          done c.in_ok-loaded.loaded.accepted.core c.in_ok-rows.rows.items (c.in_ok-loaded.ensures.taken t) read
          (rw (c.deref.ensures.value, c.in_ok-inputs.ensures) at c.in_ok-text.ensures);
      kept = fits_unsaved ⊥ ⊥ (Whole c.in_ok-text.text) tt (λ no. no, λ no. no) (none_shown _ refl);
      fault = λ w. tt;
      read = λ t w.
          let first = c.in_ok-loaded.ensures.given t in
          both_read (parts_row c.args.query.now c.args.division.cuts.now c.args.division.order.now) c.args.query.now (bindings_of c.args.binds.now)
          (reading g.S.Shelf.tells g.S.Shelf.files g.S.Shelf.read_faults g.S.Shelf.save_faults g.S.Shelf.takes g.S.Shelf.given c.args.shelf.now c.load_inputs.new.shelf)
          c.in_ok-loaded.loaded.accepted.core (g.S.Shelf.given c.load_divided.new.shelf) (c.in_ok-loaded.ensures.taken t) first
          (rw (c.load_divided.ensures.rest.same_files, c.inputs.ensures.names, c.core.ensures.value) at (c.in_ok-rows.ensures.given t));
      rest = reads-then c.load_divided.ensures.rest c.load_inputs.ensures.rest;
    })
