use Rattle.std.proofs.Common.{List, ap, refl}
use Rattle.std.proofs.lemmas.Result.{err_from_is_err_and}
use Rattle.tilt_commands.proofs.Doing.{fits_unsaved, none_shown}
use Rattle.tilt_commands.specs.Table.{exec_row}
use Rattle.tilt_load.proofs.FileCommands.{both_read, file_undone, inputs_undone, turn_of_input}
use Rattle.tilt_load.specs.Does.{reading}
use Rattle.tilt_load.specs.FileCommand.{done, own_turn}
use Rattle.tilt_outside.proofs.MoreReads.{reads-then}
use Rattle.tilt_printed.specs.declared.printed.Printed.TheVariants.{Whole}
use Rattle.tilt_printed.specs.declared.whole_text.WholeText.TheVariants.{Snapshots}
use Rattle.tilt_report.specs.Report.{printed, report_of}
use Rattle.tilt_stream.specs.Snap.{Snapshot}
use Rattle.tilt_stream.specs.Text.{text_of}
use Rattle.tilt_cli.specs.Binding.{bindings_of}
use Rattle.tilt_commands.proofs.exec_command.exec.Goals as goal

pub load_code-requires : goal.load_code-requires
load_code-requires g c = c.requires c.args.code.now own_turn

pub returns-in_err-code : goal.returns-in_err-code
returns-in_err-code g c =
    let p = err_from_is_err_and c.from_residual.result c.from_residual.ensures.1 in
    rw (p.1, p.2) (record {
      made = λ t. tt;
      kept = tt;
      fault = λ w. file_undone (exec_row c.args.code.now) c.args.code.now (bindings_of c.args.binds.now)
          (reading g.S.Shelf.tells g.S.Shelf.files g.S.Shelf.read_faults g.S.Shelf.save_faults g.S.Shelf.takes g.S.Shelf.given c.args.shelf.now c.load_code.new.shelf)
          (report_of c.in_err-code.field-0.0) c.in_err-code.ensures.fault;
      read = λ t. tt;
      rest = c.load_code.ensures.rest;
    })

pub load_inputs-requires : goal.load_inputs-requires
load_inputs-requires g c =
    λ file turn.
    c.requires file (turn_of_input (exec_row c.args.code.now) g.S.Shelf.tells (g.S.Shelf.files c.args.shelf.now) c.args.code.now (bindings_of c.args.binds.now)
    c.in_ok-code.code c.in_ok-code.ensures.taken file (rw (c.load_code.ensures.rest.same_files, c.inputs.ensures.names) at turn))

pub returns-in_err-rows : goal.returns-in_err-rows
returns-in_err-rows g c =
    let p = err_from_is_err_and c.from_residual-in_err-rows.result c.from_residual-in_err-rows.ensures.1 in
    rw (p.1, p.2) (record {
      made = λ t. tt;
      kept = tt;
      fault = λ w. inputs_undone (exec_row c.args.code.now) c.args.code.now (bindings_of c.args.binds.now)
          (reading g.S.Shelf.tells g.S.Shelf.files g.S.Shelf.read_faults g.S.Shelf.save_faults g.S.Shelf.takes g.S.Shelf.given c.args.shelf.now c.load_inputs.new.shelf)
          c.in_ok-code.code (g.S.Shelf.read_faults c.load_code.new.shelf) c.in_ok-code.ensures.taken c.load_code.ensures.rest.no_fewer_read_faults (report_of c.in_err-rows.field-0.0)
          (rw (c.load_code.ensures.rest.same_files, c.inputs.ensures.names) at c.in_err-rows.ensures.fault);
      read = λ t. tt;
      rest = reads-then c.load_code.ensures.rest c.load_inputs.ensures.rest;
    })

pub returns : goal.returns
returns g c =
    rw c.unsaved.ensures (record {
      made = λ t w.
          let read = rw (c.load_code.ensures.rest.same_files, c.inputs.ensures.names) at (c.in_ok-rows.ensures.taken t) in
          let out = rw c.in_ok-inputs.ensures at c.in_ok-list.ensures in
          done c.in_ok-code.code c.in_ok-rows.rows.items (c.in_ok-code.ensures.taken t) read (ap (λ (list : List Snapshot). printed (text_of list)) out);
      kept = fits_unsaved ⊥ ⊥ (Whole (Snapshots c.in_ok-list.list)) tt (λ no. no, λ no. no) (none_shown _ refl);
      fault = λ w. tt;
      read = λ t w.
          let first = c.in_ok-code.ensures.given t in
          both_read (exec_row c.args.code.now) c.args.code.now (bindings_of c.args.binds.now)
          (reading g.S.Shelf.tells g.S.Shelf.files g.S.Shelf.read_faults g.S.Shelf.save_faults g.S.Shelf.takes g.S.Shelf.given c.args.shelf.now c.load_inputs.new.shelf)
          c.in_ok-code.code (g.S.Shelf.given c.load_code.new.shelf) (c.in_ok-code.ensures.taken t) first
          (rw (c.load_code.ensures.rest.same_files, c.inputs.ensures.names) at (c.in_ok-rows.ensures.given t));
      rest = reads-then c.load_code.ensures.rest c.load_inputs.ensures.rest;
    })
