use Rattle.std.proofs.lemmas.Result.{err_from_is_err_and}
use Rattle.tilt_commands.specs.Loaded.{refusing_row}
use Rattle.tilt_load.proofs.FileCommands.{both_read, file_undone, inputs_undone, turn_of_input}
use Rattle.tilt_load.specs.Does.{reading}
use Rattle.tilt_load.specs.FileCommand.{own_turn}
use Rattle.tilt_outside.proofs.MoreReads.{reads-then}
use Rattle.tilt_report.specs.Report.{report_of}
use Rattle.tilt_cli.specs.Binding.{bindings_of}
use Rattle.tilt_commands.proofs.loaded.load_run.Goals as goal

pub load_query-requires : goal.load_query-requires
load_query-requires g c = c.requires c.args.query.now own_turn

pub returns-in_err-loaded-clause-loads : goal.returns-in_err-loaded-clause-loads
returns-in_err-loaded-clause-loads g c =
    let p = err_from_is_err_and c.from_residual.result c.from_residual.ensures.1 in
    rw (p.1, p.2) (record {
      taken = λ t. tt;
      inputs = λ t. tt;
      many = tt;
      valid = tt;
      accepted = tt;
      fault = file_undone (refusing_row c.args.query.now) c.args.query.now (bindings_of c.args.binds.now) (reading g.S.Shelf.tells g.S.Shelf.files g.S.Shelf.read_faults g.S.Shelf.save_faults
          g.S.Shelf.takes g.S.Shelf.given c.args.shelf.now c.load_query.new.shelf) (report_of c.in_err-loaded.field-0.0) c.in_err-loaded.ensures.fault;
      read = λ t. tt;
      rest = c.load_query.ensures.rest;
    })

pub load_inputs-requires : goal.load_inputs-requires
load_inputs-requires g c =
    λ file turn.
    c.requires file (turn_of_input (refusing_row c.args.query.now) g.S.Shelf.tells (g.S.Shelf.files c.args.shelf.now) c.args.query.now (bindings_of c.args.binds.now)
    c.in_ok-loaded.loaded.accepted.core c.in_ok-loaded.ensures.taken file (rw (c.load_query.ensures.rest.same_files, c.inputs.ensures.names, c.core.ensures.value) at turn))

pub returns-in_err-rows-clause-loads : goal.returns-in_err-rows-clause-loads
returns-in_err-rows-clause-loads g c =
    let p = err_from_is_err_and c.from_residual-in_err-rows.result c.from_residual-in_err-rows.ensures.1 in
    rw (p.1, p.2) (record {
      taken = λ t. tt;
      inputs = λ t. tt;
      many = tt;
      valid = tt;
      accepted = tt;
      fault = inputs_undone (refusing_row c.args.query.now) c.args.query.now (bindings_of c.args.binds.now) (reading g.S.Shelf.tells g.S.Shelf.files g.S.Shelf.read_faults g.S.Shelf.save_faults
          g.S.Shelf.takes g.S.Shelf.given c.args.shelf.now c.load_inputs.new.shelf) c.in_ok-loaded.loaded.accepted.core (g.S.Shelf.read_faults c.load_query.new.shelf) c.in_ok-loaded.ensures.taken
          c.load_query.ensures.rest.no_fewer_read_faults (report_of c.in_err-rows.field-0.0)
          (rw (c.load_query.ensures.rest.same_files, c.inputs.ensures.names, c.core.ensures.value) at c.in_err-rows.ensures.fault);
      read = λ t. tt;
      rest = reads-then c.load_query.ensures.rest c.load_inputs.ensures.rest;
    })

pub returns-clause-loads : goal.returns-clause-loads
returns-clause-loads g c = record {
  taken = c.in_ok-loaded.ensures.taken;
  inputs = λ t. rw (c.load_query.ensures.rest.same_files, c.inputs.ensures.names, c.core.ensures.value) at (c.in_ok-rows.ensures.taken t);
  many = rw (c.inputs.ensures.names, c.core.ensures.value) at c.in_ok-rows.ensures.many;
  valid = c.in_ok-loaded.ensures.valid;
  accepted = c.in_ok-loaded.ensures.accepted;
  fault = tt;
  read = λ t.
      let first = c.in_ok-loaded.ensures.given t in
      both_read (refusing_row c.args.query.now) c.args.query.now (bindings_of c.args.binds.now) (reading g.S.Shelf.tells g.S.Shelf.files g.S.Shelf.read_faults g.S.Shelf.save_faults
      g.S.Shelf.takes g.S.Shelf.given c.args.shelf.now c.load_inputs.new.shelf) c.in_ok-loaded.loaded.accepted.core (g.S.Shelf.given c.load_query.new.shelf) (c.in_ok-loaded.ensures.taken t) first
      (rw (c.load_query.ensures.rest.same_files, c.inputs.ensures.names, c.core.ensures.value) at (c.in_ok-rows.ensures.given t));
  rest = reads-then c.load_query.ensures.rest c.load_inputs.ensures.rest;
}
