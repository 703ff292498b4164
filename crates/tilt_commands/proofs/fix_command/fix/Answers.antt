use Rattle.std.proofs.Common.{refl}
use Rattle.std.proofs.lemmas.Result.{err_from_is_err_and}
use Rattle.tilt_commands.proofs.Doing.{fits_unsaved, none_shown}
use Rattle.tilt_commands.proofs.Fixing.{all_read, correction_undone, edits_undone, fix_turn, fixed, inputs_few, loads_undone}
use Rattle.tilt_commands.specs.Fixed.{with_edits}
use Rattle.tilt_commands.specs.LastFile.{last_turn}
use Rattle.tilt_core.proofs.Inputs.{inputs-distinct}
use Rattle.tilt_load.specs.Does.{reading}
use Rattle.tilt_outside.proofs.MoreReads.{reads-then}
use Rattle.tilt_printed.specs.declared.printed.Printed.TheVariants.{Whole}
use Rattle.tilt_report.specs.Report.{report_of}
use Rattle.tilt_cli.specs.Binding.{bindings_of}
use Rattle.tilt_commands.proofs.fix_command.fix.Goals as goal

pub load_run-requires : goal.load_run-requires
load_run-requires g c =
    λ name turn. c.requires name (fix_turn c.args.query.now c.args.edits.now (bindings_of c.args.binds.now)
    (reading g.S.Shelf.tells g.S.Shelf.files g.S.Shelf.read_faults g.S.Shelf.save_faults g.S.Shelf.takes g.S.Shelf.given c.args.shelf.now c.args.shelf.now)
    name turn)

pub returns-in_err-loaded : goal.returns-in_err-loaded
returns-in_err-loaded g c =
    let p = err_from_is_err_and c.from_residual.result c.from_residual.ensures.1 in
    let fault = c.in_err-loaded.field-0.0 in
    rw (p.1, p.2) (record {
      made = λ t. tt;
      kept = tt;
      fault = loads_undone c.args.query.now c.args.edits.now (bindings_of c.args.binds.now)
          (reading g.S.Shelf.tells g.S.Shelf.files g.S.Shelf.read_faults g.S.Shelf.save_faults g.S.Shelf.takes g.S.Shelf.given c.args.shelf.now c.load_run.new.shelf)
          (report_of fault) c.in_err-loaded.ensures.loads.fault;
      read = λ t. tt;
      rest = c.in_err-loaded.ensures.loads.rest;
    })

pub load_edits-requires-clause-lent : goal.load_edits-requires-clause-lent
load_edits-requires-clause-lent g c =
    c.requires c.args.edits.now (last_turn (λ t. record {
      says = c.in_ok-loaded.loaded.accepted.core;
      taken = c.in_ok-loaded.ensures.loads.taken t;
      rows = c.in_ok-loaded.loaded.rows.items;
      read = c.in_ok-loaded.ensures.loads.inputs t;
    }))

pub load_edits-requires-clause-few : goal.load_edits-requires-clause-few
load_edits-requires-clause-few g c = rw c.inputs.ensures.names (inputs_few c.core.result.now c.inputs.ensures.accepted)

pub load_edits-requires-clause-distinct : goal.load_edits-requires-clause-distinct
load_edits-requires-clause-distinct g c = rw c.inputs.ensures.names (inputs-distinct c.core.result.now c.inputs.ensures.accepted)

pub returns-in_err-edits : goal.returns-in_err-edits
returns-in_err-edits g c =
    let p = err_from_is_err_and c.from_residual-in_err-edits.result c.from_residual-in_err-edits.ensures.1 in
    let fault = c.in_err-edits.field-0.0 in
    let loads = c.in_ok-loaded.ensures.loads in
    rw (p.1, p.2) (record {
      made = λ t. tt;
      kept = tt;
      fault = edits_undone c.args.query.now c.args.edits.now (bindings_of c.args.binds.now)
          (reading g.S.Shelf.tells g.S.Shelf.files g.S.Shelf.read_faults g.S.Shelf.save_faults g.S.Shelf.takes g.S.Shelf.given c.args.shelf.now c.load_edits.new.shelf)
          c.in_ok-loaded.loaded.accepted.core c.in_ok-loaded.loaded.rows.items loads.taken loads.inputs (g.S.Shelf.read_faults c.load_run.new.shelf)
          loads.rest.no_fewer_read_faults (report_of fault)
          (rw (loads.rest.same_files, c.inputs.ensures.names, c.core.ensures.value) at c.in_err-edits.ensures.fault);
      read = λ t. tt;
      rest = reads-then loads.rest c.load_edits.ensures.rest;
    })

pub correct-requires-clause-many : goal.correct-requires-clause-many
correct-requires-clause-many g c = c.in_ok-loaded.ensures.loads.many

pub correct-requires-clause-each : goal.correct-requires-clause-each
correct-requires-clause-each g c =
    rw c.deref.ensures.value (rw (c.inputs.ensures.names, c.core.ensures.value) at c.in_ok-edits.ensures.each)

pub returns-in_err-text : goal.returns-in_err-text
returns-in_err-text g c =
    let p = err_from_is_err_and c.from_residual-in_err-text.result c.from_residual-in_err-text.ensures.1 in
    let fault = c.in_err-text.field-0.0 in
    let loads = c.in_ok-loaded.ensures.loads in
    rw (p.1, p.2) (record {
      made = λ t. tt;
      kept = tt;
      fault = correction_undone c.args.query.now c.args.edits.now (bindings_of c.args.binds.now)
          (reading g.S.Shelf.tells g.S.Shelf.files g.S.Shelf.read_faults g.S.Shelf.save_faults g.S.Shelf.takes g.S.Shelf.given c.args.shelf.now c.load_edits.new.shelf)
          c.in_ok-loaded.loaded.accepted.core c.in_ok-loaded.loaded.rows.items loads.taken loads.inputs c.in_ok-edits.edits.items
          c.in_ok-loaded.loaded.accepted.margins
          (λ t. rw (loads.rest.same_files, c.inputs.ensures.names, c.core.ensures.value) at (c.in_ok-edits.ensures.taken t))
          c.core.ensures.kept.near (report_of fault) (rw c.deref.ensures.value at c.in_err-text.ensures.fault);
      read = λ t. tt;
      rest = reads-then loads.rest c.load_edits.ensures.rest;
    })

pub returns : goal.returns
returns g c =
    let loads = c.in_ok-loaded.ensures.loads in
    let shelf = reading g.S.Shelf.tells g.S.Shelf.files g.S.Shelf.read_faults g.S.Shelf.save_faults g.S.Shelf.takes g.S.Shelf.given c.args.shelf.now c.load_edits.new.shelf in
    rw c.unsaved.ensures (record {
      made = λ t w.
          fixed c.args.query.now c.args.edits.now (bindings_of c.args.binds.now) shelf c.in_ok-loaded.loaded.accepted.core c.in_ok-loaded.loaded.rows.items
          loads.taken loads.inputs t _ (with_edits c.in_ok-edits.edits.items c.in_ok-loaded.loaded.accepted.margins
          (rw (loads.rest.same_files, c.inputs.ensures.names, c.core.ensures.value) at (c.in_ok-edits.ensures.taken t)) c.core.ensures.kept.near
          (rw c.deref.ensures.value at c.in_ok-text.ensures.made));
      kept = fits_unsaved ⊥ ⊥ (Whole c.in_ok-text.text) tt (λ no. no, λ no. no) (none_shown _ refl);
      fault = tt;
      read = λ t.
          all_read c.args.query.now c.args.edits.now (bindings_of c.args.binds.now) shelf (g.S.Shelf.given c.load_run.new.shelf)
          (reading g.S.Shelf.tells g.S.Shelf.files g.S.Shelf.read_faults g.S.Shelf.save_faults g.S.Shelf.takes g.S.Shelf.given c.args.shelf.now c.load_run.new.shelf)
          refl refl refl (loads.read t) (rw loads.rest.same_files at (c.in_ok-edits.ensures.given t));
      rest = reads-then loads.rest c.load_edits.ensures.rest;
    })
