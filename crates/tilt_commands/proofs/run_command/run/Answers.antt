use Rattle.std.proofs.Common.{[], List, None, refl}
use Rattle.std.proofs.lemmas.Result.{err_from_is_err_and}
use Rattle.std.specs.Prelude.{◌≡◌}
use Rattle.tilt_commands.proofs.Doing.{does_made, does_undone, fits_unsaved, none_shown, turn_any}
use Rattle.tilt_commands.specs.Query.{IsMadeOfQuery}
use Rattle.tilt_report.specs.Report.{printed}
use Rattle.tilt_stream.specs.Text.{text_of}
use Rattle.tilt_load.specs.Does.{reading}
use Rattle.tilt_printed.specs.Answer.{Fits, comes_to}
use Rattle.tilt_watch.specs.Watch.{Watch}
use Rattle.tilt_cli.specs.Binding.{bindings_of}
use Rattle.tilt_commands.proofs.run_command.run.Goals as goal

pub load_run-requires : goal.load_run-requires
load_run-requires g c =
    λ name turn. c.requires.lent name (turn_any c.args.query.now (IsMadeOfQuery (λ list. printed (text_of list)))
    g.S.Shelf.tells (g.S.Shelf.files c.args.shelf.now) c.args.query.now (bindings_of c.args.binds.now) name turn)

pub returns-in_err-loaded : goal.returns-in_err-loaded
returns-in_err-loaded g c =
    let p = err_from_is_err_and c.from_residual.result c.from_residual.ensures.1 in
    rw (p.1, p.2) (does_undone c.args.query.now (λ (w : List Watch). IsMadeOfQuery (λ list. printed (text_of list))) comes_to (Fits (c.args.manner.cuts.now ≡ []) ⊥ ⊥)
    (bindings_of c.args.binds.now)
    (reading g.S.Shelf.tells g.S.Shelf.files g.S.Shelf.read_faults g.S.Shelf.save_faults g.S.Shelf.takes g.S.Shelf.given c.args.shelf.now c.load_run.new.shelf)
    c.in_err-loaded.field-0.0 _ refl c.in_err-loaded.ensures.loads)

pub returns : goal.returns
returns g c =
    rw c.unsaved.ensures (does_made c.args.query.now (λ (w : List Watch). IsMadeOfQuery (λ list. printed (text_of list))) comes_to (Fits (c.args.manner.cuts.now ≡ []) ⊥ ⊥)
    (bindings_of c.args.binds.now)
    (reading g.S.Shelf.tells g.S.Shelf.files g.S.Shelf.read_faults g.S.Shelf.save_faults g.S.Shelf.takes g.S.Shelf.given c.args.shelf.now c.load_run.new.shelf)
    c.in_ok-loaded.loaded (record { printed = c.in_ok-printed.printed; save = None }) c.in_ok-printed.ensures.made
    (fits_unsaved (c.args.manner.cuts.now ≡ []) ⊥ c.in_ok-printed.printed c.in_ok-printed.ensures.fresh c.in_ok-printed.ensures.streamed
    (none_shown _ c.in_ok-printed.ensures.shown)) c.in_ok-loaded.ensures.loads)
