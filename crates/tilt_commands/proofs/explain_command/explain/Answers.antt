use Rattle.std.proofs.Common.{List, None, ap, refl}
use Rattle.std.proofs.lemmas.Result.{err_from_is_err_and}
use Rattle.tilt_commands.proofs.Doing.{fits_unsaved, lone_made, lone_undone, none_shown}
use Rattle.tilt_commands.specs.Table.{IsExplained}
use Rattle.tilt_load.specs.Does.{reading}
use Rattle.tilt_load.specs.FileCommand.{own_turn}
use Rattle.tilt_printed.specs.Answer.{Fits, comes_to}
use Rattle.tilt_printed.specs.declared.printed.Printed.TheVariants.{Whole}
use Rattle.tilt_printed.specs.declared.whole_text.WholeText.TheVariants.{Text}
use Rattle.tilt_report.specs.Report.{printed}
use Rattle.tilt_watch.specs.Watch.{Watch}
use Rattle.tilt_commands.proofs.explain_command.explain.Goals as goal

pub load_query-requires : goal.load_query-requires
load_query-requires g c = c.requires c.args.query.now own_turn

pub returns-in_err-loaded : goal.returns-in_err-loaded
returns-in_err-loaded g c =
    let p = err_from_is_err_and c.from_residual.result c.from_residual.ensures.1 in
    rw (p.1, p.2) (lone_undone c.args.query.now (λ (w : List Watch). IsExplained) comes_to (Fits ⊥ ⊥ ⊥)
    (reading g.S.Shelf.tells g.S.Shelf.files g.S.Shelf.read_faults g.S.Shelf.save_faults g.S.Shelf.takes g.S.Shelf.given c.args.shelf.now c.load_query.new.shelf)
    c.in_err-loaded.field-0.0 _ refl c.in_err-loaded.ensures.fault c.load_query.ensures.rest)

pub returns : goal.returns
returns g c =
    rw c.unsaved.ensures (lone_made c.args.query.now (λ (w : List Watch). IsExplained) comes_to (Fits ⊥ ⊥ ⊥)
    (reading g.S.Shelf.tells g.S.Shelf.files g.S.Shelf.read_faults g.S.Shelf.save_faults g.S.Shelf.takes g.S.Shelf.given c.args.shelf.now c.load_query.new.shelf)
    c.in_ok-loaded.loaded.accepted.core (record { printed = Whole (Text c.in_ok-lines.lines); save = None }) c.in_ok-loaded.ensures.taken
    c.in_ok-loaded.ensures.given c.load_query.ensures.rest
    (λ w. (c.in_ok-loaded.loaded.accepted.margins, c.core.ensures.kept.near, ap printed (rw (c.core.ensures.value, c.margins.ensures.value) at c.in_ok-lines.ensures.text)))
    (fits_unsaved ⊥ ⊥ (Whole (Text c.in_ok-lines.lines)) tt (λ no. no, λ no. no) (none_shown _ refl)))
