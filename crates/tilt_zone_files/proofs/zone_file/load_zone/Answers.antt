use Rattle.std.proofs.Common.{◌∙◌, List, ℕ, Err, ap, subst, sym}
use Rattle.std.proofs.lemmas.Result.{err_from_is_err_and}
use Rattle.tilt_zone_files.proofs.Faults.{same_fault}
use Rattle.tilt_zone_files.specs.ZoneFile.{HasNoTable}
use Rattle.tilt_zone_files.proofs.zone_file.load_zone.Goals as goal

pub returns-in_err-bytes-clause-no_table : goal.returns-in_err-bytes-clause-no_table
returns-in_err-bytes-clause-no_table g c = λ t e.
    let p = err_from_is_err_and c.from_residual-in_err-bytes.result c.from_residual-in_err-bytes.ensures.1 in
    let same = same_fault (sym (p.1 ∙ ap Err p.2) ∙ e) in
    let path = c.deref.ensures ∙ c.in_ok-path.ensures in
    subst (λ (path : List ℕ). HasNoTable (g.S.Shelf.files c.args.shelf.now path)) path (c.in_err-bytes.ensures.no_table t (ap Err same))

pub returns-clause-no_table : goal.returns-clause-no_table
returns-clause-no_table g c = λ t e.
    let path = c.deref.ensures ∙ c.in_ok-path.ensures in
    let whole = c.deref-2.ensures.value ∙ c.in_ok-bytes.ensures.whole t in
    subst (λ (path : List ℕ). HasNoTable (g.S.Shelf.files c.args.shelf.now path)) path
    (subst (λ (bytes : List ℕ). HasNoTable bytes) whole (c.table_of.ensures.no_table e))
