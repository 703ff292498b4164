use Rattle.std.proofs.lemmas.Result.{err_from_is_err_and}
use Rattle.tilt_commands.proofs.Corrections.{next_refused, or_else}
use Rattle.tilt_commands.proofs.corrected.apply_all.Goals as goal

pub returns-in_err-span-clause-refused : goal.returns-in_err-span-clause-refused
returns-in_err-span-clause-refused c =
    let p = err_from_is_err_and c.from_residual-in_err-span.result c.from_residual-in_err-span.ensures.1 in
    let refused = next_refused c.args.live.now.query c.args.live.now.rows c.args.edits.now c.loop-edit.live c.loop-edit.known.items
    c.edit-item.result c.loop-edit.edit-index c.in_err-span.field-0.0 c.loop-edit.invariant c.loop-edit-test.true c.edit-item.is in
    rw (p.1, p.2) (or_else refused c.in_err-span.ensures.refused)
