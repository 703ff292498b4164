use Rattle.std.proofs.Common.{◌≤◌, ◌∙◌, ap, List, length}
use Rattle.std.specs.List.{remove}
use Rattle.tilt_fix.proofs.Ends.{removed-inserted}
use Rattle.tilt_stream.specs.Snap.{Snapshot}
use Rattle.tilt_fix.proofs.put.put.Goals as goal

pub returns-then-is_err-clause-rows_kept : goal.returns-then-is_err-clause-rows_kept
returns-then-is_err-clause-rows_kept c =
    let within : c.in-Insert.at ≤ length c.args.rows.now = rw c.in-Insert.is at c.requires.within in
    c.remove.ensures.rest ∙ ap (λ (l : List Snapshot). remove l c.in-Insert.at) c.in_ok-insert-in-Insert.ensures.ok
    ∙ removed-inserted c.args.rows.now c.in-Insert.at c.in-Insert.row within
