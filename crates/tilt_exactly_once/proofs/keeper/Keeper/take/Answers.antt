use Rattle.std.proofs.Common.{◌∙◌, ap}
use Rattle.tilt_exactly_once.proofs.Recently.{recent-taken}
use Rattle.tilt_outside.specs.Counts.{added_count}
use Rattle.tilt_exactly_once.proofs.keeper.Keeper.take.Goals as goal

pub returns-clause-recent : goal.returns-clause-recent
returns-clause-recent g c told of bytes held =
    recent-taken (g.M.Machine.commits of) bytes c.args.piece.now c.args.self.now.lines c.saturating_add-self-2.result
    (g.F.Folder.seen c.args.self.now.ledger.folder) (g.F.Folder.seen c.append.new.self.folder) (c.in_ok-append.ensures.appended told).same
    (c.saturating_add-self-2.ensures ∙ ap (added_count c.args.self.now.lines) c.count_lines.ensures) held
