use Rattle.tilt_exactly_once.proofs.Recently.{recent-committed}
use Rattle.tilt_exactly_once.proofs.keeper.Keeper.commit_if_due.Goals as goal

pub returns-clause-recent : goal.returns-clause-recent
returns-clause-recent g c told of bytes underway held =
    recent-committed (g.M.Machine.commits of) bytes c.commit.new.self.lines (g.F.Folder.seen c.commit.new.self.ledger.folder) c.commit.result
    (c.commit.ensures.committed told of bytes underway)
