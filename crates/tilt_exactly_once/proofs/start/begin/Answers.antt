use Rattle.std.proofs.Common.{◌≡◌, ◌∙◌, [], subst, sym}
use Rattle.tilt_exactly_once.proofs.Opening.{empty-is}
use Rattle.tilt_exactly_once.specs.Opening.{IsAt}
use Rattle.tilt_exactly_once.proofs.start.begin.Goals as goal

pub returns-then-is_empty-clause-started : goal.returns-then-is_empty-clause-started
returns-then-is_empty-clause-started g c told bytes at =
    let none : c.args.state.now ≡ [] = empty-is c.args.state.now (sym c.is_empty.ensures ∙ c.if-is_empty.true) in
    c.begin_new.ensures.started told bytes (subst (IsAt (g.M.Machine.commits (g.M.Machine.of c.args.recipe)) bytes (g.F.Folder.seen c.args.ledger.folder)) none at)
