use Rattle.std.proofs.Common.{subst, sym}
use Rattle.tilt_exactly_once.proofs.Moments.{leaves-then}
use Rattle.tilt_exactly_once.proofs.Opening.{err-more, is-at, ok-more, opening-leaves}
use Rattle.tilt_exactly_once.specs.Committed.{Holds}
use Rattle.tilt_exactly_once.specs.Opening.{IsAt}
use Rattle.tilt_exactly_once.proofs.start.open.Goals as goal

pub returns-in-Ok-clause-started : goal.returns-in-Ok-clause-started
returns-in-Ok-clause-started g c told bytes holds =
    let Is = g.M.Machine.commits (g.M.Machine.of c.args.recipe) in
    let mid = c.in-Ok.opened.ledger.folder in
    let at = is-at Is bytes (g.F.Folder.seen c.args.folder) (g.F.Folder.seen mid) c.in-Ok.opened.state.items holds (c.in-Ok.ensures.reopened told) in
    let step = opening-leaves Is bytes g.F.Folder.seen g.F.Folder.moment g.F.Folder.left_since c.args.folder mid holds
    (c.in-Ok.ensures.any_moment told) in
    ok-more c.begin.result _ _
    (λ keeper started. record {
      underway = started.underway;
      holds = started.holds;
      leaves = leaves-then g.F.Folder.moment g.F.Folder.left_since c.args.folder mid keeper.ledger.folder (Holds Is bytes) step started.leaves;
    })
    (c.begin.ensures.started told bytes (subst (IsAt Is bytes (g.F.Folder.seen mid)) (sym c.deref.ensures.value) at))

pub returns-in-Ok-clause-any_moment : goal.returns-in-Ok-clause-any_moment
returns-in-Ok-clause-any_moment g c told bytes holds =
    let Is = g.M.Machine.commits (g.M.Machine.of c.args.recipe) in
    let mid = c.in-Ok.opened.ledger.folder in
    let at = is-at Is bytes (g.F.Folder.seen c.args.folder) (g.F.Folder.seen mid) c.in-Ok.opened.state.items holds (c.in-Ok.ensures.reopened told) in
    let step = opening-leaves Is bytes g.F.Folder.seen g.F.Folder.moment g.F.Folder.left_since c.args.folder mid holds
    (c.in-Ok.ensures.any_moment told) in
    err-more c.begin.result _ _
    (λ e left. leaves-then g.F.Folder.moment g.F.Folder.left_since c.args.folder mid e.1 (Holds Is bytes) step left)
    (c.begin.ensures.any_moment told bytes (subst (IsAt Is bytes (g.F.Folder.seen mid)) (sym c.deref.ensures.value) at))

pub returns-in-Ok-clause-taken : goal.returns-in-Ok-clause-taken
returns-in-Ok-clause-taken g c told bytes holds =
    let Is = g.M.Machine.commits (g.M.Machine.of c.args.recipe) in
    let mid = c.in-Ok.opened.ledger.folder in
    let at = is-at Is bytes (g.F.Folder.seen c.args.folder) (g.F.Folder.seen mid) c.in-Ok.opened.state.items holds (c.in-Ok.ensures.reopened told) in
    c.begin.ensures.taken told bytes (subst (IsAt Is bytes (g.F.Folder.seen mid)) (sym c.deref.ensures.value) at)
