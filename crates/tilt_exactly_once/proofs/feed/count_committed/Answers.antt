use Rattle.tilt_exactly_once.proofs.feed.count_committed.Goals as goal

pub returns-in-Ok-clause-count : goal.returns-in-Ok-clause-count
returns-in-Ok-clause-count g c told bytes holds =
    c.taken.ensures (g.M.Machine.of c.args.recipe) bytes (c.in-Ok.ensures.started told bytes holds).underway.machine_is

pub returns-in-Ok-clause-any_moment : goal.returns-in-Ok-clause-any_moment
returns-in-Ok-clause-any_moment g c told bytes holds = (c.in-Ok.ensures.started told bytes holds).leaves
