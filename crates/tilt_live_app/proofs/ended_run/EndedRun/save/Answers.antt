use Rattle.std.proofs.Common.{refl, rules}
use Rattle.tilt_live_app.proofs.ended_run.EndedRun.save.Goals as goal

pub returns-clause-kept : goal.returns-clause-kept
returns-clause-kept g c = (refl, (c.in-Ok.text.items, c.in-Ok.ensures, search rules))
