use Rattle.tilt_exactly_once.proofs.Running.{all-runs, none-yet}
use Rattle.tilt_exactly_once.specs.Framed.{IsFramed}
use Rattle.tilt_exactly_once.specs.Runs.{no_files}
use Rattle.tilt_exactly_once.proofs.law.runs_hold_a_front.Goals as goal

pub returns : goal.returns
returns g c of feed left runs = all-runs (IsFramed (g.M.Machine.commits of)) feed no_files left runs (none-yet (IsFramed (g.M.Machine.commits of)) feed)
