use Rattle.std.proofs.Common.{◌∙◌, ◌||◌, ◌&&◌, ap}
use Rattle.tilt_live_run.specs.Runs.{is_unfinished}
use Rattle.tilt_live_folder.proofs.machine.LiveMachineMachine.end.Goals as goal

pub returns-in-Err-clause-stops : goal.returns-in-Err-clause-stops
returns-in-Err-clause-stops g c = λ of bytes is same.
    ap (λ b. b || (of.options.strict && is_unfinished bytes)) is.no_stop ∙ (c.in-Err.ensures.stops of.accepted of.options bytes is.is).1
