use Rattle.tilt_keyed_run.proofs.Resumings.{run_into, run_of}
use Rattle.tilt_keyed_run.proofs.keyed_run.KeyedRun.resume.Goals as goal

pub returns-in-Ok-clause-is : goal.returns-in-Ok-clause-is
returns-in-Ok-clause-is g c = λ first feed before e.
    let recipe = c.args.recipe.now in
    let state = g.R.KeptRun.state recipe in
    run_into c.resume_state.result _ _ (λ run resumed. run_of g.R.KeyRun.is state recipe run first feed _ before (c.in-Ok.ensures.only _ e) resumed) c.resume_state.ensures.is
