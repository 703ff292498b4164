use Rattle.std.proofs.Common.{[], ◌∙◌, ap, codes, refl, Err}
use Rattle.std.specs.Prelude.{⊤}
use Rattle.std.proofs.lemmas.Result.{err_from_is_err_and}
use Rattle.tilt_live_keys.proofs.Feeding.{goes_by_bytes}
use Rattle.tilt_live_keys.specs.Runs.{IsKeyedLiveOf, keyed_meaning}
use Rattle.tilt_serving.proofs.Feeding.{going-begun, served-none}
use Rattle.tilt_serving.specs.Served.{first_byte}
use Rattle.tilt_serving.specs.Stops.{is_loss}
use Rattle.tilt_live_app.proofs.by_keys.serve_by_keys.Goals as goal

pub returns-in_err-run-clause-served : goal.returns-in_err-run-clause-served
returns-in_err-run-clause-served g c =
    let recipe = c.args.recipe in
    let p = err_from_is_err_and c.from_residual.result c.from_residual.ensures.1 in
    rw (p.1 ∙ ap Err p.2) (served-none (keyed_meaning recipe) (first_byte (codes "key,start,end,value\n")) _ _ _ _ _ _ c.args.err.now c.in_err-run.field-0.0 _ refl
    (ap is_loss c.in_err-run.ensures.error) (goes_by_bytes recipe) c.in_err-run.ensures.adds)

pub serve-requires-clause-sound : goal.serve-requires-clause-sound
serve-requires-clause-sound g c = (c.args.recipe, [], c.in_ok-run.ensures.is)

pub returns-clause-served : goal.returns-clause-served
returns-clause-served g c =
    let recipe = c.args.recipe in
    let start = first_byte (codes "key,start,end,value\n") in
    (c.serve.ensures.served recipe start _ _ (goes_by_bytes recipe)
    (going-begun (keyed_meaning recipe) (IsKeyedLiveOf _ recipe) start _ _ _ _ _ _ c.args.err.now _ (goes_by_bytes recipe) c.in_ok-run.ensures.is c.in_ok-run.ensures.adds)).served
