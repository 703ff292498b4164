use Rattle.tilt_keyed_run.proofs.Apart.{output-apart}
use Rattle.tilt_keyed_run.proofs.law.keys_run_apart.Goals as goal

pub returns : goal.returns
returns c = λ first added first_whole added_whole key lines some. output-apart first added first_whole added_whole key lines some
