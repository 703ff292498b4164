use Rattle.tilt_live_run.proofs.Newly.{output-plain, output-printed}
use Rattle.tilt_live_run.proofs.law.output_is_printed.Goals as goal

pub returns-clause-styled : goal.returns-clause-styled
returns-clause-styled c = λ options core lines valid quiet. output-printed options core valid quiet lines

pub returns-clause-plain : goal.returns-clause-plain
returns-clause-plain c = λ options core lines valid quiet plain. output-plain options core valid quiet plain lines
