use Rattle.std.proofs.Common.{◌∙◌, ap}
use Rattle.tilt_keyed_line.specs.Feeds.{empty_keyed_feed, own_lines}
use Rattle.tilt_keyed_line.specs.Outputs.{lines_in}
use Rattle.tilt_keyed_run.proofs.Apart.{output-apart}
use Rattle.tilt_live_keys.proofs.Alone.{alone-output, output-heard}
use Rattle.tilt_live_keys.proofs.Whole.{whole-added, whole-first}
use Rattle.tilt_live_keys.specs.Output.{passed_lines}
use Rattle.tilt_live_keys.specs.Recipe.{key_added, key_first}
use Rattle.tilt_live_keys.proofs.law.keys_are_alone.Goals as goal

pub returns-clause-apart : goal.returns-clause-apart
returns-clause-apart c = λ recipe key lines some.
    ap (λ text. own_lines key (lines_in text)) (output-heard recipe 0 empty_keyed_feed lines)
    ∙ output-apart (key_first recipe) (key_added recipe) (whole-first recipe) (whole-added recipe) key (passed_lines recipe 0 empty_keyed_feed lines) some

pub returns-clause-alone : goal.returns-clause-alone
returns-clause-alone c = λ recipe lines. alone-output recipe lines
