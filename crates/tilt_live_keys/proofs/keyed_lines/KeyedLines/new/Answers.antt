use Rattle.std.proofs.Common.{refl}
use Rattle.tilt_live_keys.proofs.keyed_lines.KeyedLines.new.Goals as goal

pub returns : goal.returns
returns c = record { recipe_is = refl; runs_are = c.new-runs.ensures.is c.args.recipe; most_is = c.new-runs.ensures.max; number_is = refl }
