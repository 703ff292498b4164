use Rattle.tilt_live_keys.proofs.keyed_lines.KeyedLines.pass.Goals as goal

pub take-requires : goal.take-requires
take-requires c = let are = c.requires.3 in (c.requires.2, rw are.recipe_is are.runs_are)
