-- The lines so far are those of the series so far.
use Rattle.std.proofs.Common.{◌≡◌, ◌++◌, take, flat_map}
use Rattle.tilt_checkpoint.specs.Spelling.{series_lines}
use Rattle.tilt_checkpoint.specs.declared.version.Version.TheVariants.{Second}
use Rattle.tilt_checkpoint.proofs.encoder.put_each.Given as goal

abbrev pub invariant-loop-kept : goal.invariant-loop-kept
invariant-loop-kept l = l.text.items ≡ l.fn.text.items ++ flat_map (series_lines Second) (take l.kept-index l.series)
