-- The lines so far are those of the inputs so far.
use Rattle.std.proofs.Common.{◌≡◌, ◌++◌, take, flat_map}
use Rattle.tilt_run_state.specs.Setup.{source_lines}
use Rattle.tilt_run_state.proofs.setup.put_source_lines.Given as goal

abbrev pub invariant-loop-source : goal.invariant-loop-source
invariant-loop-source l = l.text.items ≡ l.fn.text.items ++ flat_map source_lines (take l.source-index l.sources)
