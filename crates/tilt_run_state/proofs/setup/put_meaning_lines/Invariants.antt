-- The lines so far are those of the meanings so far.
use Rattle.std.proofs.Common.{◌≡◌, ◌++◌, take, flat_map}
use Rattle.tilt_run_state.specs.Setup.{meaning_lines}
use Rattle.tilt_run_state.proofs.setup.put_meaning_lines.Given as goal

abbrev pub invariant-loop-meaning : goal.invariant-loop-meaning
invariant-loop-meaning l = l.text.items ≡ l.fn.text.items ++ flat_map meaning_lines (take l.meaning-index l.options)
