-- The lines so far are those of the texts so far.
use Rattle.std.proofs.Common.{◌≡◌, ◌++◌, take, map, flat_map}
use Rattle.tilt_run_state.specs.Setup.{null_line}
use Rattle.tilt_run_state.proofs.setup.put_null_lines.Given as goal

abbrev pub invariant-loop-null : goal.invariant-loop-null
invariant-loop-null l = l.text.items ≡ l.fn.text.items ++ flat_map null_line (map (λ null. null.items) (take l.null-index l.nulls))
