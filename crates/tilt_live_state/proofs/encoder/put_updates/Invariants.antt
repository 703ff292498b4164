-- The lines so far are those of the updates so far.
use Rattle.std.proofs.Common.{◌≡◌, ◌++◌, take, flat_map}
use Rattle.tilt_live_state.specs.Spelling.{update_line}
use Rattle.tilt_live_state.proofs.encoder.put_updates.Given as goal

abbrev pub invariant-loop-update : goal.invariant-loop-update
invariant-loop-update l = l.text.items ≡ l.fn.text.items ++ flat_map update_line (take l.update-index l.updates)
