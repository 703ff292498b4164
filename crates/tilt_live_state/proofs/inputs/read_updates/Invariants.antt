-- What is left is read as all updates are.
use Rattle.std.proofs.Common.{◌≡◌, ◌-◌, []}
use Rattle.tilt_checkpoint.specs.Reading.{times}
use Rattle.tilt_live_state.specs.Reading.{with_update}
use Rattle.tilt_live_state.proofs.inputs.read_updates.Given as goal

abbrev pub invariant-loop : goal.invariant-loop
invariant-loop l = times with_update (l.count - l.counter) (l.updates.items, l.reader) ≡ times with_update l.count ([], l.fn.reader)
