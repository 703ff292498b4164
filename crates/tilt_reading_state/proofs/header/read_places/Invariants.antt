-- What is left is read as all places are.
use Rattle.std.proofs.Common.{◌≡◌, ◌-◌, []}
use Rattle.tilt_checkpoint.specs.Reading.{times}
use Rattle.tilt_live_state.specs.Reading.{count_field}
use Rattle.tilt_reading_state.specs.Reading.{with_one}
use Rattle.tilt_reading_state.proofs.header.read_places.Given as goal

abbrev pub invariant-loop : goal.invariant-loop
invariant-loop l =
    times (with_one (count_field 10)) (l.count - l.counter) (l.places.items, l.reader)
    ≡ times (with_one (count_field 10)) l.count ([], l.fn.reader)
