-- The lines so far are those of the places so far.
use Rattle.std.proofs.Common.{◌≡◌, ◌++◌, take, flat_map}
use Rattle.tilt_reading_state.specs.Spelling.{place_line}
use Rattle.tilt_reading_state.proofs.encoder.put_places.Given as goal

abbrev pub invariant-loop-place : goal.invariant-loop-place
invariant-loop-place l = l.text.items ≡ l.fn.text.items ++ flat_map place_line (take l.place-index l.places)
