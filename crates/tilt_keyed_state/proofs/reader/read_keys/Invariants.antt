use Rattle.std.proofs.Common.{◌≡◌, ◌++◌, flat_map, length}
use Rattle.tilt_keyed_state.specs.Spelling.{key_text}
use Rattle.tilt_keyed_state.proofs.reader.read_keys.Given as goal

abbrev pub invariant-loop-one : goal.invariant-loop-one
invariant-loop-one l = l.fn.bytes ≡ flat_map key_text l.keys.items ++ l.rest

abbrev pub decreases-loop-one : goal.decreases-loop-one
decreases-loop-one l = length l.rest
