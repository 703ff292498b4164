use Rattle.std.proofs.Common.{◌≡◌, ◌++◌, flat_map, take}
use Rattle.tilt_keyed_state.specs.Spelling.{key_text}
use Rattle.tilt_keyed_state.proofs.encoder.put_keys.Given as goal

abbrev pub invariant-loop-one : goal.invariant-loop-one
invariant-loop-one l = l.text.items ≡ l.fn.text.items ++ flat_map key_text (take l.one-index l.keys)
