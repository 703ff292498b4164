use Rattle.std.proofs.Common.{◌≡◌, ◌++◌, drop}
use Rattle.tilt_live_keys.proofs.copies.push_names.Given as goal

abbrev pub invariant-loop-name : goal.invariant-loop-name
invariant-loop-name l = l.copies.items ++ drop l.name-index l.names ≡ l.initial.copies.items ++ l.names
