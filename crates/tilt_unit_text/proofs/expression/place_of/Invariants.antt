use Rattle.std.proofs.Common.{◌≡◌, ◌+◌, drop}
use Rattle.tilt_types.specs.Checked.{place_of}
use Rattle.tilt_unit_text.proofs.expression.place_of.Given as goal

abbrev pub invariant-loop-place : goal.invariant-loop-place
invariant-loop-place l = l.place + place_of (drop l.place l.names) l.name ≡ place_of l.names l.name
