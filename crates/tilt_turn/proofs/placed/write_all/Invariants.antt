use Rattle.std.proofs.Common.{◌≡◌, drop, length}
use Rattle.tilt_turn.specs.Picked.{written}
use Rattle.tilt_turn.proofs.placed.write_all.Given as goal

abbrev pub invariant-loop-place : goal.invariant-loop-place
invariant-loop-place l = record {
  made : written l.cell (drop l.place-index l.places) l.registers ≡ written l.cell l.places l.fn.registers;
  count : length l.registers ≡ length l.fn.registers;
}
