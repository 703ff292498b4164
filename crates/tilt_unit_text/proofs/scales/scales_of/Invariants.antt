use Rattle.std.proofs.Common.{◌≡◌, take}
use Rattle.std.specs.List.{AllByRecursion}
use Rattle.tilt_unit_text.specs.Units.{scales_for}
use Rattle.tilt_units.specs.Scale.{IsScale}
use Rattle.tilt_unit_text.proofs.scales.scales_of.Given as goal

abbrev pub invariant-loop-at : goal.invariant-loop-at
invariant-loop-at l = record {
  parts : l.parts.items ≡ scales_for l.scales (take l.at l.names);
  small : AllByRecursion IsScale l.parts.items;
}
