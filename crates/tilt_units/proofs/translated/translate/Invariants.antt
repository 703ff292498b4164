use Rattle.std.proofs.Common.{◌≡◌, ◌≤◌, [], drop, length, map}
use Rattle.tilt_units.specs.Translation.{input_quantities, more_definitions, query_of, unit_definition}
use Rattle.tilt_units.proofs.translated.translate.Given as goal

-- the definitions so far, with those that are left, are all of them
abbrev pub invariant-loop-def : goal.invariant-loop-def
invariant-loop-def l = record {
  whole : more_definitions (query_of l.query) (map unit_definition (drop l.def-index l.defs))
      ≡ more_definitions (record { defs = []; quantities = input_quantities l.scales }) (map unit_definition l.defs);
  count : length l.query.defs.items ≡ l.def-index;
  few : length l.defs ≤ 256;
}
