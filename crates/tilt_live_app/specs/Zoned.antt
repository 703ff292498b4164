-- The table by which a command reads local times (our own rule).
use Rattle.std.specs.Prelude.{◌≡◌, ◌⊎◌, ⊤, ℕ, List, Option, None, Some, option_map}
use Rattle.tilt_live_app.specs.BeginReport.{BeginReport, in_units, no_input, no_zone, shared}
use Rattle.tilt_outside.specs.Faults.{Rose}
use Rattle.tilt_reading_options.specs.Values.{ChoiceValue, ZoneChoiceValue}
use Rattle.tilt_report.specs.Report.{out_of_memory}
use Rattle.tilt_zone_files.specs.ZoneFile.{HasNoTable, HasTable, zone_path}
use Rattle.tilt_zones.specs.Zone.{ZoneParts}

-- the name of the zone whose clocks show local times, if the options of readings name one
abbrev pub zone_named : Option ChoiceValue → Option (List ℕ)
zone_named None = None
zone_named (Some choice) = option_map (λ (zone : ZoneChoiceValue). zone.name) choice.zone

-- the table is that of the zone's file, if a zone is named
abbrev pub HasZone : Type 0 → (List ℕ → List ℕ) → Option (List ℕ) → Option ZoneParts → Type 0
HasZone tells files None None = ⊤
HasZone tells files None (Some table) = ⊥
HasZone tells files (Some name) None = ⊥
HasZone tells files (Some name) (Some table) = tells → HasTable (files (zone_path name)) table

-- why there is none: the file of the zone that is named has no table, or a read of it failed. Or there is no memory
module _ (tells : Type 0) (files : List ℕ → List ℕ) (before after : ℕ) (zone : Option (List ℕ)) where
  abbrev pub HasNoZone : BeginReport → Type 0
  HasNoZone (no_zone name) = (zone ≡ Some name) × ((tells → HasNoTable (files (zone_path name))) ⊎ Rose before after)
  HasNoZone (no_input name) = ⊥
  HasNoZone (in_units fault) = ⊥
  HasNoZone (shared report) = report ≡ out_of_memory
