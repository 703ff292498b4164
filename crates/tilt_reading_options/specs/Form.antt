-- How the readings of a query's inputs are written, and what they mean, by a choice. The inputs have names, in their order.
use Rattle.std.specs.Prelude.{ℕ, List, Option, None, Some, map}
use Rattle.std.specs.Option.{option_or}
use Rattle.tilt_conventions.specs.declared.options.Options.{Options}
use Rattle.tilt_conventions.specs.declared.options.Ties.{Ties}
use Rattle.tilt_reading_lines.specs.Rules.{LocalValue, RulesValue}
use Rattle.tilt_reading_options.specs.Conventions.{ConventionsValue, convention_name, convention_named}
use Rattle.tilt_reading_options.specs.Parts.{first_missing}
use Rattle.tilt_reading_options.specs.Scales.{input_with, missing_among}
use Rattle.tilt_reading_options.specs.Values.{ChoiceValue, ZoneChoiceValue}
use Rattle.tilt_reading_text.specs.Form.{FormValue}
use Rattle.tilt_zones.specs.Zone.{ZoneParts}

-- the first name of a scale that is none of the inputs' names, or else the first one of an age or an event
abbrev pub missing_input : ChoiceValue → List (List ℕ) → Option (List ℕ)
missing_input choice names =
    option_or (missing_among choice.scales.named names) (first_missing convention_name choice.conventions.named names)

-- how local times are read: by a zone whose table is there
abbrev pub local_for : Option ZoneChoiceValue → Option ZoneParts → Option LocalValue
local_for None table = None
local_for (Some zone) None = None
local_for (Some zone) (Some table) = Some (record { zone = table; fold = zone.fold; name = zone.name })

-- how texts become readings, with this table of the zone
abbrev pub rules_for : ChoiceValue → Option ZoneParts → RulesValue
rules_for choice table = record {
  moments = choice.moments;
  local = local_for choice.zone table;
  clock = choice.clock;
  mark = choice.mark;
  nulls = choice.nulls;
  skips_empty = choice.skips_empty;
}

-- how the lines are written
abbrev pub form_for : ChoiceValue → Option ZoneParts → List (List ℕ) → FormValue
form_for choice table names = record {
  delimiter = choice.delimiter;
  titles = choice.titles;
  rules = rules_for choice table;
  sources = map (input_with choice.scales) names;
}

-- what the readings of the input with a name mean
abbrev pub options_with : ConventionsValue → Ties → List ℕ → Options
options_with conventions ties name = record { convention = convention_named conventions name; ties = ties }

-- what the readings of each input mean
abbrev pub options_for : ChoiceValue → List (List ℕ) → List Options
options_for choice names = map (options_with choice.conventions choice.ties) names
