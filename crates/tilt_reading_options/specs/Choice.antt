-- What the texts of the options say, or the first option that is bad or missing (our own rule).
use Rattle.std.specs.Prelude.{ℕ, ◌==◌, ℤ, pos, if◌then◌else◌, List, [], Option, Some, None, option_map, Result, Ok, Err}
use Rattle.std.specs.Option.{ok_or}
use Rattle.tilt_conventions.specs.declared.options.Ties.{Ties}
use Rattle.tilt_conventions.specs.declared.options.Ties.TheVariants as ties
use Rattle.tilt_input_scales.specs.Scales.{ScalesValue}
use Rattle.tilt_reading_lines.specs.declared.rules.Moments.{Moments}
use Rattle.tilt_reading_lines.specs.declared.rules.Moments.TheVariants as moments
use Rattle.tilt_reading_options.specs.Conventions.{ConventionsValue}
use Rattle.tilt_reading_options.specs.Duration.{duration_said}
use Rattle.tilt_reading_options.specs.Holding.{ages_said, events_said}
use Rattle.tilt_reading_options.specs.Scales.{scales_read}
use Rattle.tilt_reading_options.specs.Texts.{TextsValue, parts_of}
use Rattle.tilt_reading_lines.specs.Titles.TitlesValue.{Named, OfInputs}
use Rattle.tilt_reading_lines.specs.Titles.{TitlesValue}
use Rattle.tilt_reading_options.specs.Values.{ChoiceValue, ZoneChoiceValue}
use Rattle.tilt_reading_options.specs.Words.{closed_named, delimiter_named, mark_named, ties_named, unit_named}
use Rattle.tilt_reading_options.specs.ZoneChoice.{zone_said}
use Rattle.tilt_reading_options.specs.declared.parts.Marks.{Marks}
use Rattle.tilt_reading_options.specs.declared.parts.TickRules.{TickRules}
use Rattle.tilt_reading_options.specs.declared.parts.Times.{Times}
use Rattle.tilt_reading_options.specs.declared.reading_option.ReadingOption.{ReadingOption}
use Rattle.tilt_reading_options.specs.declared.reading_option.ReadingOption.TheVariants as option
use Rattle.tilt_readings.specs.Date.{date_read}
use Rattle.tilt_readings.specs.declared.fault.DateFault.{DateFault}
use Rattle.tilt_readings.specs.declared.tick.Closed.{Closed}
use Rattle.tilt_readings.specs.declared.tick.Closed.TheVariants as closed

infixl 10 ◌>>=◌
-- the next option, unless one was bad
abbrev pub ◌>>=◌ : {A B : Type 0} → Result A ReadingOption → (A → Result B ReadingOption) → Result B ReadingOption
(Ok x) >>= next = next x
(Err bad) >>= next = Err bad

-- the columns: names and values have both a column, or none
abbrev pub titles_said : List ℕ → Option (List ℕ) → Option (List ℕ) → Result TitlesValue ReadingOption
titles_said time None None = Ok (OfInputs time)
titles_said time None (Some value) = Err option.Name
titles_said time (Some name) None = Err option.Value
titles_said time (Some name) (Some value) = Ok (Named time name value)

-- the length of a tick, which has no default
abbrev pub tick_said : Option (List ℕ) → Result ℕ ReadingOption
tick_said None = Err option.Tick
tick_said (Some text) = ok_or (duration_said text) option.Tick

-- the moment at which the tick 1 starts
abbrev pub date_or_bad : Result ℤ DateFault → Result ℤ ReadingOption
date_or_bad (Ok moment) = Ok moment
date_or_bad (Err fault) = Err option.Origin

abbrev pub origin_said : Option (List ℕ) → Result ℤ ReadingOption
origin_said None = Ok (pos 0)
origin_said (Some text) = date_or_bad (date_read text)

-- how moments are written
abbrev pub moments_said : Option (List ℕ) → Result Moments ReadingOption
moments_said None = Ok moments.Dates
moments_said (Some text) = ok_or (option_map moments.Numbers (unit_named text)) option.Unit

-- the scales of the inputs
abbrev pub scales_said : Option (List ℕ) → Result ScalesValue ReadingOption
scales_said None = Ok (record { named = []; others = 1 })
scales_said (Some text) = ok_or (scales_read text) option.Scale

-- which end of a tick belongs to it
abbrev pub closed_said : Option (List ℕ) → Result Closed ReadingOption
closed_said None = Ok closed.Left
closed_said (Some text) = ok_or (closed_named text) option.Closed

-- which of several readings in one tick counts
abbrev pub ties_said : Option (List ℕ) → Result Ties ReadingOption
ties_said None = Ok ties.Refuse
ties_said (Some text) = ok_or (ties_named text) option.Ties

-- the texts that mean that there is no value, with the empty one
abbrev pub nulls_said : Option (List ℕ) → List (List ℕ)
nulls_said None = []
nulls_said (Some text) = parts_of text

-- the byte between fields
abbrev pub delimiter_said : Option (List ℕ) → Result ℕ ReadingOption
delimiter_said None = Ok 44
delimiter_said (Some text) = ok_or (delimiter_named text) option.Delimiter

-- the mark before a fraction, which isn't the byte between fields
abbrev pub mark_beside : ℕ → ℕ → Result ℕ ReadingOption
mark_beside delimiter mark = if mark == delimiter then Err option.Decimal else Ok mark

abbrev pub mark_said : ℕ → Option (List ℕ) → Result ℕ ReadingOption
mark_said delimiter None = mark_beside delimiter 46
mark_said delimiter (Some text) = ok_or (mark_named text) option.Decimal >>= mark_beside delimiter

-- what the options of times say, apart from the columns
abbrev pub times_said : TextsValue → Result Times ReadingOption
times_said texts = do
  tick ← tick_said texts.tick
  origin ← origin_said texts.origin
  moments ← moments_said texts.unit
  Ok (record { tick = tick; origin = origin; moments = moments })

-- how long the readings of each input hold, with ticks of a length
abbrev pub conventions_said : ℕ → TextsValue → Result ConventionsValue ReadingOption
conventions_said tick texts = do
  held ← ages_said texts.event tick texts.max_age
  events_said texts.event held texts.events

-- what the options of a tick say
abbrev pub tick_rules_said : TextsValue → Result TickRules ReadingOption
tick_rules_said texts = do
  closed ← closed_said texts.closed
  ties ← ties_said texts.ties
  Ok (record { closed = closed; ties = ties })

-- what the options of the bytes of a line say
abbrev pub marks_said : TextsValue → Result Marks ReadingOption
marks_said texts = do
  delimiter ← delimiter_said texts.delimiter
  mark ← mark_said delimiter texts.decimal
  Ok (record { delimiter = delimiter; mark = mark })

-- the choice that they make together
abbrev pub chosen : TextsValue → TitlesValue → Times → ScalesValue → ConventionsValue → TickRules → Marks → Option ZoneChoiceValue
    → ChoiceValue
chosen texts titles times scales conventions rules marks zone = record {
  titles = titles;
  moments = times.moments;
  clock = record { origin = times.origin; length = times.tick; closed = rules.closed };
  scales = scales;
  conventions = conventions;
  ties = rules.ties;
  nulls = nulls_said texts.null;
  skips_empty = texts.skips_empty;
  delimiter = marks.delimiter;
  mark = marks.mark;
  zone = zone;
}

-- what the texts say
abbrev pub choice_said : TextsValue → Result ChoiceValue ReadingOption
choice_said texts = do
  titles ← titles_said texts.time texts.name texts.value
  times ← times_said texts
  scales ← scales_said texts.scale
  conventions ← conventions_said times.tick texts
  rules ← tick_rules_said texts
  marks ← marks_said texts
  zone ← zone_said texts.unit texts.zone texts.fold
  Ok (chosen texts titles times scales conventions rules marks zone)
