-- The options of local times: the name of their zone, and which moment one means that clocks skip or show twice (our own rule).
use Rattle.std.specs.Prelude.{ℕ, ◌==◌, Bool, false, ◌&&◌, ◌||◌, not, if◌then◌else◌, List, [], ◌∷◌, Option, Some, None, option_map, Result, Ok, Err}
use Rattle.std.specs.Char.{is_ascii_alphabetic, is_ascii_digit}
use Rattle.std.specs.List.{list_all}
use Rattle.std.specs.Option.{ok_or}
use Rattle.tilt_reading_options.specs.Values.{ZoneChoiceValue}
use Rattle.tilt_reading_options.specs.Words.{fold_named}
use Rattle.tilt_reading_options.specs.declared.reading_option.ReadingOption.{ReadingOption}
use Rattle.tilt_reading_options.specs.declared.reading_option.ReadingOption.TheVariants as option
use Rattle.tilt_zones.specs.declared.moments.Fold.{Fold}

-- a letter, a digit, or one of _ + - /
abbrev pub is_zone_byte : ℕ → Bool
is_zone_byte byte = is_ascii_alphabetic byte || is_ascii_digit byte || byte == 95 || byte == 43 || byte == 45 || byte == 47

-- whether a text can be the name of a zone: it has such bytes alone, and the first one is no slash. So it names a file below a folder
abbrev pub is_zone_name : List ℕ → Bool
is_zone_name [] = false
is_zone_name (byte ∷ bytes) = not (byte == 47) && list_all is_zone_byte (byte ∷ bytes)

-- which moment is meant; without a text such a local time is bad
abbrev pub fold_said : Option (List ℕ) → Result (Option Fold) ReadingOption
fold_said None = Ok None
fold_said (Some text) = ok_or (option_map Some (fold_named text)) option.Fold

-- a zone with a name, by what its fold is
abbrev pub zone_with : List ℕ → Result (Option Fold) ReadingOption → Result (Option ZoneChoiceValue) ReadingOption
zone_with name (Ok fold) = Ok (Some (record { name = name; fold = fold }))
zone_with name (Err bad) = Err bad

-- the zone, by the texts of a unit, a zone and a fold. Numbers since 1970 are in no zone, and a fold is that of a zone
abbrev pub zone_said : Option (List ℕ) → Option (List ℕ) → Option (List ℕ) → Result (Option ZoneChoiceValue) ReadingOption
zone_said unit None None = Ok None
zone_said unit None (Some fold) = Err option.Fold
zone_said (Some unit) (Some name) fold = Err option.Zone
zone_said None (Some name) fold = if is_zone_name name then zone_with name (fold_said fold) else Err option.Zone
