-- The options of the program, and which of them can be given together (our own rule).
use Rattle.std.specs.Prelude.{◌||◌, ◌&&◌, not, if◌then◌else◌, nat_le, ℕ, Bool, true, false, List, [], ◌∷◌, Option, None, Some, codes}
use Rattle.std.specs.List.{list_any}
use Rattle.tilt_cli.specs.Options.{SettingValue, is_set, set_to, ticks_of}
use Rattle.tilt_cli.specs.Tables.{OptionEntry}
use Rattle.tilt_cli.specs.declared.option_table.Shape.TheVariants.{Flag, Text, Ticks}

-- all options
unfoldable pub live_options : List OptionEntry
live_options =
    record { word = codes "--begun"; shape = Flag }
    ∷ record { word = codes "--strict"; shape = Flag }
    ∷ record { word = codes "--plain"; shape = Flag }
    ∷ record { word = codes "--lateness"; shape = Ticks }
    ∷ record { word = codes "--idle"; shape = Ticks }
    ∷ record { word = codes "--ahead"; shape = Ticks }
    ∷ record { word = codes "--keys"; shape = Flag }
    ∷ record { word = codes "--max-keys"; shape = Ticks }
    ∷ record { word = codes "--resume"; shape = Text }
    ∷ record { word = codes "--save"; shape = Text }
    ∷ record { word = codes "--folder"; shape = Text }
    ∷ record { word = codes "--every"; shape = Ticks }
    ∷ record { word = codes "--from"; shape = Ticks }
    ∷ record { word = codes "--position"; shape = Flag }
    ∷ record { word = codes "--time"; shape = Text }
    ∷ record { word = codes "--name"; shape = Text }
    ∷ record { word = codes "--value"; shape = Text }
    ∷ record { word = codes "--tick"; shape = Text }
    ∷ record { word = codes "--origin"; shape = Text }
    ∷ record { word = codes "--unit"; shape = Text }
    ∷ record { word = codes "--zone"; shape = Text }
    ∷ record { word = codes "--fold"; shape = Text }
    ∷ record { word = codes "--scale"; shape = Text }
    ∷ record { word = codes "--event"; shape = Flag }
    ∷ record { word = codes "--events"; shape = Text }
    ∷ record { word = codes "--max-age"; shape = Text }
    ∷ record { word = codes "--closed"; shape = Text }
    ∷ record { word = codes "--ties"; shape = Text }
    ∷ record { word = codes "--null"; shape = Text }
    ∷ record { word = codes "--skip-empty"; shape = Flag }
    ∷ record { word = codes "--delimiter"; shape = Text }
    ∷ record { word = codes "--decimal"; shape = Text }
    ∷ record { word = codes "--times"; shape = Flag }
    ∷ record { word = codes "--decimals"; shape = Ticks }
    ∷ record { word = codes "--units"; shape = Flag }
    ∷ record { word = codes "--check"; shape = Flag }
    ∷ record { word = codes "--bounds"; shape = Text }
    ∷ []

-- those that only a feed of rows has
abbrev pub row_options : List (List ℕ)
row_options = codes "--lateness" ∷ codes "--idle" ∷ codes "--ahead" ∷ []

-- those that only a feed of readings has, in addition to the column of its times
abbrev pub reading_options : List (List ℕ)
reading_options =
    codes "--name" ∷ codes "--value" ∷ codes "--tick" ∷ codes "--origin" ∷ codes "--unit" ∷ codes "--zone" ∷ codes "--fold"
    ∷ codes "--event" ∷ codes "--events" ∷ codes "--max-age" ∷ codes "--closed" ∷ codes "--ties" ∷ codes "--null" ∷ codes "--skip-empty" ∷ codes "--delimiter" ∷ codes "--decimal"
    ∷ codes "--times" ∷ []

-- those that a feed with keys doesn't have: its runs have no states, and its lines are rows
abbrev pub keyless_options : List (List ℕ)
keyless_options = codes "--resume" ∷ codes "--save" ∷ codes "--folder" ∷ codes "--time" ∷ codes "--check" ∷ []

-- whether one of these options is set
abbrev pub is_one_set : List (List ℕ) → List SettingValue → Bool
is_one_set words settings = list_any (λ word. is_set word settings) words

-- whether options fit together, if there is a folder or not, its position is asked for, a feed is planned, and there are files of states
abbrev pub fit_together : Bool → Bool → Bool → Bool → Bool
fit_together true position planned stated = not stated && not (position && planned)
fit_together false position planned stated = not (position || planned)

-- whether the options of folders and states fit together
abbrev pub folders_fit : List SettingValue → Bool
folders_fit settings =
    fit_together (is_set (codes "--folder") settings) (is_set (codes "--position") settings)
    (is_set (codes "--every") settings || is_set (codes "--from") settings) (is_set (codes "--resume") settings || is_set (codes "--save") settings)

-- whether they are of one form of feeds: of readings if there is a column of times, and otherwise of rows
abbrev pub forms_fit : List SettingValue → Bool
forms_fit settings =
    if is_set (codes "--time") settings then not (is_one_set row_options settings) else not (is_one_set reading_options settings)

-- whether a number of decimals is at most 19, if there is one
abbrev pub are_few : Option ℕ → Bool
are_few None = true
are_few (Some decimals) = nat_le decimals 19

abbrev pub decimals_fit : List SettingValue → Bool
decimals_fit settings = are_few (ticks_of (set_to (codes "--decimals") settings))

-- whether scales are those of readings or of a query in units, whose output has decimals of its own, if it is in units or not
abbrev pub in_units_fit : Bool → List SettingValue → Bool
in_units_fit true settings = not (is_set (codes "--decimals") settings)
in_units_fit false settings = is_set (codes "--time") settings || not (is_set (codes "--scale") settings)

abbrev pub units_fit : List SettingValue → Bool
units_fit settings = in_units_fit (is_set (codes "--units") settings) settings

-- whether only a query in units is checked, in place of a run, and bounds are those of a query in units
abbrev pub checks_fit : List SettingValue → Bool
checks_fit settings =
    if is_set (codes "--check") settings then is_set (codes "--units") settings && not (is_set (codes "--position") settings)
    else is_set (codes "--units") settings || not (is_set (codes "--bounds") settings)

-- whether a feed with keys has no other options than those that it can have, and a number of keys is that of such a feed
abbrev pub keys_fit : List SettingValue → Bool
keys_fit settings = if is_set (codes "--keys") settings then not (is_one_set keyless_options settings) else not (is_set (codes "--max-keys") settings)

-- whether they fit together
abbrev pub options_fit : List SettingValue → Bool
options_fit settings = folders_fit settings && forms_fit settings && decimals_fit settings && units_fit settings && checks_fit settings && keys_fit settings
