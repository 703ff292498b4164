-- How the setup of a feed of readings is spelled (our own rule): lines that each end in LF, with numbers as shortest decimals. A text can
-- have any bytes, so it is spelled after its length.
use Rattle.std.specs.Prelude.{ℕ, List, [], ◌∷◌, ◌++◌, length, codes, flat_map, Option, None, Some, pos}
use Rattle.std.specs.Fmt.{decimal, signed_decimal}
use Rattle.tilt_conventions.specs.declared.options.Convention.{Convention}
use Rattle.tilt_conventions.specs.declared.options.Convention.TheVariants.{Hold, Event}
use Rattle.tilt_conventions.specs.declared.options.Options.{Options}
use Rattle.tilt_conventions.specs.declared.options.Ties.{Ties}
use Rattle.tilt_conventions.specs.declared.options.Ties.TheVariants as ties
use Rattle.tilt_feed_form.specs.Setup.{SetupParts}
use Rattle.tilt_live_state.specs.Spelling.{field, flag_text, line, ticks_text}
use Rattle.tilt_reading_lines.specs.Rules.{LocalValue, RulesValue, SourceValue}
use Rattle.tilt_reading_lines.specs.Titles.{TitlesValue, TitlesValue as titles}
use Rattle.tilt_reading_lines.specs.declared.rules.Moments.{Moments}
use Rattle.tilt_reading_lines.specs.declared.rules.Moments.TheVariants.{Dates, Numbers}
use Rattle.tilt_reading_text.specs.Form.{FormValue}
use Rattle.tilt_readings.specs.declared.epoch.Unit.TheVariants.{Seconds, Milliseconds, Microseconds, Nanoseconds}
use Rattle.tilt_readings.specs.declared.tick.Clock.{Clock}
use Rattle.tilt_readings.specs.declared.tick.Closed.{Closed}
use Rattle.tilt_readings.specs.declared.tick.Closed.TheVariants.{Left, Right}
use Rattle.tilt_zones.specs.declared.moments.Fold.{Fold}
use Rattle.tilt_zones.specs.declared.moments.Fold.TheVariants.{First, Second}

-- a text after its length
abbrev pub text_line : List ℕ → List ℕ → List ℕ
text_line word text = field 32 word (decimal (length text)) ++ (text ++ 10 ∷ [])

-- how many items there are, and the lines of each
abbrev pub counted_lines : {A : Type 0} → List ℕ → (A → List ℕ) → List A → List ℕ
counted_lines word item items = line word (decimal (length items)) ++ flat_map item items

-- how columns are titled
abbrev pub titles_lines : TitlesValue → List ℕ
titles_lines (titles.Named time name value) =
    codes "named\n" ++ (text_line (codes "time") time ++ (text_line (codes "name") name ++ text_line (codes "value") value))
titles_lines (titles.OfInputs time) = codes "of inputs\n" ++ text_line (codes "time") time

-- the word for the end of a tick that belongs to it
abbrev pub closed_text : Closed → List ℕ
closed_text Left = codes "left"
closed_text Right = codes "right"

-- how moments become ticks
abbrev pub clock_lines : Clock → List ℕ
clock_lines clock =
    line (codes "tick") (decimal clock.length)
    ++ (line (codes "origin") (signed_decimal clock.origin) ++ line (codes "closed") (closed_text clock.closed))

-- the word for how moments are written
abbrev pub moments_text : Moments → List ℕ
moments_text Dates = codes "dates"
moments_text (Numbers Seconds) = codes "s"
moments_text (Numbers Milliseconds) = codes "ms"
moments_text (Numbers Microseconds) = codes "us"
moments_text (Numbers Nanoseconds) = codes "ns"

-- a text that means that there is no value
abbrev pub null_line : List ℕ → List ℕ
null_line = text_line (codes "null")

-- how texts become readings
abbrev pub rules_lines : RulesValue → List ℕ
rules_lines rules =
    clock_lines rules.clock
    ++ (line (codes "moments") (moments_text rules.moments)
    ++ (line (codes "mark") (decimal rules.mark)
    ++ (counted_lines (codes "nulls") null_line rules.nulls ++ line (codes "skips") (flag_text rules.skips_empty))))

-- an input
abbrev pub source_lines : SourceValue → List ℕ
source_lines source = text_line (codes "source") source.name ++ line (codes "scale") (decimal source.scale)

-- the word for which moment a local time means that clocks skip or show twice
abbrev pub fold_text : Option Fold → List ℕ
fold_text None = codes "none"
fold_text (Some First) = codes "first"
fold_text (Some Second) = codes "second"

-- how local times are read, if they are. The table of the zone isn't spelled: a new version of it must not make states unusable
abbrev pub local_lines : Option LocalValue → List ℕ
local_lines None = []
local_lines (Some rules) = text_line (codes "zone") rules.name ++ line (codes "fold") (fold_text rules.fold)

-- how the lines of a feed are written
abbrev pub form_lines : FormValue → List ℕ
form_lines form =
    line (codes "delimiter") (decimal form.delimiter)
    ++ (titles_lines form.titles
    ++ (rules_lines form.rules ++ (local_lines form.rules.local ++ counted_lines (codes "sources") source_lines form.sources)))

-- how long a reading's value holds
abbrev pub convention_line : Convention → List ℕ
convention_line (Hold max_age) = line (codes "hold") (ticks_text max_age)
convention_line Event = codes "event\n"

-- the word for which of several readings in one tick counts
abbrev pub ties_text : Ties → List ℕ
ties_text ties.First = codes "first"
ties_text ties.Last = codes "last"
ties_text ties.Refuse = codes "refuse"
ties_text ties.Spread = codes "spread"

-- what the readings of an input mean
abbrev pub meaning_lines : Options → List ℕ
meaning_lines options = convention_line options.convention ++ line (codes "ties") (ties_text options.ties)

-- a setup
abbrev pub setup_lines : SetupParts → List ℕ
setup_lines setup = form_lines setup.form ++ counted_lines (codes "meanings") meaning_lines setup.options

-- a setup without the table of its zone
abbrev pub local_without_table : Option LocalValue → Option LocalValue
local_without_table None = None
local_without_table (Some rules) = Some (record rules { zone = record { first = pos 0; transitions = []; end = pos 0 } })

abbrev pub without_table : SetupParts → SetupParts
without_table setup = record setup {
  form = record setup.form { rules = record setup.form.rules { local = local_without_table setup.form.rules.local } };
}
