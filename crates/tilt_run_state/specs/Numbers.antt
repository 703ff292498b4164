-- The numbers of setups as the code has them: whole numbers and lengths are below 2 ^ 64, and an origin is a 128-bit number.
use Rattle.std.specs.Prelude.{◌<◌, ◌^◌, ⊤, ℕ, List, length, Option, None, Some, FitsSigned}
use Rattle.std.specs.Int.{w128}
use Rattle.std.specs.List.{AllByRecursion}
use Rattle.std.specs.Option.{ForSome}
use Rattle.tilt_conventions.specs.declared.options.Convention.{Convention}
use Rattle.tilt_conventions.specs.declared.options.Convention.TheVariants.{Hold, Event}
use Rattle.tilt_conventions.specs.declared.options.Options.{Options}
use Rattle.tilt_feed_form.specs.Setup.{SetupParts}
use Rattle.tilt_reading_lines.specs.Rules.{LocalValue, RulesValue, SourceValue}
use Rattle.tilt_reading_lines.specs.Titles.{TitlesValue, TitlesValue as titles}
use Rattle.tilt_reading_text.specs.Form.{FormValue}
use Rattle.tilt_readings.specs.declared.tick.Clock.{Clock}

-- a whole number
abbrev pub IsNumber : ℕ → Type 0
IsNumber n = n < 2 ^ 64

-- the length of a text
abbrev pub IsText : List ℕ → Type 0
IsText text = IsNumber (length text)

-- the number of some items, and those of each
abbrev pub AreAll : {A : Type 0} → (A → Type 0) → List A → Type 0
AreAll Has items = IsNumber (length items) × AllByRecursion Has items

-- of titles
abbrev pub AreTitles : TitlesValue → Type 0
AreTitles (titles.Named time name value) = IsText time × IsText name × IsText value
AreTitles (titles.OfInputs time) = IsText time

-- of a clock
pub record IsClock (clock : Clock) : Type 0 where
  pub tick : IsNumber clock.length
  pub origin : FitsSigned w128 clock.origin

-- of rules for local times
abbrev pub IsLocal : Option LocalValue → Type 0
IsLocal None = ⊤
IsLocal (Some rules) = IsText rules.name

-- of rules
pub record AreRules (rules : RulesValue) : Type 0 where
  pub clock : IsClock rules.clock
  pub mark : IsNumber rules.mark
  pub nulls : AreAll IsText rules.nulls
  pub local : IsLocal rules.local

-- of an input
pub record IsSource (source : SourceValue) : Type 0 where
  pub name : IsText source.name
  pub scale : IsNumber source.scale

-- of a form
pub record IsForm (form : FormValue) : Type 0 where
  pub delimiter : IsNumber form.delimiter
  pub titles : AreTitles form.titles
  pub rules : AreRules form.rules
  pub sources : AreAll IsSource form.sources

-- of a convention, and of what the readings of an input mean
abbrev pub IsConvention : Convention → Type 0
IsConvention (Hold max_age) = ForSome max_age IsNumber
IsConvention Event = ⊤

abbrev pub IsMeaning : Options → Type 0
IsMeaning options = IsConvention options.convention

-- of a setup
pub record HasNumbers (setup : SetupParts) : Type 0 where
  pub form : IsForm setup.form
  pub options : AreAll IsMeaning setup.options
