-- What the options say, as plain data.
use Rattle.std.specs.Prelude.{ℕ, Bool, List, Option, map}
use Rattle.std.specs.Global.{Vec}
use Rattle.tilt_conventions.specs.declared.options.Ties.{Ties}
use Rattle.tilt_input_scales.specs.Scales.{ScalesValue}
use Rattle.tilt_reading_lines.specs.Titles.{TitlesValue}
use Rattle.tilt_reading_lines.specs.declared.rules.Moments.{Moments}
use Rattle.tilt_reading_options.specs.Conventions.{ConventionsValue}
use Rattle.tilt_readings.specs.declared.tick.Clock.{Clock}
use Rattle.tilt_zones.specs.declared.moments.Fold.{Fold}

-- a zone by its name, and which moment a local time means that its clocks skip or show twice
pub record ZoneChoiceValue : Type 0 where
  pub name : List ℕ
  pub fold : Option Fold

-- how readings are written, and what they mean
pub record ChoiceValue : Type 0 where
  pub titles : TitlesValue
  pub moments : Moments
  pub clock : Clock
  pub scales : ScalesValue
  pub conventions : ConventionsValue
  pub ties : Ties
  pub nulls : List (List ℕ)
  pub skips_empty : Bool
  pub delimiter : ℕ
  pub mark : ℕ
  pub zone : Option ZoneChoiceValue

-- texts of the code, as plain data
abbrev pub items_of : List (Vec ℕ) → List (List ℕ)
items_of texts = map (λ text. text.items) texts
