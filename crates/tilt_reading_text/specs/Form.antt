-- How the lines of a feed of readings are written, as plain data.
use Rattle.std.specs.Prelude.{ℕ, List}
use Rattle.tilt_reading_lines.specs.Rules.{RulesValue, SourceValue}
use Rattle.tilt_reading_lines.specs.Titles.{TitlesValue}

-- the byte between fields, the titles of the columns, how texts become readings, and the inputs in the order of their numbers
pub record FormValue : Type 0 where
  pub delimiter : ℕ
  pub titles : TitlesValue
  pub rules : RulesValue
  pub sources : List SourceValue
