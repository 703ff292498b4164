-- How the columns of a record are titled, as plain data.
use Rattle.std.specs.Prelude.{ℕ, List}
use Rattle.tilt_reading_lines.specs.declared.columns.Titles.{Titles}
use Rattle.tilt_reading_lines.specs.declared.columns.Titles.TheVariants as titles

-- those of times, names and values; or that of times, and the names of the inputs
pub data TitlesValue : Type 0 where
  Named : (time name value : List ℕ) → TitlesValue
  OfInputs : (time : List ℕ) → TitlesValue

abbrev pub titles_of : Titles → TitlesValue
titles_of (titles.Named time name value) = Named time.items name.items value.items
titles_of (titles.OfInputs time) = OfInputs time.items
