-- The rules of readings, their inputs and their columns, as definitions see them.
use Rattle.std.specs.Prelude.{ℕ, Bool, List, Option}
use Rattle.tilt_readings.specs.declared.tick.Clock.{Clock}
use Rattle.tilt_reading_lines.specs.declared.columns.Columns.{Columns}
use Rattle.tilt_reading_lines.specs.declared.columns.ValueColumns.{ValueColumns}
use Rattle.tilt_reading_lines.specs.declared.columns.ValueColumns.TheVariants as columns
use Rattle.tilt_reading_lines.specs.declared.rules.Moments.{Moments}
use Rattle.tilt_zones.specs.Zone.{ZoneParts}
use Rattle.tilt_zones.specs.declared.moments.Fold.{Fold}

-- an input: its name, and the scale of its values
pub record SourceValue : Type 0 where
  pub name : List ℕ
  pub scale : ℕ

-- how local times are read: by what the clocks of a zone show, and by which moment a local time means that they skip or show twice. The name
-- of the zone is kept beside its table
pub record LocalValue : Type 0 where
  pub zone : ZoneParts
  pub fold : Option Fold
  pub name : List ℕ

-- how moments are written, and how local times are read, if they are; the clock; the mark before the fraction of a decimal. Then the null
-- texts, and whether texts without a value are skipped
pub record RulesValue : Type 0 where
  pub moments : Moments
  pub local : Option LocalValue
  pub clock : Clock
  pub mark : ℕ
  pub nulls : List (List ℕ)
  pub skips_empty : Bool

-- where values are: of an input that another column names, or in a column for each input
pub data Values : Type 0 where
  Named : (name value : ℕ) → Values
  OfInputs : (places : List ℕ) → Values

-- how many fields a record has, and where its time and its values are
pub record Layout : Type 0 where
  pub count : ℕ
  pub time : ℕ
  pub values : Values

abbrev pub values_of : ValueColumns → Values
values_of (columns.Named name value) = Named name value
values_of (columns.OfInputs places) = OfInputs places.items

abbrev pub layout_of : Columns → Layout
layout_of columns = record { count = columns.count; time = columns.time; values = values_of columns.values }
