-- When a query is ill-scaled, and in which statement (our own rule).
use Rattle.std.specs.Prelude.{◌≡◌, ℕ, List, Option, Some, None, Result, Ok, Err, take}
use Rattle.std.specs.List.{slice_get}
use Rattle.tilt_core.specs.Core.{CoreParts}
use Rattle.tilt_core.specs.CoreTree.{Definition}
use Rattle.tilt_magnitudes.specs.Interval.{Interval}
use Rattle.tilt_magnitudes.specs.Magnitude.{magnitude, magnitudes, more_magnitudes}
use Rattle.tilt_magnitudes.specs.Marks.{marks_in}
use Rattle.tilt_magnitudes.specs.declared.met.Rate.{Rate}
use Rattle.tilt_magnitudes.specs.declared.overflow.Overflow.{Overflow}
use Rattle.tilt_syntax.specs.Tree.{StatementTree}
use Rattle.tilt_unit_report.specs.Bound.{rates_for, values_for}
use Rattle.tilt_unit_report.specs.declared.bound.InputBound.{InputBound}
use Rattle.tilt_unit_report.specs.declared.ill_scaled.IllScaled.{IllScaled}
use Rattle.tilt_unit_text.specs.Units.{statement_of}
use Rattle.tilt_units.specs.Translation.{start_of}

-- the intervals of all sources of a query over what is known of its inputs, or the first node that can leave 64 bits
abbrev pub magnitudes_of : CoreParts → List InputBound → Result (List Interval) Overflow
magnitudes_of core bounds = magnitudes (values_for bounds core.inputs) (rates_for bounds core.inputs) core.defs

-- what is reported of an overflow, and of the bounds of a query
abbrev pub ill_scaled_of : List StatementTree → Overflow → IllScaled
ill_scaled_of query o = record { definition = o.place.definition; statement = statement_of 1 query o.place.definition; bounds = o.bounds }

abbrev pub ill_scaled : List StatementTree → Result (List Interval) Overflow → Option IllScaled
ill_scaled query (Ok all) = None
ill_scaled query (Err o) = Some (ill_scaled_of query o)

-- the definition with a number is the first that can leave 64 bits. The sources before it have intervals. Over these its expression has a first
-- node whose interval 64 bits don't hold
pub record IsIllScaled (inputs : List Interval) (rates : List Rate) (defs : List Definition) (number : ℕ) : Type 0 where
  pub before : List Interval
  pub bounded : more_magnitudes (marks_in rates defs) 0 inputs (take number defs) ≡ Ok before
  pub def : Definition
  pub at : slice_get defs number ≡ Some def
  pub overflow : Overflow
  pub leaves : magnitude (marks_in rates defs) before (start_of number) def.body ≡ Err overflow
