-- The check of a query file in units (our own rule).
use Rattle.std.specs.Prelude.{◌≡◌, ℕ, List, map, Option, None, Some, option_map, Result, Ok, Err}
use Rattle.std.specs.Global.{Vec}
use Rattle.std.specs.List.{slice_get}
use Rattle.tilt_core.specs.Core.{CoreParts}
use Rattle.tilt_input_scales.specs.Scales.{ScalesValue}
use Rattle.tilt_magnitudes.specs.Interval.{Interval}
use Rattle.tilt_magnitudes.specs.Law.{BoundInputs, everywhere}
use Rattle.tilt_magnitudes.specs.Marks.{HaveRates}
use Rattle.tilt_magnitudes.specs.declared.overflow.Overflow.{Overflow}
use Rattle.tilt_reading_options.specs.Scales.{missing_among}
use Rattle.tilt_reading_options.specs.declared.fault.FormFault.{FormFault}
use Rattle.tilt_reading_options.specs.declared.fault.FormFault.TheVariants as form
use Rattle.tilt_report.specs.Report.{out_of_memory}
use Rattle.tilt_stream.specs.Snap.{Snapshot}
use Rattle.tilt_stream.specs.Stream.{stream_of}
use Rattle.tilt_syntax.specs.Tree.{StatementTree}
use Rattle.tilt_unit_check.specs.declared.check.Checked.{Checked}
use Rattle.tilt_unit_check.specs.declared.fault.CheckFault.{CheckFault}
use Rattle.tilt_unit_check.specs.declared.fault.CheckFault.TheVariants.{NoInput, Unloaded}
use Rattle.tilt_unit_load.specs.UnitFile.{IsLoadedInUnits, IsUnitLoadFault}
use Rattle.tilt_unit_load.specs.UnitReport.{shared, unit_report}
use Rattle.tilt_unit_report.specs.Bound.{rates_for, unknown_bound, values_for}
use Rattle.tilt_unit_report.specs.IllScaled.{magnitudes_of}
use Rattle.tilt_unit_report.specs.Report.{definition_name, report_text}
use Rattle.tilt_unit_report.specs.declared.bound.InputBound.{InputBound}
use Rattle.tilt_units.specs.Law.{QueryStaysWithin}

-- the name of the definition that can leave 64 bits, if one can
abbrev pub unsafe_name : List (List ℕ) → Result (List Interval) Overflow → Option (List ℕ)
unsafe_name names (Ok all) = None
unsafe_name names (Err overflow) = Some (definition_name names overflow.place.definition)

-- a text that there may be
abbrev pub items_of : Option (Vec ℕ) → Option (List ℕ)
items_of text = option_map (λ t. t.items) text

-- there was no memory
abbrev pub IsNoMemory : CheckFault → Type 0
IsNoMemory (Unloaded why) = unit_report why ≡ shared out_of_memory
IsNoMemory (NoInput name) = ⊥

-- the same as a fault of the scales
abbrev pub IsOfForm : FormFault → CheckFault → Type 0
IsOfForm (form.NoInput name) (NoInput other) = other ≡ name
IsOfForm (form.NoInput name) (Unloaded why) = ⊥
IsOfForm form.OutOfMemory why = IsNoMemory why

-- there was no memory, or this name is no input
abbrev pub IsNamed : List ℕ → CheckFault → Type 0
IsNamed name (NoInput other) = other ≡ name
IsNamed name (Unloaded why) = unit_report why ≡ shared out_of_memory

-- What is known of the inputs: their scales, and their bounds.
module _ (scales : ScalesValue) (bounds : List InputBound) where
  -- the first name that is no input: of a scale, or else of a bound
  pub data IsUnknown (inputs : List (List ℕ)) (name : List ℕ) : Type 0 where
    in_scales : missing_among scales.named inputs ≡ Some name → IsUnknown inputs name
    in_bounds : (n : ℕ) (bound : InputBound) → missing_among scales.named inputs ≡ None → unknown_bound inputs 0 bounds ≡ Some n
        → slice_get bounds n ≡ Some bound → bound.name ≡ name → IsUnknown inputs name

  -- a query over whole numbers was checked. All names are those of inputs, the text is its report, and the definition that is named is the
  -- one that can leave 64 bits
  pub record HasChecked (query : List StatementTree) (core : CoreParts) (decimals : ℕ) (found : Checked) : Type 0 where
    pub scaled : missing_among scales.named core.inputs ≡ None
    pub known : unknown_bound core.inputs 0 bounds ≡ None
    pub text : found.text.items ≡ report_text query core decimals scales bounds
    pub can_leave : items_of found.can_leave ≡ unsafe_name core.names (magnitudes_of core bounds)

  -- if none is named, no operator and no reducer overflows on any rows within the bounds
  abbrev pub IsSafe : CoreParts → Checked → Type 0
  IsSafe core found =
      found.can_leave ≡ None → (rows : List (List Snapshot)) → BoundInputs (values_for bounds core.inputs) rows
      → HaveRates (rates_for bounds core.inputs) rows → QueryStaysWithin everywhere (map stream_of rows) core.defs

  -- a file in units was checked: it is this query over whole numbers
  pub record IsChecked (bytes : List ℕ) (found : Checked) : Type 0 where
    pub query : List StatementTree
    pub core : CoreParts
    pub decimals : ℕ
    pub loaded : IsLoadedInUnits bytes scales query core decimals
    pub checked : HasChecked query core decimals found
    pub safe : IsSafe core found

  -- why a query isn't checked: a name is no input, or there is no memory
  abbrev pub IsNoCheck : List (List ℕ) → CheckFault → Type 0
  IsNoCheck inputs (Unloaded why) = unit_report why ≡ shared out_of_memory
  IsNoCheck inputs (NoInput name) = IsUnknown inputs name

  -- why a file of a name isn't: it gives no query, or a name is no input of its query
  module _ (tells : Type 0) (name bytes : List ℕ) (before after : ℕ) where
    abbrev pub IsUnchecked : CheckFault → Type 0
    IsUnchecked (Unloaded why) = IsUnitLoadFault tells name bytes scales before after (unit_report why)
    IsUnchecked (NoInput unknown) =
        (query : List StatementTree) × (core : CoreParts) × (decimals : ℕ) × (tells → IsLoadedInUnits bytes scales query core decimals)
        × IsUnknown core.inputs unknown
