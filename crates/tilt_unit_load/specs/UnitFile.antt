-- What a query file in units gives: a query over whole numbers with the decimals of its output, or the first reason why there is none (our own
-- rule).
use Rattle.std.specs.Prelude.{◌≡◌, ◌≢◌, ◌<◌, ◌≤◌, ◌^◌, List, ℕ, length, Option, Some, None, Ok, Err}
use Rattle.std.specs.List.{slice_get}
use Rattle.tilt_base.specs.declared.limits.TheConstants.{FILE}
use Rattle.tilt_bounds.specs.Margins.{MarginsParts, margins_of}
use Rattle.tilt_core.specs.Core.{CoreParts, emitted_number}
use Rattle.tilt_core.specs.Needs.{Need}
use Rattle.tilt_input_scales.specs.Scales.{ScalesValue}
use Rattle.tilt_load.specs.Load.{IsLoadFault}
use Rattle.tilt_report.specs.Report.{refusal, file_too_long, too_far}
use Rattle.tilt_syntax.specs.Tree.{StatementTree}
use Rattle.tilt_unit_load.specs.UnitReport.{UnitReport, shared, own, report_of_units}
use Rattle.tilt_unit_load.specs.declared.fault.UnitFileFault.TheVariants.{OutputScale}
use Rattle.tilt_unit_text.specs.Reading.{Reads}
use Rattle.tilt_unit_text.specs.Said.{QueryInUnits}
use Rattle.tilt_unit_text.specs.Units.{UnitParts}
use Rattle.tilt_unit_text.specs.declared.fault.UnitFault.{UnitFault}
use Rattle.tilt_units.specs.Exact.{ScaledRows, exact_sources, scale_in, source_at}
use Rattle.tilt_units.specs.ExactStream.{ExactStream}
use Rattle.tilt_units.specs.declared.quantity.Quantity.{Quantity}

-- the scale of a quantity, 1 if there is none
abbrev pub scale_or_one : Option Quantity → ℕ
scale_or_one None = 1
scale_or_one (Some quantity) = scale_in quantity

-- the scale of what a query over whole numbers emits, 1 of truth values
abbrev pub emitted_scale : UnitParts → ℕ
emitted_scale parts = scale_or_one (slice_get parts.quantities (emitted_number parts.core))

-- the text of the file is no longer than a file may be, and in units it is this query over whole numbers, with its core. What that emits is at
-- the scale of so many decimals, and it looks no farther than a query may
pub record IsLoadedInUnits (bytes : List ℕ) (scales : ScalesValue) (query : List StatementTree) (core : CoreParts) (decimals : ℕ) : Type 0 where
  pub short : length bytes ≤ FILE
  pub quantities : List Quantity
  pub reads : Reads scales bytes (Ok (record { query = query; core = core; quantities = quantities }))
  pub scaled : 10 ^ decimals ≡ emitted_scale (record { query = query; core = core; quantities = quantities })
  pub margins : MarginsParts
  pub near : margins_of core ≡ Ok margins

-- why the file of a name is rejected: it is too long, or its text is no query in units. Else the scale of what it emits is no power of ten,
-- or it looks too far
pub data RefusesUnits (name bytes : List ℕ) (scales : ScalesValue) : UnitReport → Type 0 where
  long : FILE < length bytes → RefusesUnits name bytes scales (shared (refusal (file_too_long name)))
  unread : {report : UnitReport} (fault : UnitFault) → length bytes ≤ FILE → Reads scales bytes (Err fault) → report_of_units fault ≡ report
      → RefusesUnits name bytes scales report
  unscaled : {scale : ℕ} (parts : UnitParts) → length bytes ≤ FILE → Reads scales bytes (Ok parts) → emitted_scale parts ≡ scale
      → ((decimals : ℕ) → 10 ^ decimals ≢ scale) → RefusesUnits name bytes scales (own (OutputScale scale))
  far : (parts : UnitParts) (decimals : ℕ) (widest : Need) → length bytes ≤ FILE → Reads scales bytes (Ok parts)
      → 10 ^ decimals ≡ emitted_scale parts → margins_of parts.core ≡ Err widest
      → RefusesUnits name bytes scales (shared (refusal (too_far widest.back widest.ahead)))

-- why the file of a name gives no query: a read of it failed and the count rose, there is no memory, or it is rejected
module _ (tells : Type 0) (name bytes : List ℕ) (scales : ScalesValue) (before after : ℕ) where
  abbrev pub IsUnitLoadFault : UnitReport → Type 0
  IsUnitLoadFault (shared report) =
      IsLoadFault tells (λ why. RefusesUnits name bytes scales (shared (refusal why))) (λ which. which ≡ name) before after report
  IsUnitLoadFault (own fault) = tells → RefusesUnits name bytes scales (own fault)

-- the exact stream that a query in units emits on these rows of its inputs, if it has the core over whole numbers
abbrev pub exact_output : CoreParts → List ScaledRows → QueryInUnits → ExactStream
exact_output core inputs said = (source_at (exact_sources inputs said.defs) (emitted_number core)).stream
