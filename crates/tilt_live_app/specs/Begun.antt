-- What a command reads before its feed (our own rule).
use Rattle.std.specs.Prelude.{◌≡◌, ℕ, List, Option, None, Some}
use Rattle.tilt_core.specs.Core.{CoreParts}
use Rattle.tilt_live_cli.specs.Arguments.{CommandValue}
use Rattle.tilt_input_scales.specs.Scales.{ScalesValue}
use Rattle.tilt_live_app.specs.Asked.{NamesInputs, form_asked, missing_named, options_asked}
use Rattle.tilt_live_app.specs.BeginReport.{BeginReport, begin_of_units, no_input, no_zone, shared}
use Rattle.tilt_live_app.specs.Change.{ShelfChange}
use Rattle.tilt_live_app.specs.Counting.{CountsBy}
use Rattle.tilt_live_app.specs.Resumed.{GoesOnFrom}
use Rattle.tilt_live_app.specs.StateFile.{RefusesState}
use Rattle.tilt_live_app.specs.Zoned.{HasZone, zone_named}
use Rattle.tilt_live_app.specs.declared.counting.Counting.{Counting}
use Rattle.tilt_live_run.specs.declared.run_options.RunOptions.{RunOptions}
use Rattle.tilt_load.specs.QueryFile.{HasQuery, RefusesQuery, TakesQuery}
use Rattle.tilt_outside.specs.Faults.{Rose}
use Rattle.tilt_report.specs.Report.{Reason, out_of_memory, read_fault, refusal}
use Rattle.tilt_run_state.specs.State.{RunStateParts}
use Rattle.tilt_syntax.specs.Tree.{StatementTree}
use Rattle.tilt_unit_check.specs.Check.{IsUnknown}
use Rattle.tilt_unit_load.specs.UnitFile.{IsLoadedInUnits, RefusesUnits}
use Rattle.tilt_unit_load.specs.UnitReport.{UnitReport}
use Rattle.tilt_unit_report.specs.declared.bound.InputBound.{InputBound}
use Rattle.tilt_zone_files.specs.ZoneFile.{HasNoTable, zone_path}
use Rattle.tilt_zones.specs.Zone.{ZoneParts}

-- the file of a query over whole numbers holds this query, which has this core and was taken
pub record IsWhole (tells : Type 0) (bytes : List ℕ) (query : List StatementTree) (core : CoreParts) : Type 0 where
  pub taken : tells → TakesQuery bytes core
  pub has : tells → HasQuery bytes query core

-- the file of a query holds this query over whole numbers, which has this core. If it is in units, its inputs have these scales, and its
-- output has so many decimals
abbrev pub HasTaken : Type 0 → List ℕ → Option ScalesValue → List StatementTree → CoreParts → Option ℕ → Type 0
HasTaken tells bytes None query core None = IsWhole tells bytes query core
HasTaken tells bytes None query core (Some decimals) = ⊥
HasTaken tells bytes (Some scales) query core None = ⊥
HasTaken tells bytes (Some scales) query core (Some decimals) = tells → IsLoadedInUnits bytes scales query core decimals

-- The shelf before and after, and the command.
module _ (shelf : ShelfChange) (command : CommandValue) where
  -- why its feed isn't begun: its query or the state that it is to go on from isn't taken, or a name in its options is no input. Or its zone
  -- has no table, a read failed, or there is no memory
  pub data IsUnbegun : BeginReport → Type 0 where
    refused : {why : Reason} → command.units ≡ None → (shelf.tells → RefusesQuery command.query (shelf.held command.query) why)
        → IsUnbegun (shared (refusal why))
    refused_in_units : {report : UnitReport} (scales : ScalesValue) → command.units ≡ Some scales
        → (shelf.tells → RefusesUnits command.query (shelf.held command.query) scales report) → IsUnbegun (begin_of_units report)
    unread : Rose shelf.reads_before shelf.reads_after → IsUnbegun (shared (read_fault command.query))
    misnamed : (query : List StatementTree) (core : CoreParts) (decimals : Option ℕ) (name : List ℕ)
        → HasTaken shelf.tells (shelf.held command.query) command.units query core decimals
        → missing_named command.readings command.units core.inputs ≡ Some name → IsUnbegun (no_input name)
    unknown : (query : List StatementTree) (core : CoreParts) (decimals : Option ℕ) (scales : ScalesValue) (bounds : List InputBound)
        (name : List ℕ) → HasTaken shelf.tells (shelf.held command.query) command.units query core decimals → command.units ≡ Some scales
        → command.bounds ≡ Some bounds → IsUnknown scales bounds core.inputs name → IsUnbegun (no_input name)
    without_table : (zone : List ℕ) → zone_named command.readings ≡ Some zone → (shelf.tells → HasNoTable (shelf.held (zone_path zone)))
        → IsUnbegun (no_zone zone)
    table_unread : (zone : List ℕ) → zone_named command.readings ≡ Some zone → Rose shelf.reads_before shelf.reads_after
        → IsUnbegun (no_zone zone)
    state_refused : {why : Reason} (file : List ℕ) (query : List StatementTree) (core : CoreParts) (decimals : Option ℕ)
        (table : Option ZoneParts) → command.resume ≡ Some file
        → HasTaken shelf.tells (shelf.held command.query) command.units query core decimals
        → HasZone shelf.tells shelf.held (zone_named command.readings) table
        → (shelf.tells → RefusesState query (form_asked command.readings table command.asked.watermarks core.inputs) file (shelf.held file) why)
        → IsUnbegun (shared (refusal why))
    state_unread : (file : List ℕ) → command.resume ≡ Some file → Rose shelf.reads_before shelf.reads_after
        → IsUnbegun (shared (read_fault file))
    no_memory : IsUnbegun (shared out_of_memory)

  -- its feed was begun: the query was taken, and so was the state that the run goes on from, if it is to go on from one. So was the table of
  -- its zone, if it names one. The options of the run are those that the command asks for. So is how its results that leave 64 bits are
  -- counted
  pub record IsBegun : Type 0 where
    pub query : List StatementTree
    pub core : CoreParts
    pub decimals : Option ℕ
    pub taken : HasTaken shelf.tells (shelf.held command.query) command.units query core decimals
    pub named : NamesInputs command core.inputs
    pub table : Option ZoneParts
    pub zone : HasZone shelf.tells shelf.held (zone_named command.readings) table
    pub options : RunOptions
    pub asked : options ≡ options_asked command table core.inputs decimals
    pub counting : Counting
    pub counts : CountsBy command core options counting
    pub from : Option RunStateParts
    pub goes_on : GoesOnFrom shelf.tells shelf.held query options.form command.resume from
