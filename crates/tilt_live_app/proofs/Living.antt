-- Why a feed isn't begun.
use Rattle.std.proofs.Common.{◌≡◌, ◌⊎◌, inl, inr, ℕ, List, Option, None, Some, Ok, ap, sym, subst, ◌∙◌}
use Rattle.tilt_bounds.specs.Margins.{margins_of}
use Rattle.tilt_checkpoint.specs.Valid.{IsAccepted}
use Rattle.tilt_compiler.specs.Accepted.{AcceptedParts, IsAccepted as IsCompiled}
use Rattle.tilt_core.specs.Core.{CoreParts}
use Rattle.tilt_live_cli.specs.Arguments.{CommandValue}
use Rattle.tilt_live_app.specs.Asked.{IsMisnamed, form_asked, missing_named}
use Rattle.tilt_input_scales.specs.Scales.{ScalesValue}
use Rattle.tilt_live_app.specs.BeginReport.{BeginReport, begin_of_units, in_units, no_input, no_zone, shared}
use Rattle.tilt_live_app.specs.Begun.{HasTaken, IsUnbegun, no_memory, refused, refused_in_units, state_refused, state_unread, unread, misnamed}
use Rattle.tilt_live_app.specs.Begun.{table_unread, without_table}
use Rattle.tilt_live_app.specs.Change.{shelf_change}
use Rattle.tilt_live_app.specs.StateFile.{RefusesState}
use Rattle.tilt_live_app.specs.Zoned.{HasNoZone, HasZone, zone_named}
use Rattle.tilt_load.specs.Load.{IsLoadFault}
use Rattle.tilt_load.specs.QueryFile.{RefusesQuery}
use Rattle.tilt_outside.proofs.Puts.{rose_from}
use Rattle.tilt_outside.specs.Faults.{Rose}
use Rattle.tilt_outside.specs.Reads.{OnlyReads}
use Rattle.tilt_report.specs.Report.{Report, out_of_memory, read_fault, refusal, save_fault, usage, write_fault}
use Rattle.tilt_syntax.specs.Query.{IsQuery}
use Rattle.tilt_syntax.specs.Tree.{StatementTree}
use Rattle.tilt_types.proofs.CheckedCore.{checked-core}
use Rattle.tilt_types.specs.Checked.{checked}
use Rattle.tilt_unit_load.specs.UnitFile.{IsUnitLoadFault}
use Rattle.tilt_unit_load.specs.UnitReport as units
use Rattle.tilt_unit_load.specs.UnitReport.{UnitReport}
use Rattle.tilt_zone_files.specs.ZoneFile.{HasNoTable, zone_path}
use Rattle.tilt_zones.specs.Zone.{ZoneParts}

module _ {S : Type 0} (tells : Type 0) (files : S → List ℕ → List ℕ) (read_faults save_faults : S → ℕ) (takes : S → List ℕ → ℕ → Type 0) (command : CommandValue) where
  -- a query over whole numbers that wasn't loaded
  pub load-unbegun : (old new : S) (report : Report) → command.units ≡ None
      → IsLoadFault tells (RefusesQuery command.query (files old command.query)) (λ which. which ≡ command.query) (read_faults old) (read_faults new) report
      → IsUnbegun (shelf_change tells files read_faults save_faults old new) command (shared report)
  load-unbegun old new usage whole fault = absurd fault
  load-unbegun old new (refusal why) whole fault = refused whole fault
  load-unbegun old new (read_fault name) whole fault = rw fault.1 (unread fault.0)
  load-unbegun old new write_fault whole fault = absurd fault
  load-unbegun old new (save_fault name) whole fault = absurd fault
  load-unbegun old new out_of_memory whole fault = no_memory

  -- a query in units that wasn't loaded
  pub units-unbegun : (old new : S) (scales : ScalesValue) (report : UnitReport) → command.units ≡ Some scales
      → IsUnitLoadFault tells command.query (files old command.query) scales (read_faults old) (read_faults new) report
      → IsUnbegun (shelf_change tells files read_faults save_faults old new) command (begin_of_units report)
  units-unbegun old new scales (units.shared usage) is fault = absurd fault
  units-unbegun old new scales (units.shared (refusal why)) is fault = refused_in_units scales is fault
  units-unbegun old new scales (units.shared (read_fault name)) is fault = rw fault.1 (unread fault.0)
  units-unbegun old new scales (units.shared write_fault) is fault = absurd fault
  units-unbegun old new scales (units.shared (save_fault name)) is fault = absurd fault
  units-unbegun old new scales (units.shared out_of_memory) is fault = no_memory
  units-unbegun old new scales (units.own own) is fault = refused_in_units scales is fault

  -- a name in options that is no input, after the query was loaded
  pub names-unbegun : (old new : S) (query : List StatementTree) (core : CoreParts) (decimals : Option ℕ)
      → HasTaken tells (files old command.query) command.units query core decimals → (report : BeginReport)
      → IsMisnamed (missing_named command.readings command.units core.inputs) report
      → IsUnbegun (shelf_change tells files read_faults save_faults old new) command report
  names-unbegun old new query core decimals taken (no_input name) missing = misnamed query core decimals name taken missing
  names-unbegun old new query core decimals taken (in_units fault) none = absurd none
  names-unbegun old new query core decimals taken (no_zone name) none = absurd none
  names-unbegun old new query core decimals taken (shared report) none = rw none no_memory

  -- a zone that is named has no table, after the query was loaded
  table-unbegun : (old mid new : S) (name : List ℕ) → OnlyReads files read_faults save_faults takes old mid → zone_named command.readings ≡ Some name
      → ((tells → HasNoTable (files mid (zone_path name))) ⊎ Rose (read_faults mid) (read_faults new))
      → IsUnbegun (shelf_change tells files read_faults save_faults old new) command (no_zone name)
  table-unbegun old mid new name reads is (inl none) =
      let same = ap (λ (held : List ℕ → List ℕ). held (zone_path name)) reads.same_files in
      without_table name is (λ t. subst (λ (bytes : List ℕ). HasNoTable bytes) same (none t))
  table-unbegun old mid new name reads is (inr rose) =
      table_unread name is (rose_from (read_faults old) (read_faults mid) (read_faults new) reads.no_fewer_read_faults rose)

  pub zone-unbegun : (old mid new : S) → OnlyReads files read_faults save_faults takes old mid → (report : BeginReport)
      → HasNoZone tells (files mid) (read_faults mid) (read_faults new) (zone_named command.readings) report
      → IsUnbegun (shelf_change tells files read_faults save_faults old new) command report
  zone-unbegun old mid new reads (no_zone name) fault = table-unbegun old mid new name reads fault.0 fault.1
  zone-unbegun old mid new reads (no_input name) fault = absurd fault
  zone-unbegun old mid new reads (in_units why) fault = absurd fault
  zone-unbegun old mid new reads (shared report) fault = rw fault no_memory

  -- a state that wasn't loaded, after the query and the table were
  pub state-unbegun : (old mid new : S) (file : List ℕ) (query : List StatementTree) (core : CoreParts) (decimals : Option ℕ) (table : Option ZoneParts)
      → OnlyReads files read_faults save_faults takes old mid → command.resume ≡ Some file
      → HasTaken tells (files old command.query) command.units query core decimals → HasZone tells (files old) (zone_named command.readings) table → (report : Report)
      → IsLoadFault tells (RefusesState query (form_asked command.readings table command.asked.watermarks core.inputs) file (files mid file)) (λ which. which ≡ file)
      (read_faults mid) (read_faults new) report
      → IsUnbegun (shelf_change tells files read_faults save_faults old new) command (shared report)
  state-unbegun old mid new file query core decimals table reads is taken zone usage fault = absurd fault
  state-unbegun old mid new file query core decimals table reads is taken zone (refusal why) fault =
      let same = ap (λ (held : List ℕ → List ℕ). held file) reads.same_files in
      state_refused file query core decimals table is taken zone
      (λ t. subst (λ (bytes : List ℕ). RefusesState query (form_asked command.readings table command.asked.watermarks core.inputs) file bytes why) same (fault t))
  state-unbegun old mid new file query core decimals table reads is taken zone (read_fault name) fault =
      rw fault.1 (state_unread file is (rose_from (read_faults old) (read_faults mid) (read_faults new) reads.no_fewer_read_faults fault.0))
  state-unbegun old mid new file query core decimals table reads is taken zone write_fault fault = absurd fault
  state-unbegun old mid new file query core decimals table reads is taken zone (save_fault name) fault = absurd fault
  state-unbegun old mid new file query core decimals table reads is taken zone out_of_memory fault = no_memory

-- a query that was accepted is one that a state may be of
pub accepted-query : (query : List StatementTree) (a : AcceptedParts) → IsQuery query → checked query ≡ Ok a.core → IsCompiled a → IsAccepted query
accepted-query query a parsed well kept =
    let core = checked-core query a.core well in
    record { parsed = parsed; well_formed = well ∙ ap Ok (sym core); margins = a.margins; near = subst (λ (k : CoreParts). margins_of k ≡ Ok a.margins) (sym core) kept.near }
