-- A run beside which another one watches for results that leave 64 bits.
use Rattle.std.proofs.Common.{◌≡◌, ◌⊎◌, ◌&&◌, Bool, true, List, [], ◌++◌, ℕ, None, Some, Option, Err, arith, refl, sym, inl, inr}
use Rattle.std.specs.Prelude.{is_none}
use Rattle.std.proofs.lemmas.Bool.{false≢true}
use Rattle.std.proofs.lemmas.Option.{none-some}
use Rattle.std.proofs.lemmas.List.{append-nil}
use Rattle.tilt_core.specs.Core.{CoreParts}
use Rattle.tilt_counting.proofs.Counted.{counted-goes}
use Rattle.tilt_live_app.proofs.Living.{names-unbegun}
use Rattle.tilt_live_app.specs.Asked.{IsMisnamed, missing_named}
use Rattle.tilt_feed_form.specs.declared.feed_form.FeedForm.{FeedForm}
use Rattle.tilt_input_scales.specs.Scales.{ScalesValue}
use Rattle.tilt_live_app.specs.BeginReport.{BeginReport, in_units, no_input, no_zone, report_of_check, shared}
use Rattle.tilt_live_app.specs.Begun.{HasTaken, IsUnbegun, no_memory, unknown}
use Rattle.tilt_live_app.specs.Change.{shelf_change}
use Rattle.tilt_live_app.specs.Counting.{CountsBy, IsFirst, IsMiscounted, counted, meaning_with}
use Rattle.tilt_live_app.specs.Resumed.{GoesOnFrom, StartsAt, first_start}
use Rattle.tilt_live_app.specs.declared.counting.Counting.{Counting}
use Rattle.tilt_live_app.specs.declared.counting.Counting.TheVariants.{By, Left, Unneeded}
use Rattle.tilt_live_cli.specs.Arguments.{CommandValue}
use Rattle.tilt_live_run.proofs.Feeding.{goes_by_bytes}
use Rattle.tilt_live_run.specs.Feeds.{live_meaning}
use Rattle.tilt_live_run.specs.Output.{first_news}
use Rattle.tilt_live_run.specs.declared.run_options.RunOptions.{RunOptions}
use Rattle.tilt_port.proofs.Writing.{reads-nothing-none}
use Rattle.tilt_port.specs.Transcript.{Transcript}
use Rattle.tilt_run_state.specs.State.{RunStateParts}
use Rattle.tilt_serving.specs.Adds.{Adds}
use Rattle.tilt_serving.specs.Meaning.{GoesByBytes}
use Rattle.tilt_serving.specs.Served.{Start}
use Rattle.tilt_serving.specs.declared.stop.Stop.TheVariants.{OutOfMemory}
use Rattle.tilt_syntax.specs.Tree.{StatementTree}
use Rattle.tilt_unit_check.specs.Check.{IsNoCheck}
use Rattle.tilt_unit_check.specs.declared.fault.CheckFault.{CheckFault}
use Rattle.tilt_unit_check.specs.declared.fault.CheckFault.TheVariants.{NoInput, Unloaded}
use Rattle.tilt_unit_report.specs.declared.bound.InputBound.{InputBound}

no-state : (resume : Option (List ℕ)) (others : Bool) → (is_none resume && others) ≡ true → resume ≡ None
no-state None others is = refl
no-state (Some file) others is = absurd (false≢true is)

none-from : (tells : Type 0) (files : List ℕ → List ℕ) (query : List StatementTree) (form : FeedForm) (resume : Option (List ℕ)) (from : Option RunStateParts)
    → resume ≡ None → GoesOnFrom tells files query form resume from → from ≡ None
none-from tells files query form None None none goes_on = refl
none-from tells files query form None (Some s) none goes_on = absurd goes_on
none-from tells files query form (Some file) from none goes_on = absurd (none-some file (sym none))

-- a run that is watched begins with the first byte
pub counts-first : (tells : Type 0) (files : List ℕ → List ℕ) (query : List StatementTree) (command : CommandValue) (core : CoreParts) (options : RunOptions)
    (counting : Counting) (from : Option RunStateParts) → CountsBy command core options counting → GoesOnFrom tells files query options.form command.resume from
    → IsFirst counting from
counts-first tells files query command core options Unneeded from counts goes_on = tt
counts-first tells files query command core options (By watch) from (counted bounds same known leaves watchable of) goes_on =
    (of.first, none-from tells files query options.form command.resume from (no-state command.resume _ watchable) goes_on)
counts-first tells files query command core options Left from counts goes_on = tt

-- a run that goes on from no state starts at the first byte
pub starts-first : (options : RunOptions) (core : CoreParts) (from : Option RunStateParts) → from ≡ None → StartsAt options core from (first_start core options)
starts-first options core from none = rw none refl

pub starts-only : (options : RunOptions) (core : CoreParts) (from : Option RunStateParts) (start : Start) → from ≡ None → StartsAt options core from start
    → start ≡ first_start core options
starts-only options core from start none at = rw none at at

-- a name in a scale or a bound that is no input, or no memory
pub no_check-miscounted : (command : CommandValue) (scales : ScalesValue) (bounds : List InputBound) (inputs : List (List ℕ)) (why : CheckFault)
    → command.units ≡ Some scales → command.bounds ≡ Some bounds → IsNoCheck scales bounds inputs why → IsMiscounted command inputs (report_of_check why)
no_check-miscounted command scales bounds inputs (NoInput name) units known is = (scales, bounds, units, known, is)
no_check-miscounted command scales bounds inputs (Unloaded why) units known none = rw none refl

-- however results are counted, the run goes by the bytes of its feed
pub counting-goes : (core : CoreParts) (options : RunOptions) (counting : Counting) → GoesByBytes (meaning_with core options counting)
counting-goes core options Unneeded = goes_by_bytes core options
counting-goes core options (By watch) =
    counted-goes (live_meaning core options) (live_meaning watch.accepted.core watch.options) (first_news watch.options.display watch.accepted.core) (goes_by_bytes core options)
counting-goes core options Left = goes_by_bytes core options

-- nothing was written, since there was no memory
pub adds-none : (tells : Type 0) (port : Transcript) (bytes : List ℕ) → Adds {T = Unit {0}} tells port port bytes (Err OutOfMemory)
adds-none tells port bytes = record {
  whole = λ _ e. absurd (cc e);
  front = λ _ _. record { front = []; rest = bytes; parts = refl; appended = sym (append-nil port.written) };
  reads_nothing = λ _. reads-nothing-none port;
  kept = omega arith;
  rose = λ e. absurd (cc e);
  reads = refl;
}

module _ {S : Type 0} (tells : Type 0) (files : S → List ℕ → List ℕ) (read_faults save_faults : S → ℕ) (takes : S → List ℕ → ℕ → Type 0) (command : CommandValue) where
  -- a name of a bound that is no input, after the query was loaded
  miscounted-unbegun : (old new : S) (query : List StatementTree) (core : CoreParts) (decimals : Option ℕ)
      → HasTaken tells (files old command.query) command.units query core decimals → (report : BeginReport) → IsMiscounted command core.inputs report
      → IsUnbegun (shelf_change tells files read_faults save_faults old new) command report
  miscounted-unbegun old new query core decimals taken (no_input name) is = unknown query core decimals is.0 is.1 name taken is.2 is.3 is.4
  miscounted-unbegun old new query core decimals taken (in_units fault) none = absurd none
  miscounted-unbegun old new query core decimals taken (no_zone name) none = absurd none
  miscounted-unbegun old new query core decimals taken (shared report) none = rw none no_memory

  pub counts-unbegun : (old new : S) (query : List StatementTree) (core : CoreParts) (decimals : Option ℕ)
      → HasTaken tells (files old command.query) command.units query core decimals → (report : BeginReport)
      → IsMisnamed (missing_named command.readings command.units core.inputs) report ⊎ IsMiscounted command core.inputs report
      → IsUnbegun (shelf_change tells files read_faults save_faults old new) command report
  counts-unbegun old new query core decimals taken report (inl missing) =
      names-unbegun tells files read_faults save_faults takes command old new query core decimals taken report missing
  counts-unbegun old new query core decimals taken report (inr is) = miscounted-unbegun old new query core decimals taken report is
