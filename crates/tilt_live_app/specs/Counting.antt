-- How the results of a query in units that leave 64 bits are counted (our own rule).
use Rattle.std.specs.Prelude.{◌≡◌, ◌&&◌, ⊤, ℕ, ℤ, Bool, true, false, is_err, is_none, List, [], codes, Option, None, Some}
use Rattle.tilt_bounds.specs.Margins.{IsTold, margins_of}
use Rattle.tilt_bounds.specs.declared.fault.ReachFault.TheVariants.{TooFar}
use Rattle.tilt_core.specs.Core.{CoreParts, IsCore}
use Rattle.tilt_counting.specs.Counted.{counted_meaning}
use Rattle.tilt_input_scales.specs.Scales.{ScalesValue}
use Rattle.tilt_live_app.specs.BeginReport.{BeginReport, in_units, no_input, no_zone, shared}
use Rattle.tilt_live_app.specs.declared.begin.Begin.{Begin}
use Rattle.tilt_live_app.specs.declared.counting.Counting.{Counting}
use Rattle.tilt_live_app.specs.declared.counting.Counting.TheVariants.{By, Left, Unneeded}
use Rattle.tilt_live_cli.specs.Arguments.{CommandValue}
use Rattle.tilt_live_run.specs.Feeds.{live_meaning}
use Rattle.tilt_live_run.specs.Output.{first_news}
use Rattle.tilt_live_run.specs.declared.run_options.RunOptions.{RunOptions}
use Rattle.tilt_overflows.specs.Watching.{watching_core}
use Rattle.tilt_report.specs.Report.{out_of_memory}
use Rattle.tilt_row_text.specs.declared.times.Times.TheVariants.{Ticks}
use Rattle.tilt_run_state.specs.State.{RunStateParts}
use Rattle.tilt_serving.specs.Meaning.{FeedMeaning}
use Rattle.tilt_unit_check.specs.Check.{IsUnknown}
use Rattle.tilt_unit_report.specs.IllScaled.{magnitudes_of}
use Rattle.tilt_unit_report.specs.declared.bound.InputBound.{InputBound}

-- what is asked of the run that watches another one: final rows alone, with times as ticks
abbrev pub watch_options : RunOptions → RunOptions
watch_options options = record {
  display = record { with_begun = false; style = record { times = Ticks; decimals = 0 } };
  strict = options.strict;
  form = options.form;
}

-- the run that watches the run of a query with these options: it is one of the watching query, from the first byte of the same feed on
pub record IsWatchOf (core : CoreParts) (options : RunOptions) (watch : Begin) : Type 0 where
  pub core_is : watch.accepted.core ≡ watching_core core
  pub options_are : watch.options ≡ watch_options options
  pub first : watch.from ≡ None

-- whether the run of a command can be watched: it goes on from no state, and its feed has no keys and doesn't go into a folder
abbrev pub is_watchable : CommandValue → Bool
is_watchable command = is_none command.resume && (is_none command.asked.keys && is_none command.folder)

-- the watching query isn't one that is accepted: it has more parts than a query may have, or it looks too far
pub data HasNoWatch (core : CoreParts) : Type 0 where
  too_large : ¬ (IsCore (watching_core core)) → HasNoWatch core
  too_far : (back ahead : ℤ) → IsTold (margins_of (watching_core core)) (TooFar back ahead) → HasNoWatch core

-- The command, and the query with the options of its run.
module _ (command : CommandValue) (core : CoreParts) (options : RunOptions) where
  -- how results that leave 64 bits are counted: not at all over whole numbers, or if no number can leave 64 bits within the bounds that the
  -- command gives. Otherwise they are the rows of a run that watches, if there can be one
  pub data CountsBy : Counting → Type 0 where
    whole : command.units ≡ None → CountsBy Unneeded
    unasked : command.bounds ≡ None → CountsBy Unneeded
    within : (bounds : List InputBound) → command.bounds ≡ Some bounds → is_err (magnitudes_of core bounds) ≡ false → CountsBy Unneeded
    counted : (bounds : List InputBound) (watch : Begin) → command.bounds ≡ Some bounds → is_err (magnitudes_of core bounds) ≡ true
        → is_watchable command ≡ true → IsWatchOf core options watch → CountsBy (By watch)
    unwatchable : (bounds : List InputBound) → command.bounds ≡ Some bounds → is_err (magnitudes_of core bounds) ≡ true
        → is_watchable command ≡ false → CountsBy Left
    unwatched : (bounds : List InputBound) → command.bounds ≡ Some bounds → is_err (magnitudes_of core bounds) ≡ true
        → is_watchable command ≡ true → HasNoWatch core → CountsBy Left

-- why that isn't known: the name of a scale or a bound is no input of the query, or there is no memory
abbrev pub IsMiscounted : CommandValue → List (List ℕ) → BeginReport → Type 0
IsMiscounted command inputs (no_input name) = (scales : ScalesValue) × (bounds : List InputBound) × (command.units ≡ Some scales)
    × (command.bounds ≡ Some bounds) × IsUnknown scales bounds inputs name
IsMiscounted command inputs (in_units fault) = ⊥
IsMiscounted command inputs (no_zone name) = ⊥
IsMiscounted command inputs (shared report) = report ≡ out_of_memory

-- if a run is watched, both begin with the first byte of their feed: they go on from no state
abbrev pub IsFirst : Counting → Option RunStateParts → Type 0
IsFirst Unneeded from = ⊤
IsFirst (By watch) from = (watch.from ≡ None) × (from ≡ None)
IsFirst Left from = ⊤

-- what a run of the query makes of its feed then
abbrev pub meaning_with : CoreParts → RunOptions → Counting → FeedMeaning
meaning_with core options Unneeded = live_meaning core options
meaning_with core options (By watch) =
    counted_meaning (live_meaning core options) (live_meaning watch.accepted.core watch.options) (first_news watch.options.display watch.accepted.core)
meaning_with core options Left = live_meaning core options

-- what is reported before the feed
abbrev pub note_of : Counting → List ℕ
note_of Unneeded = []
note_of (By watch) = []
note_of Left = codes "tilt: 122 results that leave 64 bits aren't counted\n"
