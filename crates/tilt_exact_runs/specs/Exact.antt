-- The runs of queries in units that took a whole feed, and report no results that leave 64 bits (our own rule).
use Rattle.std.specs.Prelude.{◌≡◌, ℕ, ◌^◌, ℤ, neg_ℤ, ◌+ℤ◌, ◌-ℤ◌, ◌≤ℤ◌, ◌<ℤ◌, true, false, is_err, List, length, Option}
use Rattle.tilt_base.specs.declared.limits.TheConstants.{T}
use Rattle.tilt_base.specs.declared.span.Span.{Span}
use Rattle.tilt_core.specs.Core.{CoreParts, IsCore}
use Rattle.tilt_core.specs.Needs.{reach}
use Rattle.tilt_counting.specs.Counted.{counted_meaning}
use Rattle.tilt_feed.specs.Feed.{Feed, closed_rows}
use Rattle.tilt_feed.specs.Printed.{printed}
use Rattle.tilt_feed_text.specs.Split.{whole_lines}
use Rattle.tilt_fractions.specs.Exact.{CellStandsFor}
use Rattle.tilt_input_scales.specs.Scales.{ScalesValue}
use Rattle.tilt_live_app.specs.Counting.{watch_options}
use Rattle.tilt_live_run.specs.Feeds.{live_meaning}
use Rattle.tilt_live_run.specs.Output.{first_news}
use Rattle.tilt_live_run.specs.Runs.{feed_of_lines}
use Rattle.tilt_live_run.specs.declared.run_options.RunOptions.{RunOptions}
use Rattle.tilt_magnitudes.specs.Law.{BoundInputs}
use Rattle.tilt_magnitudes.specs.Marks.{HaveRates}
use Rattle.tilt_overflows.specs.Watching.{watching_core}
use Rattle.tilt_serving.specs.Meaning.{FeedMeaning}
use Rattle.tilt_stream.specs.Snap.{Snapshot}
use Rattle.tilt_stream.specs.Stream.{cell_at}
use Rattle.tilt_syntax.specs.Tree.{StatementTree}
use Rattle.tilt_unit_load.specs.UnitFile.{IsLoadedInUnits, exact_output}
use Rattle.tilt_unit_report.specs.Bound.{rates_for, values_for}
use Rattle.tilt_unit_report.specs.IllScaled.{magnitudes_of}
use Rattle.tilt_unit_report.specs.declared.bound.InputBound.{InputBound}
use Rattle.tilt_unit_text.specs.Said.{IsInUnits, QueryInUnits}
use Rattle.tilt_units.specs.Exact.{ScaledRows, scales_of}
use Rattle.tilt_units.specs.Law.{InputsHaveScales}

-- the feed after the lines that end in some bytes
abbrev pub feed_after : CoreParts → RunOptions → List ℕ → Feed
feed_after core options bytes = feed_of_lines options core (whole_lines bytes)

-- what was written for a tick after these bytes: the cell of the snapshot that covers it, and null if none does
abbrev pub written_cell : CoreParts → RunOptions → List ℕ → ℤ → Option ℤ
written_cell core options bytes tick = cell_at (printed core (feed_after core options bytes)) tick

-- what the run of a query makes of its feed if it is watched: what it makes of it alone, and the count of the rows of the watching query
abbrev pub watched_meaning : CoreParts → RunOptions → FeedMeaning
watched_meaning core options =
    let watch = watching_core core in
    let asked = watch_options options in
    counted_meaning (live_meaning core options) (live_meaning watch asked) (first_news asked.display watch)

-- the lines that end in these bytes finish the feed, and these are its rows
pub record IsWholeFeed (core : CoreParts) (options : RunOptions) (bytes : List ℕ) (rows : List (List Snapshot)) : Type 0 where
  pub finished : (feed_after core options bytes).finished ≡ true
  pub rows_are : rows ≡ closed_rows (feed_after core options bytes)

-- The run is watched by a query that is accepted. At the end of these bytes it reports what it would report if it weren't watched: it counted
-- nothing
pub record CountsNothing (core : CoreParts) (options : RunOptions) (bytes : List ℕ) : Type 0 where
  pub accepted : IsCore (watching_core core)
  pub none : (watched_meaning core options).end_report bytes ≡ (live_meaning core options).end_report bytes

-- no number of the query can leave 64 bits within these bounds, and the rows of its inputs are within them
pub record IsBounded (core : CoreParts) (bounds : List InputBound) (rows : List (List Snapshot)) : Type 0 where
  pub within : is_err (magnitudes_of core bounds) ≡ false
  pub values : BoundInputs (values_for bounds core.inputs) rows
  pub rates : HaveRates (rates_for bounds core.inputs) rows

-- a span, widened by what the query looks back and ahead, is within the limits of spans
pub record IsInReach (core : CoreParts) (domain : Span) : Type 0 where
  pub start : neg_ℤ T ≤ℤ (domain.start -ℤ (reach (length core.inputs) core.defs).back)
  pub end : (domain.end +ℤ (reach (length core.inputs) core.defs).ahead) ≤ℤ T

-- A file is this query in units, with this core over whole numbers, so many decimals and these rows of its inputs
pub record IsQueryOver (file : List ℕ) (core : CoreParts) (decimals : ℕ) (said : QueryInUnits) (inputs : List ScaledRows) : Type 0 where
  pub scales : ScalesValue
  pub query : List StatementTree
  pub loaded : IsLoadedInUnits file scales query core decimals
  pub said_is : IsInUnits scales file said
  pub core_is : IsCore core
  pub scales_are : scales_of inputs ≡ said.scales
  pub positive : InputsHaveScales inputs

-- What was written for each tick of a span is a number of so many decimals. It is the exact cell that the query in units emits on the rows
-- of its inputs, nothing for null
abbrev pub IsExact : CoreParts → RunOptions → List ℕ → ℕ → QueryInUnits → List ScaledRows → Span → Type 0
IsExact core options bytes decimals said inputs span =
    (tick : ℤ) → span.start <ℤ tick → tick ≤ℤ span.end
    → CellStandsFor (10 ^ decimals) (written_cell core options bytes tick) ((exact_output core inputs said).cell tick)
