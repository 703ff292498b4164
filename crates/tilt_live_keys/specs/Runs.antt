-- Which run is one of a feed with keys, and what a piece of the feed adds (our own rule).
use Rattle.std.specs.Prelude.{◌≡◌, ◌+◌, ◌&&◌, ℕ, List, [], take, if◌then◌else◌, Option}
use Rattle.tilt_feed_form.specs.declared.bad_feed_line.BadFeedLine.TheVariants as bad
use Rattle.tilt_feed_text.specs.Split.{unfinished, whole_lines}
use Rattle.tilt_feed_text.specs.declared.bad_line.BadLine.TheVariants.{NoEnd}
use Rattle.tilt_feed_text.specs.declared.pending.TheConstants.{LINE}
use Rattle.tilt_keyed_line.specs.Feeds.{KeyedFeed, empty_keyed_feed}
use Rattle.tilt_keyed_run.specs.Runs.{IsKeyedRunOf, max_keys_of}
use Rattle.tilt_keyed_run.specs.declared.bad_keyed_line.BadKeyedLine.TheVariants.{OfKey}
use Rattle.tilt_live_keys.specs.Output.{feed_from, output_from, reports_from, stop_from}
use Rattle.tilt_live_keys.specs.Recipe.{IsKeyLiveOf}
use Rattle.tilt_live_keys.specs.Report.{keyed_report}
use Rattle.tilt_live_keys.specs.declared.key_recipe.KeyRecipe.{KeyRecipe}
use Rattle.tilt_live_keys.specs.declared.keyed_lines.KeyedLines.{KeyedLines}
use Rattle.tilt_live_keys.specs.declared.keyed_live.KeyedLive.{KeyedLive}
use Rattle.tilt_serving.specs.Meaning.{FeedMeaning}
use Rattle.tilt_serving.specs.declared.stop.Stop.{Stop}
use Rattle.tilt_live_run.specs.Feeds.{bad_line_if}
use Rattle.tilt_live_run.specs.Runs.{is_unfinished, new_lines, number_of}
use Rattle.tilt_outside.specs.Counts.{next_count}

-- the runs of a recipe after so many lines, after which the feed is there
pub record AreLinesOf (lines : KeyedLines) (recipe : KeyRecipe) (number : ℕ) (feed : KeyedFeed) : Type 0 where
  pub recipe_is : lines.recipe ≡ recipe
  pub runs_are : IsKeyedRunOf IsKeyLiveOf lines.runs recipe feed
  pub most_is : max_keys_of lines.runs ≡ recipe.max_keys
  pub number_is : lines.number ≡ number

-- the same, and the first bytes of the next line
pub record IsRunAfter (run : KeyedLive) (recipe : KeyRecipe) (number : ℕ) (feed : KeyedFeed) (front : List ℕ) : Type 0 where
  pub lines_are : AreLinesOf run.lines recipe number feed
  pub pending : run.pending.items ≡ take (LINE + 1) front

-- where the feed is after bytes
abbrev pub feed_after : List ℕ → KeyedFeed
feed_after bytes = feed_from 0 empty_keyed_feed (whole_lines bytes)

-- the run of a recipe after bytes of its feed
abbrev pub IsKeyedLiveOf : KeyedLive → KeyRecipe → List ℕ → Type 0
IsKeyedLiveOf run recipe bytes = IsRunAfter run recipe (number_of bytes) (feed_after bytes) (unfinished bytes)

-- it is the run of some recipe after some bytes
abbrev pub IsKeyedLive : KeyedLive → Type 0
IsKeyedLive run = (recipe : KeyRecipe) × (bytes : List ℕ) × IsKeyedLiveOf run recipe bytes

-- what is written for the lines that end in a piece after bytes, up to the first one that stops the run
abbrev pub added : KeyRecipe → List ℕ → List ℕ → List ℕ
added recipe bytes piece = output_from recipe (number_of bytes) (feed_after bytes) (new_lines bytes piece)

-- what is reported of them
abbrev pub reported : KeyRecipe → List ℕ → List ℕ → List ℕ
reported recipe bytes piece = reports_from recipe (number_of bytes) (feed_after bytes) (new_lines bytes piece)

-- why the run stops at one of them, if it does
abbrev pub stop_in : KeyRecipe → List ℕ → List ℕ → Option Stop
stop_in recipe bytes piece = stop_from recipe (number_of bytes) (feed_after bytes) (new_lines bytes piece)

-- the report of the line in the middle of which the feed ended, if it did
abbrev pub end_report : List ℕ → List ℕ
end_report bytes = if is_unfinished bytes then keyed_report (next_count (number_of bytes)) (OfKey (bad.Rows NoEnd)) else []

-- what the run of a recipe makes of its feed
abbrev pub keyed_meaning : KeyRecipe → FeedMeaning
keyed_meaning recipe = record {
  added = added recipe;
  reported = reported recipe;
  stop = stop_in recipe;
  end_report = end_report;
  end_stop = λ bytes. bad_line_if (recipe.strict && is_unfinished bytes);
}
