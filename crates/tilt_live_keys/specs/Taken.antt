-- What taking lines and pieces of a feed with keys did.
use Rattle.std.specs.Prelude.{◌≡◌, ℕ, false, List, ◌++◌, Result, OnOk}
use Rattle.tilt_feed_text.specs.Said.{number_after}
use Rattle.tilt_feed_text.specs.Split.{lines_after, unfinished_after}
use Rattle.tilt_keyed_line.specs.Feeds.{KeyedFeed}
use Rattle.tilt_serving.specs.Reported.{Reports}
use Rattle.tilt_live_keys.specs.Output.{Heard, after_heard, feed_from, heard_output, heard_report, heard_stop}
use Rattle.tilt_live_keys.specs.Output.{output_from, reports_from, stop_from}
use Rattle.tilt_serving.specs.Stops.{is_lost, stop_of}
use Rattle.tilt_live_keys.specs.declared.key_recipe.KeyRecipe.{KeyRecipe}
use Rattle.tilt_serving.specs.declared.stop.Stop.{Stop}
use Rattle.tilt_outside.specs.Counts.{next_count}

-- The meanings of the sink of reports, and what is run.
module _ {K : Type 0} (tells : Type 0) (written : K → List ℕ) (faults : K → ℕ) (recipe : KeyRecipe) where
  -- A line was taken, after so many lines that made a feed. Unless the run was lost, it was reported if it is bad, and what is written for
  -- it was appended to the output.
  pub record HasTakenLine (err err_then : K) (output output_then : List ℕ) (Is : ℕ → KeyedFeed → Type 0)
      (number : ℕ) (feed : KeyedFeed) (line : Heard) (result : Result (Unit {0}) Stop) : Type 0 where
    pub reports : Reports tells written faults err err_then (heard_report recipe number line feed) result
    pub wrote : is_lost result ≡ false → output_then ≡ output ++ heard_output recipe line feed
    pub goes_on : OnOk result (Is (next_count number) (after_heard line feed))
    pub stops : is_lost result ≡ false → stop_of result ≡ heard_stop recipe line feed

  -- the lines that end in a piece were taken, one after another, up to one that stops the run
  pub record HasTakenPiece (err err_then : K) (output output_then : List ℕ) (Is : ℕ → KeyedFeed → List ℕ → Type 0)
      (number : ℕ) (feed : KeyedFeed) (front piece : List ℕ) (result : Result (Unit {0}) Stop) : Type 0 where
    pub reports : Reports tells written faults err err_then (reports_from recipe number feed (lines_after front piece)) result
    pub wrote : is_lost result ≡ false → output_then ≡ output ++ output_from recipe number feed (lines_after front piece)
    pub goes_on : OnOk result
        (Is (number_after number (lines_after front piece)) (feed_from number feed (lines_after front piece)) (unfinished_after front piece))
    pub stops : is_lost result ≡ false → stop_of result ≡ stop_from recipe number feed (lines_after front piece)
