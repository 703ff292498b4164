-- Which run is one beside which another run takes the same feed, and its rows are counted.
use Rattle.std.specs.Prelude.{◌≡◌, ℕ, List, [], ◌++◌, None}
use Rattle.tilt_counting.specs.Count.{line_count}
use Rattle.tilt_counting.specs.Counted.{counted_meaning}
use Rattle.tilt_counting.specs.declared.counting_run.CountingRun.{CountingRun}
use Rattle.tilt_outside.specs.Counts.{added_count}
use Rattle.tilt_serving.specs.Meaning.{FeedMeaning, GoesByBytes}

-- what the run is of, what the other run is of, and the text with which that one began
pub record Counted (R W : Type 0) : Type 0 where
  pub run : R
  pub watch : W
  pub head : List ℕ

-- what runs of these kinds make of their feeds
abbrev pub meaning_of : {R W : Type 0} → (R → FeedMeaning) → (W → FeedMeaning) → Counted R W → FeedMeaning
meaning_of run_means watch_means of = counted_meaning (run_means of.run) (watch_means of.watch) of.head

-- both runs are those after these bytes of the feed, and the lines of the other one were counted. None of the bytes stopped it
pub record IsCounting {Run Watch R W : Type 0} (is_run : Run → R → List ℕ → Type 0) (is_watch : Watch → W → List ℕ → Type 0)
    (run_means : R → FeedMeaning) (watch_means : W → FeedMeaning) (counting : CountingRun Run Watch) (of : Counted R W) (bytes : List ℕ) : Type 0 where
  pub run : is_run counting.run of.run bytes
  pub watch : is_watch counting.watch of.watch bytes
  pub lines : counting.lines ≡ added_count 0 (line_count (of.head ++ (watch_means of.watch).added [] bytes))
  pub unstopped : (watch_means of.watch).stop [] bytes ≡ None
  pub joined : GoesByBytes (watch_means of.watch)
