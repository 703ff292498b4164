-- What a run makes of its feed.
use Rattle.std.specs.Prelude.{◌≡◌, ℕ, List, [], ◌++◌, Option, None}
use Rattle.tilt_serving.specs.declared.stop.Stop.{Stop}

-- What is written and reported for the lines that end in a piece of a feed after other bytes, and why one of them stops the run, if one
-- does. What is reported if the feed ends after bytes, and why the run stops then, if it does
pub record FeedMeaning : Type 0 where
  pub added : List ℕ → List ℕ → List ℕ
  pub reported : List ℕ → List ℕ → List ℕ
  pub stop : List ℕ → List ℕ → Option Stop
  pub end_report : List ℕ → List ℕ
  pub end_stop : List ℕ → Option Stop

-- No bytes mean nothing, and it doesn't matter how a feed is cut into pieces. If no line of one piece stops the run, both pieces together mean
-- what the first one means and then the second one behind it
pub record GoesByBytes (means : FeedMeaning) : Type 0 where
  pub none_added : (before : List ℕ) → means.added before [] ≡ []
  pub none_reported : (before : List ℕ) → means.reported before [] ≡ []
  pub none_stops : (before : List ℕ) → means.stop before [] ≡ None
  pub more_added : (before piece more : List ℕ) → means.stop before piece ≡ None
      → means.added before (piece ++ more) ≡ means.added before piece ++ means.added (before ++ piece) more
  pub more_reported : (before piece more : List ℕ) → means.stop before piece ≡ None
      → means.reported before (piece ++ more) ≡ means.reported before piece ++ means.reported (before ++ piece) more
  pub more_stops : (before piece more : List ℕ) → means.stop before piece ≡ None
      → means.stop before (piece ++ more) ≡ means.stop (before ++ piece) more
