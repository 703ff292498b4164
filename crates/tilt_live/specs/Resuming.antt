-- How a live engine starts: from nothing, or from what was left of a feed (our own rule).
use Rattle.std.specs.Prelude.{◌≡◌, ℕ, ℤ, pos, ◌-ℤ◌, int_lt, Bool, true, false, if◌then◌else◌, List, [], ◌∷◌, length, map}
use Rattle.std.specs.Int.{int_min}
use Rattle.tilt_code.specs.Code.{CodeParts}
use Rattle.tilt_compiler.specs.Accepted.{AcceptedParts}
use Rattle.tilt_core.specs.Core.{CoreParts}
use Rattle.tilt_engine.specs.AtRest.{run_at_rest}
use Rattle.tilt_feed.specs.Events.{after_all}
use Rattle.tilt_feed.specs.Feed.{Feed, InputFeed}
use Rattle.tilt_feed.specs.Horizon.{horizon, output_domain}
use Rattle.tilt_feed.specs.Laws.{fed}
use Rattle.tilt_feed.specs.Resting.{ended_by}
use Rattle.tilt_feed.specs.declared.event.Event.{Event}
use Rattle.tilt_feed.specs.declared.event.Event.TheVariants.{Finish}
use Rattle.tilt_input_state.specs.Resume.{first_read, left_input, resume_tick}
use Rattle.tilt_live.specs.Lives.{IsCodeFrom, IsRunning}
use Rattle.tilt_live.specs.declared.live.Live.{Live}

-- what was kept of a feed so that its output goes on. That is the tick after which it does, whether the feed is finished, and what is left
-- of each input. Nothing has to be left of a finished feed
pub record IsLeft (core : CoreParts) (feed : Feed) (from : ℤ) (finished : Bool) (inputs : List InputFeed) : Type 0 where
  pub events : List Event
  pub feed_is : feed ≡ fed core events
  pub from_is : from ≡ resume_tick core feed
  pub finished_is : finished ≡ feed.finished
  pub inputs_are : feed.finished ≡ false → inputs ≡ map (left_input (first_read core from)) feed.inputs

-- the event that ends a feed, if it is finished
abbrev pub end_events : Bool → List Event
end_events false = []
end_events true = Finish ∷ []

-- the feed of inputs of which this is known, finished or not
abbrev pub known_feed : Bool → List InputFeed → Feed
known_feed finished inputs = after_all (end_events finished) (record { inputs = inputs; finished = false })

-- the tick after which the code of a live engine gives snapshots, if its output goes on from a tick. It is that tick, or the last tick but
-- one if nothing comes after it, since no code is for no ticks
abbrev pub start_of : CoreParts → ℤ → ℤ
start_of core from = int_min from ((output_domain core).end -ℤ pos 1)

-- how many snapshots of the run were returned before the output goes on: none, or the last one if nothing comes after it and it is known
abbrev pub returned_before : CoreParts → CodeParts → ℤ → Feed → ℕ
returned_before core code from left =
    if int_lt from (output_domain core).end then 0 else length (ended_by (horizon core left) (run_at_rest code left))

-- a live engine whose output goes on from a tick, and which knows this of its inputs
pub record IsStarted (live : Live) (accepted : AcceptedParts) (from : ℤ) (left : Feed) : Type 0 where
  pub code : CodeParts
  pub code_is : IsCodeFrom accepted.core accepted.fuse (start_of accepted.core from) code
  pub running : IsRunning live accepted code left (returned_before accepted.core code from left)
  pub upto : live.upto ≡ from
