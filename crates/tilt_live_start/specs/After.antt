-- The output of a query after a tick, from what was kept of its inputs (our own rule).
use Rattle.std.specs.Prelude.{◌≡◌, ◌≤◌, ℕ, ℤ, ◌≤ℤ◌, ◌<ℤ◌, int_le, Bool, true, if◌then◌else◌, List, [], ◌∷◌, length, drop}
use Rattle.std.specs.Int.{int_max}
use Rattle.std.specs.List.{AllByRecursion}
use Rattle.tilt_code.specs.Code.{CodeParts}
use Rattle.tilt_core.specs.Core.{CoreParts}
use Rattle.tilt_engine.specs.AtRest.{run_at_rest}
use Rattle.tilt_engine.specs.Gone.{EndsBelow, with_gone}
use Rattle.tilt_feed.specs.Events.{after_all, event_fault}
use Rattle.tilt_feed.specs.Feed.{Feed, InputFeed}
use Rattle.tilt_feed.specs.Horizon.{horizon, output_domain}
use Rattle.tilt_feed.specs.Laws.{fed}
use Rattle.tilt_feed.specs.Printed.{printed}
use Rattle.tilt_feed.specs.Resting.{ended_by, whole}
use Rattle.tilt_feed.specs.declared.event.Event.{Event}
use Rattle.tilt_input_state.specs.Resume.{first_read}
use Rattle.tilt_stream.specs.Snap.{Snapshot}

-- the snapshots that end after a tick. The first of them starts at the tick, if it started below it
abbrev pub after_tick : ℤ → List Snapshot → List Snapshot
after_tick tick [] = []
after_tick tick (s ∷ ss) =
    if int_le s.end tick then after_tick tick ss
    else record { start = int_max tick s.start; end = s.end; value = s.value } ∷ ss

-- inputs as others are, except for some first rows of each, which end below a tick
pub record AreLeft (first : ℤ) (inputs left : List InputFeed) : Type 0 where
  pub gone : List (List Snapshot)
  pub is : inputs ≡ with_gone gone left
  pub below : AllByRecursion (λ rows. AllByRecursion (EndsBelow first) rows) gone

-- what was kept of a feed so that the output after a tick can be given. That is whether the feed is finished, and of each input the edge
-- and the rows, except for first ones that end below the first tick that this output reads. Nothing has to be left of a finished feed at
-- the end of the output domain. There all of the output is known
pub record IsLeftAt (core : CoreParts) (feed : Feed) (from : ℤ) (finished : Bool) (inputs : List InputFeed) : Type 0 where
  pub events : List Event
  pub feed_is : feed ≡ fed core events
  pub finished_is : finished ≡ feed.finished
  pub inputs_are : (feed.finished ≡ true → from <ℤ (output_domain core).end) → AreLeft (first_read core from) feed.inputs inputs
  pub known : (output_domain core).end ≤ℤ from → (output_domain core).end ≤ℤ horizon core feed

-- of a feed and of what is left of it, whatever events come: the same are allowed, and as much is known. After so many snapshots of its
-- run a code gives the whole output after a tick. What is known of it is what may be printed after that tick
pub record GoesOnAfter (core : CoreParts) (code : CodeParts) (from : ℤ) (feed left : Feed) (returned : ℕ) : Type 0 where
  pub allowed : (more : List Event) (event : Event) → event_fault (after_all more left) event ≡ event_fault (after_all more feed) event
  pub known : (more : List Event) → horizon core (after_all more left) ≡ horizon core (after_all more feed)
  pub rest : (more : List Event) → drop returned (run_at_rest code (after_all more left)) ≡ after_tick from (whole core (after_all more feed))
  pub ended : (more : List Event)
      → returned ≤ length (ended_by (horizon core (after_all more feed)) (run_at_rest code (after_all more left)))
  pub printed : (more : List Event)
      → drop returned (ended_by (horizon core (after_all more left)) (run_at_rest code (after_all more left)))
      ≡ after_tick from (printed core (after_all more feed))
