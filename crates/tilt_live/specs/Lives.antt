-- Which live engine is one of a feed (our own rule).
use Rattle.std.specs.Prelude.{◌≡◌, ◌≤◌, ◌⊎◌, ℕ, ℤ, Bool, true, false, List, length, take, drop, Ok, Option, Some, None}
use Rattle.std.specs.Option.{ForSome}
use Rattle.tilt_bounds.specs.Margins.{MarginsParts, margins_of}
use Rattle.tilt_code.specs.Code.{CodeParts}
use Rattle.tilt_code.specs.Run.{run_of}
use Rattle.tilt_compiler.specs.Accepted.{AcceptedParts, IsAccepted}
use Rattle.tilt_compiler.specs.Compiled.{given}
use Rattle.tilt_core.specs.Core.{CoreParts}
use Rattle.tilt_engine.specs.AtRest.{run_at_rest}
use Rattle.tilt_engine.specs.Engines.{IsEngineOf, held_by, room_of}
use Rattle.tilt_feed.specs.Events.{after_all, event_fault}
use Rattle.tilt_feed.specs.Feed.{Feed}
use Rattle.tilt_feed.specs.Horizon.{horizon, output_domain}
use Rattle.tilt_feed.specs.Laws.{fed}
use Rattle.tilt_feed.specs.Printed.{printed}
use Rattle.tilt_feed.specs.Resting.{ended_by, whole}
use Rattle.tilt_feed.specs.declared.event.Event.{Event}
use Rattle.tilt_fuse.specs.Plan.{plan_of}
use Rattle.tilt_input_state.specs.Resume.{end_of}
use Rattle.tilt_live.specs.declared.live.Live.{Live}
use Rattle.tilt_lower.specs.Lowering.{code_of}
use Rattle.tilt_stream.specs.Snap.{Snapshot}

-- the code of a query for its output after a tick, with fusion or without: its run is what the query gives there, whatever the rows are
pub record IsCodeFrom (core : CoreParts) (fuse : Bool) (start : ℤ) (code : CodeParts) : Type 0 where
  pub margins : MarginsParts
  pub near : margins_of core ≡ Ok margins
  pub is : code ≡ code_of (plan_of core fuse) core margins start (output_domain core).end
  pub means : (rows : List (List Snapshot)) → length rows ≡ length core.inputs
      → run_of code rows ≡ given core rows start (output_domain core).end

-- the horizon that is kept, if one is, is that of the feed
abbrev pub KeepsHorizon : Live → CoreParts → Feed → Type 0
KeepsHorizon live core feed = ForSome live.known (λ tick. tick ≡ horizon core feed)

-- a live engine to which no memory was refused. It runs a code of its query on what is left of a feed, and has returned this number of
-- snapshots of that run
pub record IsRunning (live : Live) (accepted : AcceptedParts) (code : CodeParts) (left : Feed) (returned : ℕ) : Type 0 where
  pub accepted_is : live.accepted ≡ accepted
  pub valid : IsAccepted accepted
  pub start : ℤ
  pub code_is : IsCodeFrom accepted.core accepted.fuse start code
  pub many : length left.inputs ≡ length accepted.core.inputs
  pub runs : IsEngineOf live.engine code left returned
  pub sound : live.refused ≡ false
  pub known : KeepsHorizon live accepted.core left

-- of a feed and of what is left of it, whatever events come: the same are allowed, and as much is known. After so many snapshots of the whole
-- output comes what the code gives after so many of its run, and those of its run are known
pub record GoesOn (core : CoreParts) (code : CodeParts) (feed left : Feed) (given returned : ℕ) : Type 0 where
  pub allowed : (more : List Event) (event : Event) → event_fault (after_all more left) event ≡ event_fault (after_all more feed) event
  pub known : (more : List Event) → horizon core (after_all more left) ≡ horizon core (after_all more feed)
  pub rest : (more : List Event)
      → drop returned (run_at_rest code (after_all more left)) ≡ drop given (whole core (after_all more feed))
  pub ended : (more : List Event)
      → returned ≤ length (ended_by (horizon core (after_all more feed)) (run_at_rest code (after_all more left)))

-- the live engine of an accepted query, after a feed, that has returned this number of the snapshots that may be printed. It runs a code
-- that goes on from there
pub record IsLiveOf (live : Live) (accepted : AcceptedParts) (feed : Feed) (given : ℕ) : Type 0 where
  pub events : List Event
  pub feed_is : feed ≡ fed accepted.core events
  pub code : CodeParts
  pub left : Feed
  pub returned : ℕ
  pub running : IsRunning live accepted code left returned
  pub goes_on : GoesOn accepted.core code feed left given returned
  pub within : given ≤ length (printed accepted.core feed)
  pub upto : live.upto ≡ end_of accepted.core (take given (printed accepted.core feed))

-- a live engine to which memory was refused while it looked for what comes next
abbrev pub IsRefusedLive : Live → Type 0
IsRefusedLive live = live.refused ≡ true

-- a live engine that runs a code of some query, or one to which memory was refused
abbrev pub IsLive : Live → Type 0
IsLive live =
    IsRefusedLive live
    ⊎ ((accepted : AcceptedParts) × (code : CodeParts) × (left : Feed) × (returned : ℕ) × IsRunning live accepted code left returned)

-- how many rows and snapshots a live engine keeps
abbrev pub held_by_live : Live → ℕ
held_by_live live = held_by live.engine

-- how much a live engine may keep before it forgets
abbrev pub room_of_live : Live → ℕ
room_of_live live = room_of live.engine

-- the end of the last snapshot that it returned, or the tick from which its output goes on
abbrev pub tick_of_live : Live → ℤ
tick_of_live live = live.upto

-- the same after its next snapshot, if there is one
abbrev pub tick_after : ℤ → Option Snapshot → ℤ
tick_after tick None = tick
tick_after tick (Some s) = s.end
