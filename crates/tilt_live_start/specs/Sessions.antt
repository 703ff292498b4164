-- Which live session is one of a feed (our own rule).
use Rattle.std.specs.Prelude.{◌≡◌, ◌≤◌, ℕ, ℤ, ◌≤ℤ◌, ◌<ℤ◌, List, [], ◌∷◌, length, take, drop, Option, Some, None, IfNone, ⊤}
use Rattle.std.specs.Int.{int_min}
use Rattle.tilt_code.specs.Code.{CodeParts}
use Rattle.tilt_compiler.specs.Accepted.{AcceptedParts}
use Rattle.tilt_core.specs.Core.{CoreParts}
use Rattle.tilt_engine.specs.AtRest.{run_at_rest}
use Rattle.tilt_feed.specs.Events.{after_all, event_fault}
use Rattle.tilt_feed.specs.Feed.{Feed}
use Rattle.tilt_feed.specs.Horizon.{horizon}
use Rattle.tilt_feed.specs.Laws.{fed}
use Rattle.tilt_feed.specs.Printed.{printed}
use Rattle.tilt_feed.specs.Resting.{ended_by, whole}
use Rattle.tilt_feed.specs.declared.event.Event.{Event}
use Rattle.tilt_input_state.specs.Resume.{end_of}
use Rattle.tilt_live.specs.Lives.{IsLive, IsRefusedLive, IsRunning, tick_of_live}
use Rattle.tilt_live_start.specs.declared.live_session.LiveSession.{LiveSession}
use Rattle.tilt_stream.specs.Pieces.{joined_from}
use Rattle.tilt_stream.specs.Snap.{Snapshot}

-- a start that is earlier, if a snapshot is open that began earlier
abbrev pub opened_at : Option ℤ → ℤ → ℤ
opened_at None start = start
opened_at (Some open_start) start = int_min open_start start

-- if a snapshot is open, it began no later than the first of others does, which starts below a tick
abbrev pub HasBegunBelow : ℤ → Option ℤ → List Snapshot → Type 0
HasBegunBelow tick None list = ⊤
HasBegunBelow tick (Some open_start) [] = ⊤
HasBegunBelow tick (Some open_start) (s ∷ ss) = (open_start ≤ℤ s.start) × (s.start <ℤ tick)

-- of a feed and of what is left of it, whatever events come: the same are allowed, and as much is known. After so many snapshots of the
-- whole output comes what a code gives after so many of its run. If a snapshot is open, the first of these goes on from where it began
pub record GoesOnFrom (core : CoreParts) (code : CodeParts) (opened : Option ℤ) (feed left : Feed) (given returned : ℕ) : Type 0 where
  pub allowed : (more : List Event) (event : Event) → event_fault (after_all more left) event ≡ event_fault (after_all more feed) event
  pub known : (more : List Event) → horizon core (after_all more left) ≡ horizon core (after_all more feed)
  pub rest : (more : List Event)
      → joined_from opened (drop returned (run_at_rest code (after_all more left))) ≡ drop given (whole core (after_all more feed))
  pub ended : (more : List Event)
      → returned ≤ length (ended_by (horizon core (after_all more feed)) (run_at_rest code (after_all more left)))
  pub begun : (more : List Event)
      → HasBegunBelow (horizon core (after_all more feed)) opened (drop returned (run_at_rest code (after_all more left)))

-- the live session of an accepted query, after a feed. Of the snapshots that may be printed this number was printed, by the sessions before
-- it and by it
pub record IsLiveSessionOf (session : LiveSession) (accepted : AcceptedParts) (feed : Feed) (given : ℕ) : Type 0 where
  pub events : List Event
  pub feed_is : feed ≡ fed accepted.core events
  pub code : CodeParts
  pub left : Feed
  pub returned : ℕ
  pub running : IsRunning session.live accepted code left returned
  pub goes_on : GoesOnFrom accepted.core code session.open_start feed left given returned
  pub within : given ≤ length (printed accepted.core feed)
  pub upto : IfNone session.open_start (tick_of_live session.live ≡ end_of accepted.core (take given (printed accepted.core feed)))

-- the start of the snapshot that was open at the checkpoint, until that snapshot is returned
abbrev pub open_of : LiveSession → Option ℤ
open_of session = session.open_start

-- the same after its next snapshot, if there is one
abbrev pub open_after : Option ℤ → Option Snapshot → Option ℤ
open_after opened None = opened
open_after opened (Some s) = None

-- a live session that runs, or one to which memory was refused
abbrev pub IsLiveSession : LiveSession → Type 0
IsLiveSession session = IsLive session.live

-- a live session to which memory was refused while it looked for what comes next
abbrev pub IsRefusedSession : LiveSession → Type 0
IsRefusedSession session = IsRefusedLive session.live
