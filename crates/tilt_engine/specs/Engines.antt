-- Which engine is one of a feed (our own rule).
use Rattle.std.specs.Prelude.{◌≡◌, ◌≢◌, ◌≤◌, ◌⊎◌, ℕ, ◌+◌, ◌-◌, ℤ, pos, ◌+ℤ◌, Bool, true, false, List, length, map, slice_get, Option, Some, None, Result, Ok, Err}
use Rattle.std.specs.List.{AllByRecursion}
use Rattle.tilt_code.specs.Code.{CodeParts}
use Rattle.tilt_engine.specs.AtRest.{horizons_of, last_horizon, run_at_rest}
use Rattle.tilt_engine.specs.Forgetting.{kept_lists}
use Rattle.tilt_engine.specs.GoingOn.{IsNearCode}
use Rattle.tilt_engine.specs.Gone.{whole_feed, with_gone}
use Rattle.tilt_engine.specs.Rooms.{IsRoomOf}
use Rattle.tilt_engine.specs.Standing.{AreLoops, gone_at}
use Rattle.tilt_engine.specs.Stock.{InletParts, finished_inlet, resting_inlet}
use Rattle.tilt_engine.specs.declared.engine.Engine.{Engine}
use Rattle.tilt_engine.specs.declared.fault.TakeError.{TakeError}
use Rattle.tilt_engine.specs.declared.fault.TakeError.TheVariants.{Fault, OutOfMemory}
use Rattle.tilt_engine.specs.declared.status.Status.TheVariants.{Current, Refused}
use Rattle.tilt_feed.specs.Events.{after, after_all, event_fault, finished_input}
use Rattle.tilt_feed.specs.Feed.{Feed, InputFeed}
use Rattle.tilt_feed.specs.Horizon.{IsKnownAt}
use Rattle.tilt_feed.specs.Laws.{IsInOrder}
use Rattle.tilt_feed.specs.Printed.{Begun}
use Rattle.tilt_feed.specs.Resting.{all_resting}
use Rattle.tilt_feed.specs.declared.event.Event.{Event}
use Rattle.tilt_feed.specs.declared.event.Event.TheVariants.{Input, Finish}
use Rattle.tilt_pipe.specs.Rings.{held}
use Rattle.tilt_stream.specs.Snap.{Snapshot}

-- the inputs of a feed as an engine keeps them: in a finished one, as they were before it was finished
abbrev pub AreInlets : Bool → List InputFeed → List InletParts → Type 0
AreInlets false inputs inlets = inlets ≡ map resting_inlet inputs
AreInlets true inputs inlets = (before : List InputFeed) × (inputs ≡ map finished_input before) × (inlets ≡ map finished_inlet before)

-- how many closed rows of inputs and settled snapshots of loops an engine keeps
abbrev pub held_by : Engine → ℕ
held_by engine = held (kept_lists engine.stock.inputs.items engine.stock.loops.items)

-- an engine that runs a code, after a feed, and has returned `given` snapshots: of each of its buffers the first ones have gone. Its loops
-- are where they were after an earlier feed, from which this one follows by some events. It may keep any number of snapshots
pub record IsEngineAt (engine : Engine) (code : CodeParts) (feed : Feed) (given : ℕ) : Type 0 where
  pub code_is : engine.code ≡ code
  pub near : IsNearCode code
  pub gone : List (List Snapshot)
  pub left : Feed
  pub feed_is : feed ≡ whole_feed gone left
  pub given_is : length (gone_at code gone (length code.loops - 1)) + engine.given ≡ given
  pub finished_is : engine.finished ≡ left.finished
  pub inlets : AreInlets left.finished left.inputs engine.stock.inputs.items
  pub many : length left.inputs ≡ length code.inputs
  pub before : Feed
  pub events : List Event
  pub follows : left ≡ after_all events before
  pub order : AllByRecursion IsInOrder before.inputs
  pub whole_order : AllByRecursion IsInOrder (with_gone gone before.inputs)
  pub upto : ℕ
  pub loops : AreLoops code (all_resting (whole_feed gone before)) gone (horizons_of (whole_feed gone before))
      engine.stock.loops.items engine.states.items upto
  pub current : engine.status ≡ Current → (before ≡ left) × (upto ≡ length code.loops)
  pub sound : engine.status ≢ Refused

-- how much an engine may keep before it forgets
abbrev pub room_of : Engine → ℕ
room_of engine = engine.limit

-- the same of an engine that keeps no more than there is room for once its loops have made all that is known
pub record IsEngineOf (engine : Engine) (code : CodeParts) (feed : Feed) (given : ℕ) : Type 0 where
  pub at : IsEngineAt engine code feed given
  pub few : engine.status ≡ Current → held_by engine ≤ room_of engine
  pub room : IsRoomOf code feed given (room_of engine)

-- an engine whose loops were refused memory
abbrev pub IsRefused : Engine → Type 0
IsRefused engine = engine.status ≡ Refused

-- what an engine says of an event, and what it is of then
abbrev pub HasTaken : Result (Unit {0}) TakeError → Event → Feed → (Feed → Type 0) → Type 0
HasTaken (Ok _) event feed Is = (event_fault feed event ≡ None) × Is (after event feed)
HasTaken (Err (Fault fault)) event feed Is = (event_fault feed event ≡ Some fault) × Is feed
HasTaken (Err OutOfMemory) event feed Is = (event_fault feed event ≡ None) × Is feed

-- how many snapshots were given after a call
abbrev pub given_after : ℕ → Option Snapshot → ℕ
given_after given None = given
given_after given (Some s) = given + 1

-- an engine of some feed, or one whose loops were refused memory
abbrev pub IsEngine : Engine → Type 0
IsEngine engine =
    IsRefused engine ⊎ ((code : CodeParts) × (feed : Feed) × (given : ℕ) × IsEngineOf engine code feed given)

-- the loops of an engine have made all that is known
abbrev pub IsCurrent : Engine → Type 0
IsCurrent engine = engine.status ≡ Current

-- the snapshot of a run after those that were given, if its first tick is known
abbrev pub IsNextOf : CodeParts → Feed → ℕ → Option Snapshot → Type 0
IsNextOf code feed given None =
    (s : Snapshot) → slice_get (run_at_rest code feed) given ≡ Some s → IsKnownAt (last_horizon code feed) (s.start +ℤ pos 1) → ⊥
IsNextOf code feed given (Some s) = slice_get (run_at_rest code feed) given ≡ Some s

-- what has begun, as a pair
abbrev pub begun_pair : Option Begun → Option (ℤ × Option ℤ)
begun_pair None = None
begun_pair (Some b) = Some (b.start, b.value)

-- whether a feed is finished by an event
abbrev pub finishes : Event → Bool
finishes (Input number update) = false
finishes Finish = true
