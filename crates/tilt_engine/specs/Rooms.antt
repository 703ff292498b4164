-- How much an engine may keep before it forgets (our own rule).
use Rattle.std.specs.Prelude.{◌≡◌, ◌≤◌, ◌*◌, ℕ, List, max}
use Rattle.tilt_code.specs.Code.{CodeParts}
use Rattle.tilt_engine.specs.Needed.{needed}
use Rattle.tilt_engine.specs.declared.engine.TheConstants.{FEW}
use Rattle.tilt_feed.specs.Events.{after_all}
use Rattle.tilt_feed.specs.Feed.{Feed}
use Rattle.tilt_feed.specs.declared.event.Event.{Event}

-- at most a few, or twice what was needed earlier: after a feed from which this one follows by some events, when no more snapshots were
-- given than now
pub record IsRoomOf (code : CodeParts) (feed : Feed) (given room : ℕ) : Type 0 where
  pub earlier : Feed
  pub events : List Event
  pub follows : feed ≡ after_all events earlier
  pub given_then : ℕ
  pub fewer : given_then ≤ given
  pub most : room ≤ max FEW (2 * needed code earlier given_then)
