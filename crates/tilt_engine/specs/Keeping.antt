-- How much an engine keeps (our own rule).
use Rattle.std.specs.Prelude.{◌≡◌, ◌⊎◌, ◌≤◌, ◌*◌, ℕ, max, false}
use Rattle.tilt_code.specs.Code.{CodeParts}
use Rattle.tilt_engine.specs.Needed.{needed}
use Rattle.tilt_engine.specs.Rooms.{IsRoomOf}
use Rattle.tilt_engine.specs.declared.engine.TheConstants.{FEW}
use Rattle.tilt_feed.specs.Feed.{Feed}

-- how much is kept, and how much may be, just after an engine has forgotten. It keeps what is needed, and may keep twice as much, or a few,
-- before it forgets again. If finishing the feed ended the last row of an input, that one isn't counted among those that are kept
pub record HasJustForgotten (code : CodeParts) (feed : Feed) (given : ℕ) (held room : ℕ) : Type 0 where
  pub at_most : held ≤ needed code feed given
  pub exactly : feed.finished ≡ false → held ≡ needed code feed given
  pub room_is : room ≤ max FEW (2 * held)

-- so much is kept after a call, and so much may be: there is room for it, which is at most twice what was needed earlier, or a few. The
-- room is what it was before the call, or the engine has just forgotten
pub record KeepsFew (code : CodeParts) (feed : Feed) (given : ℕ) (room_before held room : ℕ) : Type 0 where
  pub within : held ≤ room
  pub room_is : (room ≡ room_before) ⊎ HasJustForgotten code feed given held room
  pub most : IsRoomOf code feed given room
