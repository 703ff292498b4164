-- How much an engine may keep was needed earlier.
use Rattle.std.proofs.Common.{◌≤◌, ◌+◌, ◌*◌, ℕ, max, [], ◌∷◌, ◌++◌, length, refl, sym, ap, ◌∙◌, arith}
use Rattle.std.proofs.Math.Nat.{le-max_left, le-max_right, max-le}
use Rattle.tilt_code.specs.Code.{CodeParts}
use Rattle.tilt_engine.proofs.Taking.{after_all-push}
use Rattle.tilt_engine.specs.Keeping.{HasJustForgotten}
use Rattle.tilt_engine.specs.Needed.{needed}
use Rattle.tilt_engine.specs.Rooms.{IsRoomOf}
use Rattle.tilt_feed.specs.Events.{after}
use Rattle.tilt_feed.specs.Feed.{Feed, empty_feed}
use Rattle.tilt_feed.specs.declared.event.Event.{Event}

-- before the first event
pub first-room : (code : CodeParts) → IsRoomOf code (empty_feed (length code.inputs)) 0 1024
first-room code = record {
  earlier = empty_feed (length code.inputs);
  events = [];
  follows = refl;
  given_then = 0;
  fewer = omega arith;
  most = le-max_left 1024 (2 * needed code (empty_feed (length code.inputs)) 0);
}

-- after one more event
pub room-after : (code : CodeParts) (feed : Feed) (given : ℕ) (event : Event) (room : ℕ) → IsRoomOf code feed given room → IsRoomOf code (after event feed) given room
room-after code feed given event room is = record {
  earlier = is.earlier;
  events = is.events ++ event ∷ [];
  follows = ap (after event) is.follows ∙ sym (after_all-push is.events event is.earlier);
  given_then = is.given_then;
  fewer = is.fewer;
  most = is.most;
}

-- once one more snapshot is given
pub room-given : (code : CodeParts) (feed : Feed) (given room : ℕ) → IsRoomOf code feed given room → IsRoomOf code feed (given + 1) room
room-given code feed given room is = record {
  earlier = is.earlier;
  events = is.events;
  follows = is.follows;
  given_then = is.given_then;
  fewer = let few = is.fewer in omega arith;
  most = is.most;
}

-- just after the engine has forgotten
pub room-then : (code : CodeParts) (feed : Feed) (given held room : ℕ) → HasJustForgotten code feed given held room → IsRoomOf code feed given room
room-then code feed given held room is = record {
  earlier = feed;
  events = [];
  follows = refl;
  given_then = given;
  fewer = omega arith;
  most =
      let few = is.at_most in
      let double : 2 * held ≤ 2 * needed code feed given = omega (arith, few) in
      let high = le-max_right 1024 (2 * needed code feed given) in
      let all : max 1024 (2 * held) ≤ max 1024 (2 * needed code feed given) = max-le (le-max_left 1024 (2 * needed code feed given)) (omega (arith, double, high)) in
      let own = is.room_is in
      omega (arith, own, all);
}
