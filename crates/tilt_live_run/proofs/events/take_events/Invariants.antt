use Rattle.std.proofs.Common.{◌≡◌, ℕ, ℤ, drop}
use Rattle.tilt_compiler.specs.Accepted.{AcceptedParts}
use Rattle.tilt_feed.specs.Events.{after_all}
use Rattle.tilt_feed.specs.Feed.{Feed}
use Rattle.tilt_live.specs.Lives.{IsLive, IsLiveOf, tick_of_live}
use Rattle.tilt_live_run.specs.KeptRows.{KeepsRows, has_rows}
use Rattle.tilt_live_run.proofs.events.take_events.Given as goal

abbrev pub invariant-loop-event : goal.invariant-loop-event
invariant-loop-event l = record {
  of : (accepted : AcceptedParts) (feed : Feed) (given : ℕ) → IsLiveOf l.fn.live accepted feed given
      → (now : Feed) × IsLiveOf l.live accepted now given × (after_all (drop l.event-index l.events) now ≡ after_all l.events feed);
  rows : (first : ℤ) (feed : Feed) → KeepsRows l.fn.rows first feed
      → (now : Feed) × KeepsRows l.rows first now × (after_all (drop l.event-index l.events) now ≡ after_all l.events feed);
  tick : tick_of_live l.live ≡ tick_of_live l.fn.live;
  keeps : has_rows l.rows ≡ has_rows l.fn.rows;
  live : IsLive l.fn.live → IsLive l.live;
}
