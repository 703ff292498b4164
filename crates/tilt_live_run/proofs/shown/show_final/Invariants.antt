use Rattle.std.proofs.Common.{ℕ}
use Rattle.tilt_compiler.specs.Accepted.{AcceptedParts}
use Rattle.tilt_feed.specs.Feed.{Feed}
use Rattle.tilt_feed.specs.Printed.{printed}
use Rattle.tilt_live.specs.Lives.{IsLive, IsLiveOf}
use Rattle.tilt_live_run.proofs.Showing.{IsShown}
use Rattle.tilt_live_run.proofs.shown.show_final.Given as goal

abbrev pub invariant-loop : goal.invariant-loop
invariant-loop g l = record {
  live : IsLive l.live;
  of : (accepted : AcceptedParts) (feed : Feed) (given : ℕ) → IsLiveOf l.fn.live accepted feed given
      → (place : ℕ) × IsLiveOf l.live accepted feed place
      × IsShown g.P.Port.tells l.fn.style (g.P.Port.transcript l.fn.port) (g.P.Port.transcript l.port) (printed accepted.core feed) given place;
}
