-- Which engines go on.
use Rattle.tilt_live.specs.Lives.{IsLive}
use Rattle.tilt_live_start.specs.Sessions.{IsLiveSession}
use Rattle.tilt_run_feeds.specs.declared.engine.Engine.{Engine}
use Rattle.tilt_run_feeds.specs.declared.engine.Engine.TheVariants.{Live, Session}

-- an engine that goes on, or to which memory was refused
abbrev pub IsEngine : Engine → Type 0
IsEngine (Live live) = IsLive live
IsEngine (Session session) = IsLiveSession session
