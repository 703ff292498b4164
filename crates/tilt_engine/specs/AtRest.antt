-- The run of a code on the rows of a feed at rest (our own rule).
use Rattle.std.specs.Prelude.{◌-◌, List, length, map}
use Rattle.tilt_code.specs.Code.{CodeParts}
use Rattle.tilt_code.specs.Run.{run_of}
use Rattle.tilt_engine.specs.Standing.{loop_at}
use Rattle.tilt_feed.specs.Feed.{Feed}
use Rattle.tilt_feed.specs.Horizon.{Horizon, input_horizon}
use Rattle.tilt_feed.specs.Resting.{all_resting}
use Rattle.tilt_stream.specs.Snap.{Snapshot}

-- up to where each input of a feed is known
abbrev pub horizons_of : Feed → List Horizon
horizons_of feed = map (λ input. input_horizon feed.finished input.edge) feed.inputs

-- the run of a code on the rows of a feed at rest
abbrev pub run_at_rest : CodeParts → Feed → List Snapshot
run_at_rest code feed = run_of code (all_resting feed)

-- the horizon of a code's last loop
abbrev pub last_horizon : CodeParts → Feed → Horizon
last_horizon code feed = loop_at code (horizons_of feed) (length code.loops - 1)
