-- The run of a query as that of a feed.
use Rattle.std.specs.Prelude.{◌≡◌, ℕ, Bool, ◌&&◌, if◌then◌else◌, List, Option, None, Some, Result, Ok, Err}
use Rattle.tilt_compiler.specs.Accepted.{AcceptedParts}
use Rattle.tilt_core.specs.Core.{CoreParts}
use Rattle.tilt_live_run.specs.Runs.{IsPlaced, IsRunOf, added, end_report, is_stopped, is_unfinished, reported}
use Rattle.tilt_live_run.specs.declared.live_run.LiveRun.{LiveRun}
use Rattle.tilt_live_run.specs.declared.run_options.RunOptions.{RunOptions}
use Rattle.tilt_live_run.specs.declared.stop.Stop.{Stop}
use Rattle.tilt_live_run.specs.declared.stop.Stop.TheVariants as stops
use Rattle.tilt_serving.specs.Meaning.{FeedMeaning}
use Rattle.tilt_serving.specs.declared.stop.Stop as serving
use Rattle.tilt_serving.specs.declared.stop.Stop.TheVariants.{BadLine, OutOfMemory, WriteFault}

-- a stop by a bad line, if there is one
abbrev pub bad_line_if : Bool → Option serving.Stop
bad_line_if stopped = if stopped then Some BadLine else None

-- what the run of a query makes of its feed
abbrev pub live_meaning : CoreParts → RunOptions → FeedMeaning
live_meaning core options = record {
  added = added options core;
  reported = reported options core;
  stop = λ before piece. bad_line_if (is_stopped options core before piece);
  end_report = end_report options;
  end_stop = λ bytes. bad_line_if (options.strict && is_unfinished bytes);
}

-- what the compiler knows of a query, and what is asked of its run
pub record QueryRun : Type 0 where
  pub accepted : AcceptedParts
  pub options : RunOptions

-- it is that run after these bytes, and has counted them
pub record IsRunAt (run : LiveRun) (of : QueryRun) (bytes : List ℕ) : Type 0 where
  pub is : IsRunOf run of.accepted of.options bytes
  pub placed : IsPlaced run bytes

-- what a run does, as that of a feed does it
abbrev pub feed_stop : Stop → serving.Stop
feed_stop stops.BadLine = BadLine
feed_stop stops.WriteFault = WriteFault
feed_stop stops.OutOfMemory = OutOfMemory

abbrev pub feed_result : {T : Type 0} → Result T Stop → Result T serving.Stop
feed_result (Ok value) = Ok value
feed_result (Err why) = Err (feed_stop why)
