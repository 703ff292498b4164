-- The state of a live run as plain data: what a run hands on to the next one (our own rule).
use Rattle.std.specs.Prelude.{List, map}
use Rattle.tilt_feed.specs.Feed.{InputFeed}
use Rattle.tilt_feed.specs.declared.edge.Edge.{Edge}
use Rattle.tilt_feed.specs.declared.update.Update.{Update}
use Rattle.tilt_live_state.specs.declared.progress.Progress.{Progress}
use Rattle.tilt_stream.specs.Snap.{Snapshot}
use Rattle.tilt_syntax.specs.Tree.{StatementTree}
use Rattle.tilt_watermarks.specs.Held.{Waiting}
use Rattle.tilt_watermarks.specs.Steps.{Kept}

-- what is kept of an input: its closed rows, its edge after them, and the updates that its watermarks hold
pub record InputParts : Type 0 where
  pub rows : List Snapshot
  pub edge : Edge
  pub held : List Update

-- the query, how far the run is, and what is kept of each input
pub record LiveStateParts : Type 0 where
  pub query : List StatementTree
  pub progress : Progress
  pub inputs : List InputParts

-- of what is kept of an input, what its feed knows
abbrev pub feed_of : InputParts → InputFeed
feed_of input = record { rows = input.rows; edge = input.edge }

-- and what its watermarks keep
abbrev pub waiting_of : InputParts → Waiting
waiting_of input = record { edge = input.edge; held = input.held }

-- what the watermarks of a state keep
abbrev pub kept_of : LiveStateParts → Kept
kept_of s = record {
  inputs = map waiting_of s.inputs;
  finished = s.progress.finished;
  greatest = s.progress.greatest;
  latest = s.progress.latest;
}
