-- What sessions have seen, as a feed (our own rule). An input is known up to its cut, or up to the end of its last row if that is later.
use Rattle.std.specs.Prelude.{ℤ, int_lt, false, if◌then◌else◌, List, [], ◌∷◌, Option, None}
use Rattle.std.specs.Int.{int_max}
use Rattle.std.specs.Option.{unwrap_or}
use Rattle.tilt_checkpoint.specs.Checkpoint.{KeptParts}
use Rattle.tilt_checkpoint.specs.Cuts.{CutsParts}
use Rattle.tilt_checkpoint.specs.Decided.{decided}
use Rattle.tilt_checkpoint.specs.declared.frame.Frame.{Frame}
use Rattle.tilt_feed.specs.Feed.{Feed, InputFeed}
use Rattle.tilt_session.specs.Later.{resumed_at}
use Rattle.tilt_stream.specs.Snap.{Snapshot, last_end}

-- the watermark of an input with this cut, of which the last row ends there
abbrev pub seen_upto : ℤ → Option ℤ → ℤ
seen_upto cut last = int_max cut (unwrap_or last cut)

-- an input of which these rows were seen up to a cut
abbrev pub seen_input : ℤ → List Snapshot → InputFeed
seen_input cut rows = record { rows = rows; edge = record { open_row = None; watermark = seen_upto cut (last_end rows) } }

-- the same of each input
abbrev pub seen_inputs : List ℤ → List (List Snapshot) → List InputFeed
seen_inputs [] rows = []
seen_inputs (cut ∷ cuts) [] = []
seen_inputs (cut ∷ cuts) (rows ∷ more) = seen_input cut rows ∷ seen_inputs cuts more

-- the feed of inputs of which these rows were seen up to these cuts
abbrev pub seen_feed : CutsParts → List (List Snapshot) → Feed
seen_feed cuts rows = record { inputs = seen_inputs cuts.each rows; finished = false }

-- what is known of an input from what a checkpoint keeps of it
abbrev pub kept_input : KeptParts → InputFeed
kept_input kept = record { rows = kept.rows; edge = record { open_row = None; watermark = seen_upto kept.cut kept.last_end } }

-- the tick after which the output goes on from a checkpoint: the one before the tick that was decided last. So the snapshot that is open
-- there comes first. If all of the output was decided, it is the end of the output domain
abbrev pub tick_from : Frame → ℤ → ℤ
tick_from frame cut = if int_lt (decided frame cut) frame.end then resumed_at frame cut else frame.end
