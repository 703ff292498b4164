-- What has to be kept of a feed so that its output can go on in a new process, with the same program or another version of it. These are
-- the rows of its inputs that the rest of the output reads (our own rule).
use Rattle.std.specs.Prelude.{ℤ, pos, ◌+ℤ◌, ◌-ℤ◌, List, length, map}
use Rattle.std.specs.Option.{unwrap_or}
use Rattle.tilt_core.specs.Core.{CoreParts}
use Rattle.tilt_core.specs.Needs.{reach}
use Rattle.tilt_feed.specs.Feed.{Feed, InputFeed}
use Rattle.tilt_feed.specs.Horizon.{output_domain}
use Rattle.tilt_feed.specs.Printed.{printed}
use Rattle.tilt_stream.specs.Pieces.{kept}
use Rattle.tilt_stream.specs.Snap.{Snapshot, last_end}

-- the tick from which the output goes on after some of its snapshots: the end of the last of them, or the start of the output domain
abbrev pub end_of : CoreParts → List Snapshot → ℤ
end_of core list = unwrap_or (last_end list) (output_domain core).start

-- the same after all that is printed
abbrev pub resume_tick : CoreParts → Feed → ℤ
resume_tick core feed = end_of core (printed core feed)

-- the first tick of the inputs that the output after a tick reads: the tick after that one, less the look-back
abbrev pub first_read : CoreParts → ℤ → ℤ
first_read core from = from +ℤ pos 1 -ℤ (reach (length core.inputs) core.defs).back

-- an input without the closed rows that end below a tick
abbrev pub left_input : ℤ → InputFeed → InputFeed
left_input first input = record { rows = kept first input.rows; edge = input.edge }

-- what is left of a feed if only the output after a tick is wanted
abbrev pub left_feed : CoreParts → ℤ → Feed → Feed
left_feed core from feed = record { inputs = map (left_input (first_read core from)) feed.inputs; finished = feed.finished }
