-- What of the output is known, what may be printed of it, and what has begun (our own rule).
use Rattle.std.specs.Prelude.{ℕ, ℤ, pos, ◌+ℤ◌, Bool, ◌||◌, if◌then◌else◌, List, [], ◌∷◌, Option, Some, None}
use Rattle.std.specs.Ordering.{int_eq}
use Rattle.tilt_core.specs.Core.{CoreParts, emitted_number}
use Rattle.tilt_core.specs.Meaning.{meaning}
use Rattle.tilt_feed.specs.Feed.{Feed, all_rows_now}
use Rattle.tilt_feed.specs.Horizon.{output_domain, horizon}
use Rattle.tilt_feed.specs.Sure.{is_sure}
use Rattle.tilt_stream.specs.Pieces.{without_last}
use Rattle.tilt_stream.specs.Snap.{Snapshot}
use Rattle.tilt_stream.specs.Snapshots.{snapshots}
use Rattle.tilt_stream.specs.Stream.{Stream}

-- a snapshot that has begun: its start and its value are final, its end isn't known
pub record Begun : Type 0 where
  pub start : ℤ
  pub value : Option ℤ

-- what the last one of snapshots begins with
abbrev pub last_begun : List Snapshot → Option Begun
last_begun [] = None
last_begun (s ∷ []) = Some (record { start = s.start; value = s.value })
last_begun (s ∷ next ∷ ss) = last_begun (next ∷ ss)

-- what a source means on the rows as they are now
abbrev pub meaning_now : CoreParts → Feed → ℕ → Stream
meaning_now core feed source = meaning (all_rows_now feed) core.defs source

-- the snapshots of the output up to the horizon; none if it isn't above the start of the output domain
abbrev pub known_snapshots : CoreParts → Feed → List Snapshot
known_snapshots core feed = snapshots (meaning_now core feed (emitted_number core)) (output_domain core).start (horizon core feed)

-- whether the last of them ends at the horizon: the output ends there, or the mark after it is sure
abbrev pub is_closed : CoreParts → Feed → Bool
is_closed core feed =
    int_eq (horizon core feed) (output_domain core).end || is_sure core feed (emitted_number core) (horizon core feed +ℤ pos 1)

-- of snapshots, all, or all but the last one
abbrev pub closed_of : Bool → List Snapshot → List Snapshot
closed_of all list = if all then list else without_last list

-- what may be printed: all of them if the last one ends at the horizon, otherwise all but the last
abbrev pub printed : CoreParts → Feed → List Snapshot
printed core feed = closed_of (is_closed core feed) (known_snapshots core feed)

-- of snapshots, the start and the value of the last one, unless all are printed
abbrev pub begun_of : Bool → List Snapshot → Option Begun
begun_of all list = if all then None else last_begun list

-- what has begun: in the second case the start and the value of that last one
abbrev pub begun : CoreParts → Feed → Option Begun
begun core feed = begun_of (is_closed core feed) (known_snapshots core feed)
