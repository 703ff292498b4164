-- What is printed of a query up to the end of a session (our own rule). The rows are one list for each input.
use Rattle.std.specs.Prelude.{ℤ, if◌then◌else◌, List, Option, None, int_lt}
use Rattle.tilt_stream.specs.Snap.{Snapshot}
use Rattle.tilt_compiler.specs.Compiled.{given}
use Rattle.tilt_core.specs.Core.{CoreParts}
use Rattle.tilt_checkpoint.specs.Decided.{frame_of}
use Rattle.tilt_checkpoint.specs.declared.frame.Frame.{Frame}
use Rattle.tilt_session.specs.Cuts.{decided_by}
use Rattle.tilt_stream.specs.Pieces.{without_last, last_start}
use Rattle.tilt_session.specs.declared.cut.Cut.{Cut}

-- of snapshots up to a tick, those whose end is known: all of them at the end of the output, and before it all but the last one
abbrev pub closed : Frame → ℤ → List Snapshot → List Snapshot
closed frame last list = if int_lt last frame.end then without_last list else list

-- the start of the one whose end isn't known
abbrev pub open_start : Frame → ℤ → List Snapshot → Option ℤ
open_start frame last list = if int_lt last frame.end then last_start list else None

-- what is printed up to the end of a session: of the snapshots of what is decided, those whose end is known; none where nothing is decided
abbrev pub emitted : CoreParts → List (List Snapshot) → Cut → List Snapshot
emitted core rows cut =
    let frame = frame_of core in
    let last = decided_by frame cut in
    closed frame last (given core rows frame.start last)

-- the start of the snapshot that has begun then, and isn't printed
abbrev pub open_at : CoreParts → List (List Snapshot) → Cut → Option ℤ
open_at core rows cut =
    let frame = frame_of core in
    let last = decided_by frame cut in
    open_start frame last (given core rows frame.start last)
