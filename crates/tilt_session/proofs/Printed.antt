-- What is printed is a list of snapshots.
use Rattle.std.proofs.Common.{◌≡◌, ℤ, true, false, List, arith}
use Rattle.std.specs.Prelude.{int_lt}
use Rattle.std.proofs.lemmas.Int.{ints, by_lt_z}
use Rattle.tilt_stream.proofs.Pieces.{AreSnapshots-without_last}
use Rattle.tilt_checkpoint.specs.Decided.{IsFrame, frame_of}
use Rattle.tilt_checkpoint.specs.declared.frame.Frame.{Frame}
use Rattle.tilt_stream.proofs.Filling.{snapshots-Fill, Fill-AreSnapshots}
use Rattle.tilt_stream.proofs.Cut.{snapshots-none}
use Rattle.tilt_stream.specs.Snap.{Snapshot, AreSnapshots}
use Rattle.tilt_core.specs.Core.{CoreParts, emitted_number}
use Rattle.tilt_core.specs.Meaning.{meaning}
use Rattle.tilt_session.proofs.OneCut.{decided-most}
use Rattle.tilt_session.specs.Cuts.{decided_by}
use Rattle.tilt_session.specs.Emitted.{closed, emitted}
use Rattle.tilt_compiler.specs.Compiled.{given}
use Rattle.tilt_session.specs.declared.cut.Cut.{Cut}

AreSnapshots-closed : (frame : Frame) (last : ℤ) (list : List Snapshot) → AreSnapshots list → AreSnapshots (closed frame last list)
AreSnapshots-closed frame last list h =
    by_lt_z last frame.end
    (λ before.
    let test : int_lt last frame.end ≡ true = grind (arith, ints) in
    rw test (AreSnapshots-without_last list h))
    (λ done. let test : int_lt last frame.end ≡ false = grind (arith, ints) in rw test h)

-- what is printed up to the end of a session is a list of snapshots, whatever the rows are
pub emitted-AreSnapshots : (core : CoreParts) (rows : List (List Snapshot)) (cut : Cut) → IsFrame (frame_of core)
    → AreSnapshots (emitted core rows cut)
emitted-AreSnapshots core rows cut is =
    let frame = frame_of core in
    let last = decided_by frame cut in
    let x = meaning rows core.defs (emitted_number core) in
    let most = decided-most frame cut in
    let low = is.low in
    let high = is.high in
    AreSnapshots-closed frame last (given core rows frame.start last)
    (by_lt_z frame.start last
    (λ some. Fill-AreSnapshots frame.start last (given core rows frame.start last) (omega (arith, ints)) (omega (arith, ints)) (snapshots-Fill x frame.start last some))
    (λ none. rw (snapshots-none x frame.start last none) (record { in_order = tt; touch = tt })))
