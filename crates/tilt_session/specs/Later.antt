-- What a session after a checkpoint prints, and its own checkpoint (our own rule). It is handed the rows after the checkpoint alone.
use Rattle.std.specs.Prelude.{ℤ, pos, ◌-ℤ◌, if◌then◌else◌, List, [], ◌∷◌, ◌++◌, map, Option, Some, None, int_lt}
use Rattle.std.specs.Int.{int_max}
use Rattle.tilt_stream.specs.Snap.{Snapshot, last_end}
use Rattle.tilt_types.specs.Checked.{core_of}
use Rattle.tilt_checkpoint.specs.Checkpoint.{KeptParts, CheckpointParts}
use Rattle.tilt_checkpoint.specs.Cuts.{CutsParts}
use Rattle.tilt_checkpoint.specs.Decided.{frame_of, decided, first_kept}
use Rattle.tilt_checkpoint.specs.declared.frame.Frame.{Frame}
use Rattle.tilt_session.specs.Cuts.{decided_by}
use Rattle.tilt_session.specs.Emitted.{closed, open_start}
use Rattle.tilt_compiler.specs.Compiled.{given}
use Rattle.tilt_session.specs.NewRows.{added}
use Rattle.tilt_stream.specs.Pieces.{joined_from, kept}
use Rattle.tilt_session.specs.declared.cut.Cut.{Cut}
use Rattle.tilt_session.specs.declared.cut.Cut.TheVariants.{Upto, End}

-- where a session goes on: before the tick that was decided last, or at the start of the output where nothing was
abbrev pub resumed_at : Frame → ℤ → ℤ
resumed_at frame cut = int_max frame.start (decided frame cut -ℤ pos 1)

-- the rows of each input that a session knows: those that are kept, and the new ones
abbrev pub both : CheckpointParts → List (List Snapshot) → List (List Snapshot)
both c rows = added (map (λ k. k.rows) c.series) rows

-- the snapshots that a session goes on by: from where it goes on, the first of them with the start of the open one
abbrev pub going_on : CheckpointParts → List (List Snapshot) → Cut → List Snapshot
going_on c rows cut =
    let core = core_of c.query in
    let frame = frame_of core in
    joined_from c.open_start (given core (both c rows) (resumed_at frame c.cut) (decided_by frame cut))

-- what a session prints: those of them whose end is known, and nothing where all of the output was decided before
abbrev pub newly : CheckpointParts → List (List Snapshot) → Cut → List Snapshot
newly c rows cut =
    let frame = frame_of (core_of c.query) in
    if int_lt (decided frame c.cut) frame.end then closed frame (decided_by frame cut) (going_on c rows cut) else []

-- the end of the last row of an input: that of the last new one, and where none is new the one from before
abbrev pub last_or : Option ℤ → Option ℤ → Option ℤ
last_or None old = old
last_or (Some end) old = Some end

-- what is kept at its cut of an input, beside its new rows
abbrev pub again : ℤ → ℤ → KeptParts → List Snapshot → KeptParts
again first cut k rows = record { cut = cut; last_end = last_or (last_end rows) k.last_end; rows = kept first (k.rows ++ rows) }

-- and of each input
abbrev pub kept_again : ℤ → List ℤ → List KeptParts → List (List Snapshot) → List KeptParts
kept_again first [] series new = []
kept_again first (cut ∷ cuts) [] new = []
kept_again first (cut ∷ cuts) (k ∷ series) [] = []
kept_again first (cut ∷ cuts) (k ∷ series) (rows ∷ more) = again first cut k rows ∷ kept_again first cuts series more

-- the checkpoint of a session that ends by cuts
abbrev pub next : CheckpointParts → List (List Snapshot) → CutsParts → CheckpointParts
next c rows cuts =
    let frame = frame_of (core_of c.query) in
    record {
      query = c.query;
      cut = cuts.least;
      open_start = open_start frame (decided frame cuts.least) (going_on c rows (Upto cuts));
      series = kept_again (first_kept frame cuts.least) cuts.each c.series rows;
    }

-- the checkpoint of a session, and none where nothing comes after it
abbrev pub next_by : CheckpointParts → List (List Snapshot) → Cut → Option CheckpointParts
next_by c rows (Upto cuts) = Some (next c rows cuts)
next_by c rows End = None
