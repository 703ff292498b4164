-- What a session knows of its inputs, step by step (for the crate's own functions).
use Rattle.std.specs.Prelude.{ℤ, ◌≤ℤ◌, if◌then◌else◌, List, [], ◌∷◌, ◌++◌, Option, int_lt, ⊤}
use Rattle.std.specs.List.{AllByRecursion}
use Rattle.std.specs.Option.{ForSome}
use Rattle.tilt_stream.specs.Snap.{Snapshot, last_end}
use Rattle.tilt_checkpoint.specs.Checkpoint.{KeptParts}
use Rattle.tilt_checkpoint.specs.Decided.{decided}
use Rattle.tilt_checkpoint.specs.Valid.{IsCell}
use Rattle.tilt_checkpoint.specs.declared.frame.Frame.{Frame}
use Rattle.tilt_session.specs.Emitted.{closed}
use Rattle.tilt_session.specs.Later.{last_or}
use Rattle.tilt_stream.specs.Pieces.{kept}

-- rows start where others have ended, or after that
abbrev pub IsAfter : List Snapshot → List Snapshot → Type 0
IsAfter rows more = ForSome (last_end rows) (λ end. AllByRecursion (λ row. end ≤ℤ row.start) more)

-- the new rows of each input come after those that are kept, one list for each
abbrev pub AreAfter : List KeptParts → List (List Snapshot) → Type 0
AreAfter [] [] = ⊤
AreAfter [] (new ∷ more) = ⊥
AreAfter (k ∷ series) [] = ⊥
AreAfter (k ∷ series) (new ∷ more) = IsAfter k.rows new × AreAfter series more

-- what is known of an input with new rows
abbrev pub taken_up : KeptParts → List Snapshot → KeptParts
taken_up k new = record { cut = k.cut; last_end = last_or (last_end new) k.last_end; rows = k.rows ++ new }

-- and of each input
abbrev pub all_taken_up : List KeptParts → List (List Snapshot) → List KeptParts
all_taken_up [] new = []
all_taken_up (k ∷ series) [] = []
all_taken_up (k ∷ series) (new ∷ more) = taken_up k new ∷ all_taken_up series more

-- what is kept of each input at its cut, of which these are the ends of the last rows, and those the rows
abbrev pub kept_at : ℤ → List ℤ → List (Option ℤ) → List (List Snapshot) → List KeptParts
kept_at first [] ends rows = []
kept_at first (cut ∷ cuts) [] rows = []
kept_at first (cut ∷ cuts) (end ∷ ends) [] = []
kept_at first (cut ∷ cuts) (end ∷ ends) (rows ∷ more) =
    record { cut = cut; last_end = end; rows = kept first rows } ∷ kept_at first cuts ends more

-- the values of rows are of 64 bits, or null
abbrev pub AreCells : List Snapshot → Type 0
AreCells rows = AllByRecursion (λ row. IsCell row.value) rows

-- of snapshots after a cut, those whose end is known; none where all of the output was decided before
abbrev pub closed_after : Frame → ℤ → ℤ → List Snapshot → List Snapshot
closed_after frame cut last list = if int_lt (decided frame cut) frame.end then closed frame last list else []
