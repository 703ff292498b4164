-- Parts of lists of snapshots, and of rows.
use Rattle.std.specs.Prelude.{ℤ, List, [], ◌∷◌, Option, Some, None, filter, int_le}
use Rattle.tilt_stream.specs.Snap.{Snapshot, joined_open}

-- all but the last one
abbrev pub without_last : List Snapshot → List Snapshot
without_last [] = []
without_last (s ∷ []) = []
without_last (s ∷ next ∷ ss) = s ∷ without_last (next ∷ ss)

-- where the last one starts
abbrev pub last_start : List Snapshot → Option ℤ
last_start [] = None
last_start (s ∷ []) = Some s.start
last_start (s ∷ next ∷ ss) = last_start (next ∷ ss)

-- the first one goes on from where another began, if one did
abbrev pub joined_from : Option ℤ → List Snapshot → List Snapshot
joined_from None list = list
joined_from (Some start) list = joined_open start list

-- the rows that end at a tick or after it
abbrev pub kept : ℤ → List Snapshot → List Snapshot
kept first rows = filter (λ row. int_le first row.end) rows
