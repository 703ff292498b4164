-- Snapshots that take the place of others.
use Rattle.std.specs.Prelude.{ℤ, List, [], ◌∷◌}
use Rattle.tilt_stream.specs.Snap.{Snapshot, joined_open}

-- the list with that end of its last one
abbrev pub ended_at : ℤ → List Snapshot → List Snapshot
ended_at end [] = []
ended_at end (s ∷ []) = record { start = s.start; end = end; value = s.value } ∷ []
ended_at end (s ∷ next ∷ ss) = s ∷ ended_at end (next ∷ ss)

-- the list with that start of its first one and that end of its last one
abbrev pub stretched : ℤ → ℤ → List Snapshot → List Snapshot
stretched start end piece = joined_open start (ended_at end piece)
