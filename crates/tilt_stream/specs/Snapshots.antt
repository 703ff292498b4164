-- The snapshots of a stream: its ticks, cut before each tick that has a mark (our own rule).
use Rattle.std.specs.Prelude.{ℕ, zero, suc, ℤ, pos, ◌+ℤ◌, if◌then◌else◌, List, [], ◌∷◌}
use Rattle.std.specs.Int.{int_gap}
use Rattle.tilt_stream.specs.Snap.{Snapshot}
use Rattle.tilt_stream.specs.Stream.{Stream}

-- the stretch `(start, end]` as one snapshot, with the cell of its first tick
abbrev pub snapshot_on : Stream → ℤ → ℤ → Snapshot
snapshot_on x start end = record { start = start; end = end; value = x.cell (start +ℤ pos 1) }

-- the snapshots from `start` on, the first of which reaches to `tick` at least; `more` ticks follow after `tick`
abbrev pub cut_behind : Stream → ℤ → ℤ → ℕ → List Snapshot
cut_behind x start tick zero = snapshot_on x start tick ∷ []
cut_behind x start tick (suc more) =
    if x.mark (tick +ℤ pos 1) then snapshot_on x start tick ∷ cut_behind x tick (tick +ℤ pos 1) more
    else cut_behind x start (tick +ℤ pos 1) more

-- the snapshots of that many ticks after `start`
abbrev pub snapshots_from : Stream → ℤ → ℕ → List Snapshot
snapshots_from x start zero = []
snapshots_from x start (suc more) = cut_behind x start (start +ℤ pos 1) more

-- the snapshots of a stream on `(lo, hi]`
abbrev pub snapshots : Stream → ℤ → ℤ → List Snapshot
snapshots x lo hi = snapshots_from x lo (int_gap lo hi)
