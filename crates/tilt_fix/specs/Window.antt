-- The rows that can matter for the output on a stretch of ticks (for the crate's own functions).
use Rattle.std.specs.Prelude.{ℕ, suc, ℤ, ◌+ℤ◌, ◌-ℤ◌, int_lt, List, [], ◌∷◌, filter, Option, Some, None}
use Rattle.tilt_base.specs.declared.span.Span.{Span}
use Rattle.tilt_bounds.specs.Margins.{need_at}
use Rattle.tilt_core.specs.Needs.{Need}
use Rattle.tilt_stream.specs.Snap.{Snapshot}

-- the rows that end after a tick
abbrev pub late : ℤ → List Snapshot → List Snapshot
late tick rows = filter (λ row. int_lt tick row.end) rows

-- the rows that start before a tick
abbrev pub early : ℤ → List Snapshot → List Snapshot
early tick rows = filter (λ row. int_lt row.start tick) rows

-- the rows that have a tick of `(lo, hi]`
abbrev pub window : ℤ → ℤ → List Snapshot → List Snapshot
window lo hi rows = early hi (late lo rows)

-- the ticks of a source with that need that the output on `(lo, hi]` reads; none if it isn't used
abbrev pub seen : Option Need → ℤ → ℤ → Option Span
seen None lo hi = None
seen (Some n) lo hi = Some (record { start = lo -ℤ n.back; end = hi +ℤ n.ahead })

-- the rows that have a tick which is looked at
abbrev pub window_in : Option Span → List Snapshot → List Snapshot
window_in None rows = []
window_in (Some on) rows = window on.start on.end rows

-- the rows of an input with that need at which the output on `(lo, hi]` looks
abbrev pub window_for : Option Need → ℤ → ℤ → List Snapshot → List Snapshot
window_for n lo hi rows = window_in (seen n lo hi) rows

-- the same of each input, of which the first has that number
abbrev pub windows : List (Option Need) → ℤ → ℤ → ℕ → List (List Snapshot) → List (List Snapshot)
windows needs lo hi first [] = []
windows needs lo hi first (rows ∷ more) = window_for (need_at needs first) lo hi rows ∷ windows needs lo hi (suc first) more
