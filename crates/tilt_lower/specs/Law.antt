-- What the code of a query is for (the compiler's theorem).
use Rattle.std.specs.Prelude.{◌≡◌, ℕ, ◌-◌, nat_lt, ℤ, ◌<ℤ◌, ◌≤ℤ◌, Bool, true, ◌||◌, List, length, map, get_or, Option, Some, None}
use Rattle.tilt_bounds.specs.Laws.{AgreeAsAsked}
use Rattle.tilt_bounds.specs.Margins.{MarginsParts, need_at}
use Rattle.tilt_code.specs.Code.{CodeParts}
use Rattle.tilt_code.specs.Run.{buffers_of, run_of}
use Rattle.tilt_fuse.specs.FusedTree.{PlannedLoop}
use Rattle.tilt_fuse.specs.Plan.{plan_of, has_loop}
use Rattle.tilt_lower.specs.Lowering.{buffer_of}
use Rattle.tilt_stream.specs.Pointwise.{nothing}
use Rattle.tilt_stream.specs.Snap.{Snapshot}
use Rattle.tilt_stream.specs.Snapshots.{snapshots}
use Rattle.tilt_stream.specs.Stream.{stream_of}
use Rattle.tilt_base.specs.declared.span.Span.{Span}
use Rattle.tilt_core.specs.Core.{CoreParts, emitted_number}
use Rattle.tilt_core.specs.Meaning.{meaning}

-- loops are the plan of a query, with fusion or without
abbrev pub IsPlan : CoreParts → List PlannedLoop → Type 0
IsPlan query loops = (fuse : Bool) × (loops ≡ plan_of query fuse)

-- a stretch of time that isn't empty lies within the output domain
abbrev pub LiesWithin : Option Span → ℤ → ℤ → Type 0
LiesWithin None lo hi = ⊥
LiesWithin (Some domain) lo hi = (domain.start ≤ℤ lo) × (lo <ℤ hi) × (hi ≤ℤ domain.end)

-- whether a source has a buffer: it is an input, or a definition with a loop
abbrev pub has_buffer : ℕ → List PlannedLoop → ℕ → Bool
has_buffer inputs loops source = nat_lt source inputs || has_loop loops (source - inputs)

-- over all rows, one list for each input: the run of the code is what the query gives on `(lo, hi]`. The buffer of each source that has one
-- agrees with the meaning of the source on all that it is asked for
pub record MeansTheQuery (query : CoreParts) (margins : MarginsParts) (loops : List PlannedLoop)
    (lo hi : ℤ) (code : CodeParts) : Type 0 where
  pub runs : (rows : List (List Snapshot)) → length rows ≡ length query.inputs
      → run_of code rows ≡ snapshots (meaning rows query.defs (emitted_number query)) lo hi
  pub agrees : (rows : List (List Snapshot)) → length rows ≡ length query.inputs → (source : ℕ)
      → has_buffer (length query.inputs) loops source ≡ true → AgreeAsAsked (need_at margins.needs source) lo hi
      (get_or (map stream_of (buffers_of code rows)) (buffer_of (length query.inputs) loops source) nothing)
      (meaning rows query.defs source)
