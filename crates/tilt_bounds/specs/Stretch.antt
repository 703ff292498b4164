-- The stretch of time on which the loop of a definition runs (our own rule).
use Rattle.std.specs.Prelude.{ℤ, ◌+ℤ◌, ◌-ℤ◌, true, false, if◌then◌else◌, Option, Some, None, int_lt}
use Rattle.std.specs.Int.{int_min, int_max}
use Rattle.tilt_base.specs.declared.span.Span.{Span}
use Rattle.tilt_core.specs.CoreTree.{Definition}
use Rattle.tilt_core.specs.Needs.{Need}
use Rattle.tilt_bounds.specs.declared.loop_span.LoopSpan.{LoopSpan}

-- `(lo, hi]`, cut down to a span if one is written; if that leaves nothing, the uncut stretch, which is then marked as empty
abbrev pub cut_down : Option Span → ℤ → ℤ → LoopSpan
cut_down None lo hi = record { lo = lo; hi = hi; empty = false }
cut_down (Some span) lo hi =
    let start = int_max lo span.start in
    let end = int_min hi span.end in
    if int_lt start end then record { lo = start; hi = end; empty = false } else record { lo = lo; hi = hi; empty = true }

-- the stretch of a definition with a need, for the output on `(lo, hi]`
abbrev pub stretch_of : Definition → Need → ℤ → ℤ → LoopSpan
stretch_of def n lo hi = cut_down def.over (lo -ℤ n.back) (hi +ℤ n.ahead)
