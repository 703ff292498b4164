-- The ticks of the output that an edit can change (the TiLT paper's boundary resolution).
use Rattle.std.specs.Prelude.{◌≡◌, ◌⊎◌, ℤ, pos, ◌+ℤ◌, ◌-ℤ◌, ◌<ℤ◌, ◌≤ℤ◌, if◌then◌else◌, int_lt, Option, Some, None, option_and_then, ⊤}
use Rattle.std.specs.Int.{int_max, int_min}
use Rattle.tilt_base.specs.declared.span.Span.{Span}
use Rattle.tilt_bounds.specs.Margins.{need_at}
use Rattle.tilt_compiler.specs.Accepted.{AcceptedParts}
use Rattle.tilt_core.specs.Core.{domain_of}
use Rattle.tilt_core.specs.Needs.{Need}
use Rattle.tilt_edits.specs.Edited.{input_of, start_of, end_of}
use Rattle.tilt_stream.specs.Stream.{Stream}
use Rattle.tilt_edits.specs.declared.edit.Edit.{Edit}

-- the ticks of `(lo, hi]`, if there are some
abbrev pub some_ticks : ℤ → ℤ → Option Span
some_ticks lo hi = if int_lt lo hi then Some (record { start = lo; end = hi }) else None

-- the ticks of a domain that look at `(start, end]`, and the one after them, at which a snapshot may begin
abbrev pub looking_at : Span → ℤ → ℤ → Need → Option Span
looking_at domain start end need =
    some_ticks (int_max domain.start (start -ℤ need.ahead)) (int_min domain.end (end +ℤ need.back +ℤ pos 1))

-- the ticks of a query's output that an edit reaches; none if its input isn't used
abbrev pub reached : AcceptedParts → Edit → Option Span
reached query edit =
    option_and_then
    (λ domain. option_and_then (looking_at domain (start_of edit) (end_of edit)) (need_at query.margins.needs (input_of edit)))
    (domain_of query.core.defs)

-- a tick that isn't among those of a stretch
abbrev pub IsOutside : Option Span → ℤ → Type 0
IsOutside None tick = ⊤
IsOutside (Some span) tick = (tick ≤ℤ span.start) ⊎ (span.end <ℤ tick)

-- two streams have the same cells and marks at each tick that an edit doesn't reach
pub record StaysOutside (query : AcceptedParts) (edit : Edit) (before after : Stream) : Type 0 where
  pub cells : (tick : ℤ) → IsOutside (reached query edit) tick → after.cell tick ≡ before.cell tick
  pub marks : (tick : ℤ) → IsOutside (reached query edit) tick → after.mark tick ≡ before.mark tick
