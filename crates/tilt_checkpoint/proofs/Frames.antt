-- The frame of an accepted query lies within its limits.
use Rattle.std.proofs.Common.{◌≡◌, length, map, ◌++◌, Some, Ok, arith}
use Rattle.std.proofs.lemmas.Int.{ints}
use Rattle.std.specs.List.{range_with_len}
use Rattle.tilt_base.specs.declared.span.Span.{Span}
use Rattle.tilt_core.specs.Core.{CoreParts, IsStretch}
use Rattle.tilt_core.specs.Needs.{asked_from, body_needs, needs_from}
use Rattle.tilt_bounds.specs.Margins.{AreMargins, MarginsParts, margins_of}
use Rattle.tilt_bounds.proofs.Margin.{margins-reach}
use Rattle.tilt_bounds.proofs.Needs.{widest-low}
use Rattle.tilt_checkpoint.specs.Decided.{IsFrame}

pub frame_bounds : (core : CoreParts) (m : MarginsParts) (span : Span) → margins_of core ≡ Ok m → AreMargins m → IsStretch (Some span)
    → IsFrame (record { start = span.start; end = span.end; back = m.back; ahead = m.ahead })
frame_bounds core m span near kept stretch =
    let made = margins-reach core m near in
    let inputs = length core.inputs in
    let low = widest-low (map (asked_from inputs core.defs) (range_with_len 0 inputs) ++ body_needs core.defs (needs_from inputs core.defs)) in
    let back = made.0 in
    let ahead = made.1 in
    record {
      low = stretch.0;
      some_ticks = stretch.1;
      high = stretch.2;
      back_low = omega (arith, ints, low.0);
      back_high = kept.back;
      ahead_low = omega (arith, ints, low.1);
      ahead_high = kept.ahead;
    }
