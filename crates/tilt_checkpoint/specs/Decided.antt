-- What is decided at a cut, and what has to be kept then (our own rule).
use Rattle.std.specs.Prelude.{ℤ, pos, neg_ℤ, ◌+ℤ◌, ◌-ℤ◌, ◌≤ℤ◌, ◌<ℤ◌, length, Option, Some, None}
use Rattle.std.specs.Int.{int_min, int_max}
use Rattle.tilt_base.specs.declared.limits.TheConstants.{T, REACH}
use Rattle.tilt_base.specs.declared.span.Span.{Span}
use Rattle.tilt_core.specs.Core.{CoreParts, domain_of}
use Rattle.tilt_core.specs.Needs.{Need, reach}
use Rattle.tilt_checkpoint.specs.declared.frame.Frame.{Frame}

-- the frame of a query with this output domain, which each accepted query has, and this look-back and look-ahead
abbrev pub frame_with : Option Span → Need → Frame
frame_with None n = record { start = pos 0; end = pos 0; back = n.back; ahead = n.ahead }
frame_with (Some span) n = record { start = span.start; end = span.end; back = n.back; ahead = n.ahead }

-- the frame of a core
abbrev pub frame_of : CoreParts → Frame
frame_of core = frame_with (domain_of core.defs) (reach (length core.inputs) core.defs)

-- what an accepted query's frame keeps
pub record IsFrame (frame : Frame) : Type 0 where
  pub low : neg_ℤ T ≤ℤ frame.start
  pub some_ticks : frame.start <ℤ frame.end
  pub high : frame.end ≤ℤ T
  pub back_low : pos 0 ≤ℤ frame.back
  pub back_high : frame.back ≤ℤ REACH
  pub ahead_low : pos 0 ≤ℤ frame.ahead
  pub ahead_high : frame.ahead ≤ℤ REACH

-- the last tick of the output that no row from the cut on can change
abbrev pub decided : Frame → ℤ → ℤ
decided frame cut = int_min frame.end (cut -ℤ frame.ahead)

-- the first tick that the output after `decided`, and the tick before it, look back to
abbrev pub first_kept : Frame → ℤ → ℤ
first_kept frame cut = int_max (decided frame cut) (frame.start +ℤ pos 1) -ℤ frame.back
