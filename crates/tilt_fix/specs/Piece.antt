-- What takes the place of a part of the output (for the crate's own functions).
use Rattle.std.specs.Prelude.{◌<◌, ℤ, pos, neg_ℤ, ◌+ℤ◌, ◌-ℤ◌, ◌<ℤ◌, ◌≤ℤ◌, List, length, slice_get}
use Rattle.std.specs.Int.{int_max}
use Rattle.std.specs.Option.{ForSome}
use Rattle.tilt_base.specs.declared.limits.TheConstants.{WIDE}
use Rattle.tilt_base.specs.declared.span.Span.{Span}
use Rattle.tilt_stream.specs.Snap.{Snapshot, Fill, ended_below}

-- the tick before some ticks of a domain, and before that where it is one of the domain
abbrev pub first_before : Span → Span → ℤ
first_before domain span = int_max (span.start -ℤ pos 1) domain.start

-- snapshots on `(from, to]`, which others cover
pub record IsPieceOf (list piece : List Snapshot) (from to : ℤ) : Type 0 where
  pub low : neg_ℤ WIDE ≤ℤ from
  pub some : from <ℤ to
  pub high : to ≤ℤ WIDE
  pub fills : Fill from to piece
  pub first : ended_below (from +ℤ pos 1) list < length list
  pub last : ended_below to list < length list
  pub begun : ForSome (slice_get list (ended_below (from +ℤ pos 1) list)) (λ s. s.start ≤ℤ from)
  pub reaches : ForSome (slice_get list (ended_below to list)) (λ s. to ≤ℤ s.end)
