use Rattle.std.proofs.Common.{neg_ℤ, length}
use denote.Text.{Utf8}
use denote.Shadow.{shadow}
use Rattle.tilt_base.specs.declared.limits.TheConstants.{T}
use Rattle.tilt_cli.proofs.Listed.{IsTime, ListedBefore, after_time}
use Rattle.tilt_cli.proofs.number.read_rising.Given as goal

abbrev pub invariant-loop-piece : goal.invariant-loop-piece
invariant-loop-piece l = shadow (Utf8 l.rest) × ListedBefore (IsTime T) (after_time l.apart) (neg_ℤ T) l.word l.times.items l.least l.rest

abbrev pub decreases-loop-piece : goal.decreases-loop-piece
decreases-loop-piece l = length l.rest
