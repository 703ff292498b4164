use Rattle.std.proofs.Common.{◌≡◌, ◌<◌, ℕ, ◌+ℤ◌, Some, slice_get}
use Rattle.tilt_pipe.specs.Chain.{IsReached}
use Rattle.tilt_pipe.specs.declared.sources.Source.{Source}
use Rattle.tilt_pipe.proofs.chain.short_source.Given as goal

abbrev pub invariant-loop-number : goal.invariant-loop-number
invariant-loop-number l =
    (k : ℕ) (s : Source) → k < l.number → slice_get l.sources k ≡ Some s → IsReached l.rings s.place (l.point +ℤ s.last)
