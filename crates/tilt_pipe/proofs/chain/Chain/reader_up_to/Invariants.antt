-- The readers so far read later.
use Rattle.std.proofs.Common.{◌≡◌, ◌<◌, ℕ, pos, ◌+ℤ◌, slice_get, Some}
use Rattle.tilt_pipe.specs.Trimmed.{IsNotLater, reads_next}
use Rattle.tilt_pipe.specs.declared.chain.Reader.{Reader}
use Rattle.tilt_pipe.proofs.chain.Chain.reader_up_to.Given as goal

abbrev pub invariant-loop-number : goal.invariant-loop-number
invariant-loop-number l =
    (n : ℕ) (x : Reader) → n < l.number → slice_get l.readers.items n ≡ Some x → IsNotLater (Some (l.fn.end +ℤ pos 1)) (reads_next l.self.rings x)
