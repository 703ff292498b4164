use Rattle.std.proofs.Common.{◌≡◌, ◌*◌, take, pos, neg_ℤ, ◌≤ℤ◌}
use Rattle.tilt_base.specs.Reduce.{total}
use Rattle.tilt_base.proofs.reducer.total.Given as goal

abbrev pub invariant-loop-n : goal.invariant-loop-n
invariant-loop-n l =
    (l.sum ≡ total (take l.n-index l.numbers)) × (neg_ℤ (pos (9223372036854775808 * l.n-index)) ≤ℤ l.sum) × (l.sum ≤ℤ pos (9223372036854775807 * l.n-index))
