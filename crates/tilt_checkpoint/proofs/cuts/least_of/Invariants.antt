-- The best so far is the least of the numbers so far.
use Rattle.std.proofs.Common.{◌≡◌, take, fold}
use Rattle.std.specs.Int.{int_min}
use Rattle.tilt_checkpoint.proofs.cuts.least_of.Given as goal

abbrev pub invariant-loop-number : goal.invariant-loop-number
invariant-loop-number l = l.best ≡ fold int_min l.fn.first (take l.number-index l.others)
