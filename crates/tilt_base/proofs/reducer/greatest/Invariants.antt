use Rattle.std.proofs.Common.{◌≡◌, take, fold}
use Rattle.std.specs.Int.{int_max}
use Rattle.tilt_base.proofs.reducer.greatest.Given as goal

abbrev pub invariant-loop-n : goal.invariant-loop-n
invariant-loop-n l = l.best ≡ fold int_max l.fn.first (take l.n-index l.rest)
