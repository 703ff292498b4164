use Rattle.std.proofs.Common.{arith}
use Rattle.tilt_base.proofs.Last.{last_of_get}
use Rattle.tilt_base.proofs.reducer.reduce.Goals as goal

pub returns-in-Last : goal.returns-in-Last
returns-in-Last c =
    let last = last_of_get c.in_ok-first.first.now c.in_ok-first.rest.now in
    grind arith
