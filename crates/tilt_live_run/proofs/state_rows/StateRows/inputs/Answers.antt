use Rattle.std.proofs.Common.{arith, w64}
use Rattle.std.proofs.lemmas.Int.{ints, to_z-of_z}
use Rattle.tilt_live_run.proofs.state_rows.StateRows.inputs.Goals as goal

pub returns : goal.returns
returns c = λ feed going keeps.
    (rw (to_z-of_z w64 c.args.first c.ranges.first) at c.inputs.ensures) c.args.first feed (omega (arith, ints)) going (keeps going c.in-Some.fed c.in-Some.is)
