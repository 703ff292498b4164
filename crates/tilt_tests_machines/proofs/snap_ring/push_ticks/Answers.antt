use Rattle.std.proofs.Common.{FitsSigned, to_z-of_z, w64, pos, ◌+ℤ◌, arith, rules}
use Rattle.std.proofs.lemmas.Int.{ints}
use Rattle.tilt_stream.proofs.Order.{last_end-after_push}
use Rattle.tilt_tests_machines.proofs.snap_ring.push_ticks.Goals as goal

pub loop-start-preserved : goal.loop-start-preserved
loop-start-preserved c = λ x is.
    let start = c.from-in-loop-start.result in
    let fits : FitsSigned w64 start = search rules in
    let end_fits : FitsSigned w64 (start +ℤ pos 1) = search rules in
    let end = rw (to_z-of_z fits, to_z-of_z end_fits) at (last_end-after_push _ _ _ x c.in_ok-push.ensures.ok is) in
    omega (arith, ints, end)
