use Rattle.std.proofs.Common.{rules, ◌≡◌, ◌<ℤ◌, ◌≤ℤ◌, ◌-ℤ◌, ℤ, pos, true, arith, FitsSigned, to_z-of_z, w64, ap, ◌∙◌}
use Rattle.std.proofs.lemmas.Int.{ints, clamps}
use Rattle.std.specs.Int.{int_max}
use Rattle.std.specs.Prelude.{int_lt}
use Rattle.tilt_checkpoint.specs.Decided.{decided}
use Rattle.tilt_checkpoint.specs.declared.frame.Frame.{Frame}
use Rattle.tilt_live_start.specs.Seen.{tick_from}
use Rattle.tilt_live_start.proofs.tick.tick_from.Goals as goal

tick-some : (frame : Frame) (cut done tick : ℤ) → done ≡ decided frame cut → done <ℤ frame.end → tick ≡ int_max frame.start (done -ℤ pos 1) → tick ≡ tick_from frame cut
tick-some frame cut done tick is some at =
    let test : int_lt (decided frame cut) frame.end ≡ true = grind (arith, ints) in
    rw test (at ∙ ap (λ (t : ℤ). int_max frame.start (t -ℤ pos 1)) is)

tick-most : (start end done tick : ℤ) → start <ℤ end → done <ℤ end → tick ≡ int_max start (done -ℤ pos 1) → tick ≤ℤ end
tick-most start end done tick some below at = grind (arith, ints, clamps)

pub returns-then-decided-frame-clause-value : goal.returns-then-decided-frame-clause-value
returns-then-decided-frame-clause-value c =
    let fits : FitsSigned w64 c.max.result = search rules in
    let done_fits : FitsSigned w64 c.decided-decided.result = search rules in
    let start_fits : FitsSigned w64 c.args.frame.start = search rules in
    let end_fits : FitsSigned w64 c.args.frame.end = search rules in
    let before_fits : FitsSigned w64 (c.decided-decided.result -ℤ pos 1) = search rules in
    let at = rw (to_z-of_z start_fits, to_z-of_z done_fits, to_z-of_z before_fits) at c.max.ensures.value in
    let below = rw (to_z-of_z done_fits, to_z-of_z end_fits) at c.if-decided-frame.true in
    let is = rw (to_z-of_z c.ranges.cut) at c.decided-decided.ensures in
    rw (to_z-of_z fits) (tick-some c.args.frame c.args.cut c.decided-decided.result c.max.result is (grind (arith, ints)) at)

pub returns-then-decided-frame-clause-high : goal.returns-then-decided-frame-clause-high
returns-then-decided-frame-clause-high c =
    let fits : FitsSigned w64 c.max.result = search rules in
    let done_fits : FitsSigned w64 c.decided-decided.result = search rules in
    let start_fits : FitsSigned w64 c.args.frame.start = search rules in
    let end_fits : FitsSigned w64 c.args.frame.end = search rules in
    let before_fits : FitsSigned w64 (c.decided-decided.result -ℤ pos 1) = search rules in
    let at = rw (to_z-of_z start_fits, to_z-of_z done_fits, to_z-of_z before_fits) at c.max.ensures.value in
    let below = rw (to_z-of_z done_fits, to_z-of_z end_fits) at c.if-decided-frame.true in
    rw (to_z-of_z fits) (tick-most c.args.frame.start c.args.frame.end c.decided-decided.result c.max.result c.requires.frame.some_ticks (grind (arith, ints)) at)
