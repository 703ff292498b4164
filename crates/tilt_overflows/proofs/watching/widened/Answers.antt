use Rattle.std.proofs.Common.{◌-ℤ◌, ◌+ℤ◌, w64, refl, FitsSigned, rules}
use Rattle.std.proofs.lemmas.Int.{to_z-of_z}
use Rattle.tilt_overflows.proofs.watching.widened.Goals as goal

pub returns : goal.returns
returns c =
    let back = c.back.ensures.value in
    let ahead = c.ahead.ensures.value in
    let start_fits : FitsSigned w64 c.args.span.start = search rules in
    let end_fits : FitsSigned w64 c.args.span.end = search rules in
    let back_fits : FitsSigned w64 c.back.result = search rules in
    let ahead_fits : FitsSigned w64 c.ahead.result = search rules in
    let low_fits : FitsSigned w64 (c.args.span.start -ℤ c.back.result) = search rules in
    let high_fits : FitsSigned w64 (c.args.span.end +ℤ c.ahead.result) = search rules in
    rw (
      c.clamped.ensures,
      to_z-of_z w64 c.args.span.start start_fits,
      to_z-of_z w64 c.args.span.end end_fits,
      to_z-of_z w64 c.back.result back_fits,
      to_z-of_z w64 c.ahead.result ahead_fits,
      to_z-of_z w64 (c.args.span.start -ℤ c.back.result) low_fits,
      to_z-of_z w64 (c.args.span.end +ℤ c.ahead.result) high_fits,
      back,
      ahead,
    ) refl
