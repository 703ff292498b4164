use Rattle.std.proofs.Common.{◌+ℤ◌, ◌-ℤ◌, FitsSigned, Some, refl, arith, rules, w64}
use Rattle.std.proofs.lemmas.Int.{ints, to_z-of_z}
use Rattle.tilt_base.specs.declared.limits.TheConstants.{REACH}
use Rattle.tilt_bounds.specs.Margins.{IsWithin, evenly}
use Rattle.tilt_fix.proofs.window.seen.Goals as goal

pub returns-in-Used : goal.returns-in-Used
returns-in-Used c =
    let within : IsWithin (evenly REACH) (Some (record { back = c.in-Used.back; ahead = c.in-Used.ahead })) = rw c.in-Used.is at c.requires.near in
    let a = within.0 in
    let b = within.1 in
    let d = within.2 in
    let e = within.3 in
    let low = c.requires.low in
    let high = c.requires.high in
    let one : FitsSigned w64 c.args.on.start = search rules in
    let two : FitsSigned w64 c.args.on.end = search rules in
    let three : FitsSigned w64 c.in-Used.back = record { sfits = omega (arith, ints) } in
    let four : FitsSigned w64 c.in-Used.ahead = record { sfits = omega (arith, ints) } in
    let five : FitsSigned w64 (c.args.on.start -ℤ c.in-Used.back) = search rules in
    let six : FitsSigned w64 (c.args.on.end +ℤ c.in-Used.ahead) = search rules in
    rw (
      c.in-Used.is,
      to_z-of_z w64 c.args.on.start one,
      to_z-of_z w64 c.args.on.end two,
      to_z-of_z w64 c.in-Used.back three,
      to_z-of_z w64 c.in-Used.ahead four,
      to_z-of_z w64 (c.args.on.start -ℤ c.in-Used.back) five,
      to_z-of_z w64 (c.args.on.end +ℤ c.in-Used.ahead) six,
    ) refl
