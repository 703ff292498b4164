use Rattle.std.proofs.Common.{◌≡◌, ◌<◌, ◌+◌, ◌-◌, ℕ, length, arith}
use Rattle.tilt_readings.proofs.DigitLemmas.{digit_range}
use Rattle.tilt_readings.proofs.ScaleLemmas.{carry_on, carry_stops}
use Rattle.tilt_readings.proofs.digits.carry_of.Goals as goal

pub carry_digit-requires-clause-low : goal.carry_digit-requires-clause-low
carry_digit-requires-clause-low c =
    let within = c.loop-at.invariant.within in
    (digit_range c.args.digits.now (c.loop-at.at - 1) c.requires (omega arith)).0

pub carry_digit-requires-clause-high : goal.carry_digit-requires-clause-high
carry_digit-requires-clause-high c =
    let within = c.loop-at.invariant.within in
    (digit_range c.args.digits.now (c.loop-at.at - 1) c.requires (omega arith)).1

pub returns-in_err-carried : goal.returns-in_err-carried
returns-in_err-carried c =
    let within = c.loop-at.invariant.within in
    let next : c.loop-at.at ≡ c.loop-at.at - 1 + 1 = omega arith in
    let low : c.loop-at.at - 1 < length c.args.digits.now = omega arith in
    rw c.from_residual.ensures
    (λ n e. carry_stops c.args.digits.now c.loop-at.at (c.loop-at.at - 1) c.args.scale c.loop-at.carried n c.requires next low c.in_err-carried.ensures ((c.loop-at.invariant.same n).0 e))

pub loop-at-preserved : goal.loop-at-preserved
loop-at-preserved c =
    let within = c.loop-at.invariant.within in
    let next : c.loop-at.at ≡ c.loop-at.at - 1 + 1 = omega arith in
    let low : c.loop-at.at - 1 < length c.args.digits.now = omega arith in
    let on = λ (n : ℕ). carry_on c.args.digits.now c.loop-at.at (c.loop-at.at - 1) c.args.scale c.loop-at.carried c.in_ok-carried.carried n c.requires next low c.in_ok-carried.ensures.0 in
    record {
      within = omega arith;
      small = c.in_ok-carried.ensures.1;
      same = λ n. (λ e. (on n).0 ((c.loop-at.invariant.same n).0 e), λ e. (c.loop-at.invariant.same n).1 ((on n).1 e));
    }
