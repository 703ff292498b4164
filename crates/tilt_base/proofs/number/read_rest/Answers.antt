use Rattle.std.proofs.Common.{◌+◌, ◌^◌, ◌<◌, arith, rules}
use Rattle.tilt_base.proofs.Spelling.{few_digits}
use Rattle.tilt_base.proofs.number.read_rest.Goals as goal

pub overflow_mul-number : goal.overflow_mul-number
overflow_mul-number c =
    let small : c.loop-digit.number < 10 ^ 17 = few_digits c.loop-digit.number (c.loop-digit.digit-index + 1) 17 (omega arith) c.loop-digit.invariant.small in
    search rules

pub overflow_add-number : goal.overflow_add-number
overflow_add-number c =
    let small : c.loop-digit.number < 10 ^ 17 = few_digits c.loop-digit.number (c.loop-digit.digit-index + 1) 17 (omega arith) c.loop-digit.invariant.small in
    search rules

pub returns-clause-small : goal.returns-clause-small
returns-clause-small c = few_digits c.loop-digit.number (c.loop-digit.digit-index + 1) 18 (omega arith) c.loop-digit.invariant.small
