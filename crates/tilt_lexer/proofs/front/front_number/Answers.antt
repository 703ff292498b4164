use Rattle.std.proofs.Common.{arith}
use Rattle.std.proofs.lemmas.Int.{ints}
use Rattle.tilt_lexer.proofs.Fronts.{front_is_digits, number_is_front, number_is_big}
use Rattle.tilt_lexer.proofs.front.front_number.Goals as goal

pub digits_value-requires : goal.digits_value-requires
digits_value-requires c = rw c.digits_length-length.ensures (front_is_digits c.args.bytes.now c.requires)

pub returns-in_err-number : goal.returns-in_err-number
returns-in_err-number c =
    let big = rw c.digits_length-length.ensures at c.in_err-number.ensures in
    rw c.from_residual.ensures (number_is_big c.args.bytes.now c.requires big)

pub returns : goal.returns
returns c =
    let value = rw c.digits_length-length.ensures at c.in_ok-number.ensures in
    rw c.digits_length-length.ensures (number_is_front c.args.bytes.now _ c.requires value.0 (omega (arith, ints, value.1)))
