use Rattle.std.proofs.Common.{◌≡◌, arith}
use Rattle.tilt_lexer.proofs.Numbers.{digits_are_text, parse_digits}
use Rattle.tilt_lexer.proofs.number.digits_value.Goals as goal

pub returns-in_err-ok : goal.returns-in_err-ok
returns-in_err-ok c = grind (arith, digits_are_text c.args.digits.now c.requires)

pub returns : goal.returns
returns c =
    let text : c.in_ok-ok.field-0.now ≡ c.args.digits.now = grind arith in
    rw c.ok-2.ensures.value (parse_digits c.args.digits.now _ c.requires (rw text at c.parse.ensures.value.0))
