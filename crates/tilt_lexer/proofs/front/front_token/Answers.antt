use Rattle.tilt_lexer.specs.Next.{IsNextFault, too_big}
use Rattle.tilt_lexer.proofs.Faults.{at_fault, bad_first}
use Rattle.tilt_lexer.proofs.front.front_token.Goals as goal

pub returns-then-is_ascii_digit-clause-err : goal.returns-then-is_ascii_digit-clause-err
returns-then-is_ascii_digit-clause-err c =
    at_fault c.front_number.result c.ok_or.result _ _ _ (IsNextFault c.args.at c.args.bytes.now) c.ok_or.ensures.value c.front_number.ensures (λ big. too_big big)

pub returns-else-is_ascii_digit-clause-err : goal.returns-else-is_ascii_digit-clause-err
returns-else-is_ascii_digit-clause-err c =
    at_fault c.front_mark.result c.ok_or-else-is_ascii_digit.result _ _ _ (IsNextFault c.args.at c.args.bytes.now)
    c.ok_or-else-is_ascii_digit.ensures.value c.front_mark.ensures (λ none. bad_first c.args.at c.args.bytes.now c.requires.some c.requires.no_blank none)
