use Rattle.std.proofs.Common.{length, ◌-◌}
use Rattle.tilt_lexer.proofs.Reading.{TokensBefore}
use Rattle.tilt_lexer.proofs.lexer.lex.Given as goal

abbrev pub invariant-loop-at : goal.invariant-loop-at
invariant-loop-at l = TokensBefore l.bytes l.at l.tokens.items

abbrev pub decreases-loop-at : goal.decreases-loop-at
decreases-loop-at l = length l.bytes - l.at
