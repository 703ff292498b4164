use Rattle.std.proofs.Common.{length, pos}
use denote.Text.{Utf8}
use denote.Shadow.{shadow}
use Rattle.tilt_cli.proofs.Listed.{IsPart, ListedBefore, after_part}
use Rattle.tilt_cli.proofs.number.read_numbers.Given as goal

abbrev pub invariant-loop-piece : goal.invariant-loop-piece
invariant-loop-piece l = shadow (Utf8 l.rest) × ListedBefore (IsPart 4294967295) after_part (pos 0) l.word l.numbers.items (pos 0) l.rest

abbrev pub decreases-loop-piece : goal.decreases-loop-piece
decreases-loop-piece l = length l.rest
