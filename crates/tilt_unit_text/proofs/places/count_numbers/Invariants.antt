use Rattle.std.proofs.Common.{◌≡◌, ◌≤◌, List, ◌++◌, length}
use Rattle.tilt_lexer.specs.declared.token.Tok.{Tok}
use Rattle.tilt_syntax.specs.Query.{kinds}
use Rattle.tilt_unit_text.specs.Places.{counted}
use Rattle.tilt_unit_text.proofs.places.count_numbers.Given as goal

-- the tokens so far are counted, whatever comes after them
abbrev pub invariant-loop-token : goal.invariant-loop-token
invariant-loop-token l = record {
  counts : (rest : List Tok) → kinds l.counts.items ++ counted l.count rest ≡ counted 0 (kinds l.yielded ++ rest);
  few : l.count ≤ length l.yielded;
}
