use Rattle.std.proofs.Common.{◌≡◌, ◌+◌, drop}
use Rattle.tilt_syntax.specs.Cut.{first_length}
use Rattle.tilt_syntax.specs.Query.{kinds}
use Rattle.tilt_syntax.proofs.cut.first_length.Given as goal

abbrev pub invariant-loop-at : goal.invariant-loop-at
invariant-loop-at l = l.at + first_length (kinds (drop l.at l.tokens)) ≡ first_length (kinds l.tokens)
