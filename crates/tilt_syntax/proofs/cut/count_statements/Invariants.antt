use Rattle.std.proofs.Common.{◌≡◌, ◌+◌, length}
use Rattle.tilt_syntax.specs.Query.{kinds, statements}
use Rattle.tilt_syntax.proofs.cut.count_statements.Given as goal

abbrev pub invariant-loop-rest : goal.invariant-loop-rest
invariant-loop-rest l = l.count + length (statements (kinds l.rest)) ≡ length (statements (kinds l.tokens))

abbrev pub decreases-loop-rest : goal.decreases-loop-rest
decreases-loop-rest l = length l.rest
