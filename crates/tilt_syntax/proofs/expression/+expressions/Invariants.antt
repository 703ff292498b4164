use Rattle.std.proofs.Common.{◌+◌, ◌-◌, ◌*◌, length}
use Rattle.tilt_syntax.specs.Levels.{level_number}
use Rattle.tilt_syntax.specs.Query.{kinds}
use Rattle.tilt_syntax.proofs.expression.+expressions.Given as goal

-- a token weighs more than all levels
abbrev pub decreases-expression : goal.decreases-expression
decreases-expression l = 32 * length (kinds l.tokens.now) + (2 * (10 - level_number l.level) + 1)

abbrev pub decreases-choice : goal.decreases-choice
decreases-choice l = 32 * length (kinds l.tokens.now) + 20

abbrev pub decreases-chain : goal.decreases-chain
decreases-chain l = 32 * length (kinds l.tokens.now) + 2 * (10 - level_number l.level)

abbrev pub decreases-going_on : goal.decreases-going_on
decreases-going_on l = 32 * length (kinds l.tokens.now)

abbrev pub decreases-negation : goal.decreases-negation
decreases-negation l = 32 * length (kinds l.tokens.now) + 12

abbrev pub decreases-minus : goal.decreases-minus
decreases-minus l = 32 * length (kinds l.tokens.now) + 4

abbrev pub decreases-atom : goal.decreases-atom
decreases-atom l = 32 * length (kinds l.tokens.now) + 2

abbrev pub decreases-word : goal.decreases-word
decreases-word l = 32 * length (kinds l.tokens.now) + 1

abbrev pub decreases-enclosed : goal.decreases-enclosed
decreases-enclosed l = 32 * length (kinds l.tokens.now)

abbrev pub decreases-is_null : goal.decreases-is_null
decreases-is_null l = 32 * length (kinds l.tokens.now)

abbrev pub decreases-if_null : goal.decreases-if_null
decreases-if_null l = 32 * length (kinds l.tokens.now)
