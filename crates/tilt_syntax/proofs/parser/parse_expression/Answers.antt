use Rattle.tilt_syntax.specs.Query.{kinds}
use Rattle.tilt_syntax.proofs.Parsing.{all-read, no-expr, none-left, more-left, some-rest, sound-kinds}
use Rattle.tilt_syntax.proofs.Unique.{one_expr}
use Rattle.tilt_syntax.proofs.parser.parse_expression.Goals as goal

pub expression-requires : goal.expression-requires
expression-requires c = sound-kinds c.args.tokens.now c.requires.sound

pub returns-in_default-clause-found : goal.returns-in_default-clause-found
returns-in_default-clause-found c = no-expr (kinds c.args.tokens.now) (rw c.in_default.is at c.in_ok-expr.ensures)

pub returns-in_default-clause-only : goal.returns-in_default-clause-only
returns-in_default-clause-only c = no-expr (kinds c.args.tokens.now) (rw c.in_default.is at c.in_ok-expr.ensures)

pub returns-then-is_empty-clause-found : goal.returns-then-is_empty-clause-found
returns-then-is_empty-clause-found c =
    all-read (kinds c.args.tokens.now) _ _ (rw c.in-Some.is at c.in_ok-expr.ensures) (
    none-left c.in-Some.rest.now c.if-is_empty.ensures)

pub returns-then-is_empty-clause-only : goal.returns-then-is_empty-clause-only
returns-then-is_empty-clause-only c = λ tree is.
    one_expr (kinds c.args.tokens.now) _ tree
    (all-read (kinds c.args.tokens.now) _ _ (rw c.in-Some.is at c.in_ok-expr.ensures) (
    none-left c.in-Some.rest.now c.if-is_empty.ensures)) is

pub returns-else-is_empty-clause-found : goal.returns-else-is_empty-clause-found
returns-else-is_empty-clause-found c = λ tree is.
    more-left c.in-Some.rest.now c.if-is_empty.ensures
    (some-rest (kinds c.args.tokens.now) _ _ tree (rw c.in-Some.is at c.in_ok-expr.ensures) is)

pub returns-else-is_empty-clause-only : goal.returns-else-is_empty-clause-only
returns-else-is_empty-clause-only c = λ tree is.
    more-left c.in-Some.rest.now c.if-is_empty.ensures
    (some-rest (kinds c.args.tokens.now) _ _ tree (rw c.in-Some.is at c.in_ok-expr.ensures) is)
