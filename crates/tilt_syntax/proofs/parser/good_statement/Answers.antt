use Rattle.std.proofs.Common.{refl}
use Rattle.std.proofs.lemmas.List.{length-map}
use Rattle.tilt_syntax.specs.Query.{kinds, too_long, no_statement, misplaced}
use Rattle.tilt_syntax.specs.Tree.{statement_tree}
use Rattle.tilt_syntax.proofs.Statements.{is-statement, no-statement}
use Rattle.tilt_syntax.proofs.parser.good_statement.Goals as goal

pub returns-then-tokens-gt-MOST-clause-faulty : goal.returns-then-tokens-gt-MOST-clause-faulty
returns-then-tokens-gt-MOST-clause-faulty c = λ other. too_long (rw length-map c.if-tokens-gt-MOST.true)

pub returns-in_default-clause-faulty : goal.returns-in_default-clause-faulty
returns-in_default-clause-faulty c = λ other.
    no_statement (rw length-map c.if-tokens-gt-MOST.false) (no-statement (kinds c.args.tokens.now) (
    rw c.in_default.is at c.in_ok-statement.ensures))

pub returns-then-is_in_place-clause-good : goal.returns-then-is_in_place-clause-good
returns-then-is_in_place-clause-good c = record {
  short = rw length-map c.if-tokens-gt-MOST.false;
  parsed = is-statement (kinds c.args.tokens.now) (statement_tree c.in-Some.statement) (rw c.in-Some.is at c.in_ok-statement.ensures);
  in_place = c.if-is_in_place.ensures.0 refl;
}

pub returns-else-is_in_place-clause-faulty : goal.returns-else-is_in_place-clause-faulty
returns-else-is_in_place-clause-faulty c = λ other.
    misplaced (statement_tree c.in-Some.statement) (rw length-map c.if-tokens-gt-MOST.false)
    (is-statement (kinds c.args.tokens.now) (statement_tree c.in-Some.statement) (rw c.in-Some.is at c.in_ok-statement.ensures))
    (λ h. (let placed = c.if-is_in_place.ensures.1 h in cc))
