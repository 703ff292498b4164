use Rattle.std.proofs.Common.{◌≤◌, length, map, ◌∙◌, arith}
use Rattle.std.proofs.lemmas.Result.{err_from_is_err_and}
use Rattle.tilt_syntax.specs.Query.{IsQueryOf, too_many, no_tokens, faulty, kinds, statements}
use Rattle.tilt_syntax.specs.Tree.{statement_tree}
use Rattle.tilt_syntax.proofs.Parsing.{none-left, some-left, some-statement, sound-kinds}
use Rattle.tilt_syntax.proofs.Refused.{only-fault, only-memory, query-or-refused}
use Rattle.tilt_syntax.proofs.Unique.{one_query}
use Rattle.tilt_syntax.proofs.parser.parse.Goals as goal

pub returns-then-is_empty-clause-faulty : goal.returns-then-is_empty-clause-faulty
returns-then-is_empty-clause-faulty c = rw (none-left c.args.tokens.now c.if-is_empty.ensures) (λ other. no_tokens)

pub returns-then-count_statements-gt-MOST-clause-faulty : goal.returns-then-count_statements-gt-MOST-clause-faulty
returns-then-count_statements-gt-MOST-clause-faulty c = λ other.
    let many = c.if-count_statements-gt-MOST.true in
    too_many (omega (arith, c.count_statements.ensures))

pub good_statements-requires-clause-sound : goal.good_statements-requires-clause-sound
good_statements-requires-clause-sound c = sound-kinds c.args.tokens.now c.requires.sound

-- the cause of a fault among the statements
pub returns-in_err-statements-clause-faulty : goal.returns-in_err-statements-clause-faulty
returns-in_err-statements-clause-faulty c =
    let p = err_from_is_err_and c.from_residual.result c.from_residual.ensures.1 in
    let few : length (statements (kinds c.args.tokens.now)) ≤ 256 = omega
    (arith, c.count_statements.ensures, c.if-count_statements-gt-MOST.false) in
    rw (p.1, p.2) (λ other. faulty few (c.in_err-statements.ensures.faulty other))

pub returns-in_err-statements-clause-only : goal.returns-in_err-statements-clause-only
returns-in_err-statements-clause-only c = λ query is.
    let p = err_from_is_err_and c.from_residual.result c.from_residual.ensures.1 in
    let few : length (statements (kinds c.args.tokens.now)) ≤ 256 = omega
    (arith, c.count_statements.ensures, c.if-count_statements-gt-MOST.false) in
    rw (p.1, p.2) (only-memory (kinds c.args.tokens.now) _ (λ other. faulty few (c.in_err-statements.ensures.faulty other)) query is)

pub returns-in_err-statements-clause-first : goal.returns-in_err-statements-clause-first
returns-in_err-statements-clause-first c = λ fault is.
    let p = err_from_is_err_and c.from_residual.result c.from_residual.ensures.1 in
    let few : length (statements (kinds c.args.tokens.now)) ≤ 256 = omega
    (arith, c.count_statements.ensures, c.if-count_statements-gt-MOST.false) in
    rw (p.1, p.2) (only-fault (kinds c.args.tokens.now) _ (λ other. faulty few (c.in_err-statements.ensures.faulty other)) fault is)

-- what was read is the query
read : (c : goal.In_ok-statements) → IsQueryOf (kinds c.args.tokens.now) (map statement_tree c.in_ok-statements.statements.items)
read c = record {
  some = some-statement c.args.tokens.now (some-left c.args.tokens.now c.if-is_empty.ensures);
  few = omega (arith, c.count_statements.ensures, c.if-count_statements-gt-MOST.false);
  good = c.in_ok-statements.ensures.good;
}

pub new-requires : goal.new-requires
new-requires c = record { tokens = kinds c.args.tokens.now; sound = sound-kinds c.args.tokens.now c.requires.sound; parsed = read c }

pub returns-clause-query : goal.returns-clause-query
returns-clause-query c = rw c.new.ensures (read c.before)

pub returns-clause-only : goal.returns-clause-only
returns-clause-only c = λ query is. c.new.ensures ∙ one_query (kinds c.args.tokens.now) _ query (read c.before) is

pub returns-clause-first : goal.returns-clause-first
returns-clause-first c = λ fault is. query-or-refused (kinds c.args.tokens.now) _ fault (read c.before) is
