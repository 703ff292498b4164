use Rattle.std.proofs.Common.{◌+◌, arith}
use Rattle.std.proofs.lemmas.List.{take_rest}
use Rattle.std.proofs.lemmas.Result.{err_from_is_err_and}
use Rattle.tilt_lexer.proofs.Next.{none_left, starts, fault_past, token_past}
use Rattle.tilt_lexer.proofs.cursor.next_token.Goals as goal

pub returns-then-start-bytes-clause-next : goal.returns-then-start-bytes-clause-next
returns-then-start-bytes-clause-next c =
    let count = rw (take_rest c.args.bytes.now c.args.at) at c.blanks_length.ensures.blanks in
    none_left c.args.at c.args.bytes.now c.blanks_length.result count (omega arith)

pub front_token-requires-clause-no_blank : goal.front_token-requires-clause-no_blank
front_token-requires-clause-no_blank c =
    let count = rw (take_rest c.args.bytes.now c.args.at) at c.blanks_length.ensures.blanks in
    rw (take_rest c.args.bytes.now (c.args.at + c.blanks_length.result)) (
    starts c.args.at c.args.bytes.now c.blanks_length.result count (omega arith))

pub returns-in_err-kind-clause-faulty : goal.returns-in_err-kind-clause-faulty
returns-in_err-kind-clause-faulty c =
    let p = err_from_is_err_and c.from_residual.result c.from_residual.ensures.1 in
    let count = rw (take_rest c.args.bytes.now c.args.at) at c.blanks_length.ensures.blanks in
    let known = rw (take_rest c.args.bytes.now (c.args.at + c.blanks_length.result)) at c.in_err-kind.ensures.err in
    rw (p.1, p.2) (λ other. fault_past c.args.at c.args.bytes.now c.blanks_length.result count _ (known other))

pub returns-clause-next : goal.returns-clause-next
returns-clause-next c =
    let count = rw (take_rest c.args.bytes.now c.args.at) at c.blanks_length.ensures.blanks in
    let front = rw (take_rest c.args.bytes.now (c.args.at + c.blanks_length.result)) at c.in_ok-kind.ensures.ok in
    token_past c.args.at c.args.bytes.now c.blanks_length.result count c.in_ok-kind.kind c.in_ok-kind.length front
