use Rattle.std.proofs.lemmas.Result.{err_from_is_err_and}
use Rattle.tilt_syntax.proofs.Texts.{one_text, query_or_refused, only_memory, only_fault, place_refuses, text_is, tokens_refuse}
use Rattle.tilt_syntax.proofs.text.read_text.Goals as goal

pub returns-in_err-tokens-clause-faulty : goal.returns-in_err-tokens-clause-faulty
returns-in_err-tokens-clause-faulty c =
    let p = err_from_is_err_and c.from_residual.result c.from_residual.ensures.1 in
    rw (p.1, p.2) (place_refuses c.args.bytes.now _ c.in_err-tokens.ensures.faulty)

pub returns-in_err-tokens-clause-only : goal.returns-in_err-tokens-clause-only
returns-in_err-tokens-clause-only c =
    let p = err_from_is_err_and c.from_residual.result c.from_residual.ensures.1 in
    rw (p.1, p.2) (only_memory c.args.bytes.now _ (place_refuses c.args.bytes.now _ c.in_err-tokens.ensures.faulty))

pub returns-in_err-tokens-clause-first : goal.returns-in_err-tokens-clause-first
returns-in_err-tokens-clause-first c =
    let p = err_from_is_err_and c.from_residual.result c.from_residual.ensures.1 in
    rw (p.1, p.2) (only_fault c.args.bytes.now _ (place_refuses c.args.bytes.now _ c.in_err-tokens.ensures.faulty))

pub parse-requires : goal.parse-requires
parse-requires c = record { sound = rw c.deref.ensures.value c.in_ok-tokens.ensures.sound }

pub returns-in_err-query-clause-faulty : goal.returns-in_err-query-clause-faulty
returns-in_err-query-clause-faulty c =
    let p = err_from_is_err_and c.from_residual-in_err-query.result c.from_residual-in_err-query.ensures.1 in
    let known = rw c.deref.ensures.value at c.in_err-query.ensures.faulty in
    rw (p.1, p.2) (tokens_refuse c.args.bytes.now c.in_ok-tokens.tokens.items c.in_ok-tokens.ensures.kept _ known)

pub returns-in_err-query-clause-only : goal.returns-in_err-query-clause-only
returns-in_err-query-clause-only c =
    let p = err_from_is_err_and c.from_residual-in_err-query.result c.from_residual-in_err-query.ensures.1 in
    let known = rw c.deref.ensures.value at c.in_err-query.ensures.faulty in
    rw (p.1, p.2) (only_memory c.args.bytes.now _ (tokens_refuse c.args.bytes.now c.in_ok-tokens.tokens.items c.in_ok-tokens.ensures.kept _ known))

pub returns-in_err-query-clause-first : goal.returns-in_err-query-clause-first
returns-in_err-query-clause-first c =
    let p = err_from_is_err_and c.from_residual-in_err-query.result c.from_residual-in_err-query.ensures.1 in
    let known = rw c.deref.ensures.value at c.in_err-query.ensures.faulty in
    rw (p.1, p.2) (only_fault c.args.bytes.now _ (tokens_refuse c.args.bytes.now c.in_ok-tokens.tokens.items c.in_ok-tokens.ensures.kept _ known))

pub returns-clause-query : goal.returns-clause-query
returns-clause-query c =
    text_is c.args.bytes.now c.in_ok-tokens.tokens.items c.in_ok-tokens.ensures.kept c.in_ok-query.query
    (rw c.deref.ensures.value at c.in_ok-query.ensures.query)

pub returns-clause-only : goal.returns-clause-only
returns-clause-only c =
    let read = rw c.deref.ensures.value at c.in_ok-query.ensures.query in
    λ query is. one_text c.args.bytes.now c.in_ok-query.query query
    (text_is c.args.bytes.now c.in_ok-tokens.tokens.items c.in_ok-tokens.ensures.kept c.in_ok-query.query read) is

pub returns-clause-first : goal.returns-clause-first
returns-clause-first c =
    let read = rw c.deref.ensures.value at c.in_ok-query.ensures.query in
    λ fault is. query_or_refused c.args.bytes.now c.in_ok-query.query fault
    (text_is c.args.bytes.now c.in_ok-tokens.tokens.items c.in_ok-tokens.ensures.kept c.in_ok-query.query read) is
