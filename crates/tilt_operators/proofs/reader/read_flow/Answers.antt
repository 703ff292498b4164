use Rattle.std.proofs.lemmas.Result.{err_from_is_err_and}
use Rattle.tilt_syntax.proofs.Parsing.{sound-kinds}
use Rattle.tilt_operators.proofs.Reading.{text_is, tokens_refuse}
use Rattle.tilt_operators.proofs.Unique.{one_text, only_fault, only_memory, place_refuses, text-or-refused}
use Rattle.tilt_operators.proofs.reader.read_flow.Goals as goal

pub returns-in_err-tokens-clause-faulty : goal.returns-in_err-tokens-clause-faulty
returns-in_err-tokens-clause-faulty c =
    let p = err_from_is_err_and c.from_residual.result c.from_residual.ensures.1 in
    rw (p.1, p.2) (place_refuses c.args.bytes.now _ c.in_err-tokens.ensures.faulty)

pub returns-in_err-tokens-clause-only : goal.returns-in_err-tokens-clause-only
returns-in_err-tokens-clause-only c =
    let p = err_from_is_err_and c.from_residual.result c.from_residual.ensures.1 in
    rw (p.1, p.2) (only_memory c.args.bytes.now _ (place_refuses c.args.bytes.now _ c.in_err-tokens.ensures.faulty))

pub returns-in_err-tokens-clause-first : goal.returns-in_err-tokens-clause-first
returns-in_err-tokens-clause-first c =
    let p = err_from_is_err_and c.from_residual.result c.from_residual.ensures.1 in
    rw (p.1, p.2) (only_fault c.args.bytes.now _ (place_refuses c.args.bytes.now _ c.in_err-tokens.ensures.faulty))

pub flow_of-requires : goal.flow_of-requires
flow_of-requires c = rw c.deref.ensures.value (sound-kinds c.in_ok-tokens.tokens.items c.in_ok-tokens.ensures.sound)

pub returns-in_err-flow-clause-faulty : goal.returns-in_err-flow-clause-faulty
returns-in_err-flow-clause-faulty c =
    let p = err_from_is_err_and c.from_residual-in_err-flow.result c.from_residual-in_err-flow.ensures.1 in
    let known = rw c.deref.ensures.value at c.in_err-flow.ensures.faulty in
    rw (p.1, p.2) (tokens_refuse c.args.bytes.now c.in_ok-tokens.tokens.items c.in_ok-tokens.ensures.kept _ known)

pub returns-in_err-flow-clause-only : goal.returns-in_err-flow-clause-only
returns-in_err-flow-clause-only c =
    let p = err_from_is_err_and c.from_residual-in_err-flow.result c.from_residual-in_err-flow.ensures.1 in
    let known = rw c.deref.ensures.value at c.in_err-flow.ensures.faulty in
    rw (p.1, p.2) (only_memory c.args.bytes.now _ (tokens_refuse c.args.bytes.now c.in_ok-tokens.tokens.items c.in_ok-tokens.ensures.kept _ known))

pub returns-in_err-flow-clause-first : goal.returns-in_err-flow-clause-first
returns-in_err-flow-clause-first c =
    let p = err_from_is_err_and c.from_residual-in_err-flow.result c.from_residual-in_err-flow.ensures.1 in
    let known = rw c.deref.ensures.value at c.in_err-flow.ensures.faulty in
    rw (p.1, p.2) (only_fault c.args.bytes.now _ (tokens_refuse c.args.bytes.now c.in_ok-tokens.tokens.items c.in_ok-tokens.ensures.kept _ known))

pub returns-clause-flow : goal.returns-clause-flow
returns-clause-flow c =
    text_is c.args.bytes.now c.in_ok-tokens.tokens.items c.in_ok-tokens.ensures.kept c.in_ok-flow.flow
    (rw c.deref.ensures.value at c.in_ok-flow.ensures.flow)

pub returns-clause-only : goal.returns-clause-only
returns-clause-only c = λ flow is.
    one_text c.args.bytes.now c.in_ok-flow.flow flow
    (text_is c.args.bytes.now c.in_ok-tokens.tokens.items c.in_ok-tokens.ensures.kept c.in_ok-flow.flow
    (rw c.deref.ensures.value at c.in_ok-flow.ensures.flow)) is

pub returns-clause-first : goal.returns-clause-first
returns-clause-first c = λ fault is.
    text-or-refused c.args.bytes.now c.in_ok-flow.flow fault
    (text_is c.args.bytes.now c.in_ok-tokens.tokens.items c.in_ok-tokens.ensures.kept c.in_ok-flow.flow
    (rw c.deref.ensures.value at c.in_ok-flow.ensures.flow)) is
