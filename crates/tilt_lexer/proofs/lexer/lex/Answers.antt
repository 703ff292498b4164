use Rattle.std.proofs.Common.{refl, sym, add-zero, get_or-drop, arith}
use Rattle.std.proofs.lemmas.List.{take_rest}
use Rattle.std.proofs.lemmas.Result.{err_from_is_err_and}
use Rattle.tilt_lexer.proofs.Next.{next_fault}
use Rattle.tilt_lexer.proofs.Reading.{front_some, before_blank, before_token, tokens_all, refused_tokens, refused_first}
use Rattle.tilt_lexer.proofs.Sound.{sound}
use Rattle.tilt_lexer.proofs.Unique.{same_tokens, tokens_or_fault}
use Rattle.tilt_lexer.proofs.lexer.lex.Goals as goal

pub loop-at-preserved-then-is_blank : goal.loop-at-preserved-then-is_blank
loop-at-preserved-then-is_blank c =
    let bytes = c.args.bytes.now in
    let blank = rw (take_rest bytes c.loop-at.at, get_or-drop, add-zero) at c.if-is_blank.ensures in
    before_blank bytes c.loop-at.at c.loop-at.tokens.items c.loop-at.invariant c.loop-at-test.true (sym blank)

pub loop-at-preserved : goal.loop-at-preserved
loop-at-preserved c =
    let bytes = c.args.bytes.now in
    let front = rw (take_rest bytes c.loop-at.at) at c.in_ok-kind.ensures.ok in
    before_token bytes c.loop-at.at c.in_ok-kind.length c.in_ok-kind.kind c.loop-at.tokens.items _ c.loop-at.invariant front c.in_ok-push_token.ensures

pub loop-at-smaller : goal.loop-at-smaller
loop-at-smaller c =
    let bytes = c.args.bytes.now in
    let front = rw (take_rest bytes c.loop-at.at) at c.in_ok-kind.ensures.ok in
    omega (arith, c.loop-at-test.true, front_some c.in_ok-kind.kind c.in_ok-kind.length _ front)

pub returns-in_err-kind-clause-faulty : goal.returns-in_err-kind-clause-faulty
returns-in_err-kind-clause-faulty c =
    let p = err_from_is_err_and c.from_residual.result c.from_residual.ensures.1 in
    let known = rw (take_rest c.args.bytes.now c.loop-at.at) at c.in_err-kind.ensures.err in
    rw (p.1, p.2) (λ other. c.loop-at.invariant.faults _ (next_fault (known other)))

pub returns-in_err-kind-clause-only : goal.returns-in_err-kind-clause-only
returns-in_err-kind-clause-only c = λ tokens are.
    let p = err_from_is_err_and c.from_residual.result c.from_residual.ensures.1 in
    let known = rw (take_rest c.args.bytes.now c.loop-at.at) at c.in_err-kind.ensures.err in
    rw (p.1, p.2) (refused_tokens c.args.bytes.now _ (λ other. c.loop-at.invariant.faults _ (next_fault (known other))) tokens are)

pub returns-in_err-kind-clause-first : goal.returns-in_err-kind-clause-first
returns-in_err-kind-clause-first c = λ first is_first.
    let p = err_from_is_err_and c.from_residual.result c.from_residual.ensures.1 in
    let known = rw (take_rest c.args.bytes.now c.loop-at.at) at c.in_err-kind.ensures.err in
    rw (p.1, p.2) (refused_first c.args.bytes.now _ (λ other. c.loop-at.invariant.faults _ (next_fault (known other))) first is_first)

pub returns-clause-tokens : goal.returns-clause-tokens
returns-clause-tokens c =
    tokens_all c.args.bytes.now c.loop-at.at c.loop-at.tokens.items c.loop-at.invariant c.loop-at-test.false

pub returns-clause-only : goal.returns-clause-only
returns-clause-only c = λ tokens are.
    same_tokens (tokens_all c.args.bytes.now c.loop-at.at c.loop-at.tokens.items c.loop-at.invariant c.loop-at-test.false) are refl refl

pub returns-clause-first : goal.returns-clause-first
returns-clause-first c = λ first is_first.
    tokens_or_fault (tokens_all c.args.bytes.now c.loop-at.at c.loop-at.tokens.items c.loop-at.invariant c.loop-at-test.false) is_first refl

pub returns-clause-sound : goal.returns-clause-sound
returns-clause-sound c =
    sound (tokens_all c.args.bytes.now c.loop-at.at c.loop-at.tokens.items c.loop-at.invariant c.loop-at-test.false)
