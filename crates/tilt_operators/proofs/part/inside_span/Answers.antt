use Rattle.std.proofs.Common.{[], ◌∷◌}
use Rattle.tilt_lexer.specs.declared.mark.Mark.TheVariants.{Semicolon}
use Rattle.tilt_lexer.specs.declared.token.Tok.TheVariants.{Mark as Sign}
use Rattle.tilt_operators.proofs.Spans.{closed_by, ended_by, opened, parted}
use Rattle.tilt_operators.proofs.part.inside_span.Goals as goal

pub returns-in_err-start : goal.returns-in_err-start
returns-in_err-start c = rw c.from_residual-in_err-start.ensures (λ span h.
    c.in_err-start.ensures.front span.start _ (opened _ _ span c.in_ok-opened.ensures.front h).start)

pub returns-in_err-end : goal.returns-in_err-end
returns-in_err-end c = rw c.from_residual-in_err-end.ensures (λ span h.
    c.in_err-end.ensures.front span.end _ (
    parted _ _ _ _ span c.in_ok-start.ensures.front c.in_ok-between.ensures.front (opened _ _ span c.in_ok-opened.ensures.front h)))

pub returns-in_err-rest : goal.returns-in_err-rest
returns-in_err-rest c = rw c.from_residual-in_err-rest.ensures (λ span h.
    c.in_err-rest.ensures.front (Sign Semicolon ∷ []) (
    ended_by _ _ _ _ _ _ span c.in_ok-start.ensures.front c.in_ok-between.ensures.front c.in_ok-end.ensures.front (
    opened _ _ span c.in_ok-opened.ensures.front h)))

pub returns-else-is_end : goal.returns-else-is_end
returns-else-is_end c = λ span h. (
    let ended = closed_by _ _ _ _ _ _ _ span c.in_ok-start.ensures.front c.in_ok-between.ensures.front c.in_ok-end.ensures.front
    c.in_ok-rest.ensures.front (opened _ _ span c.in_ok-opened.ensures.front h) in
    let at_end = c.if-is_end.ensures.1 ended in
    cc)
