use Rattle.std.proofs.Common.{refl}
use Rattle.tilt_lexer.specs.declared.mark.Mark.TheVariants as mark
use Rattle.tilt_lexer.specs.declared.token.Tok.TheVariants.{Mark as Sign}
use Rattle.tilt_syntax.specs.Descent.{Ask, Reading, done, met, missed, expect}
use Rattle.tilt_syntax.specs.Statements.{domain_plan, end_plan, grid_plan}
use Rattle.tilt_syntax.specs.Tree.{Let}
use Rattle.tilt_syntax.specs.declared.level.Level.TheVariants.{Choice}
use Rattle.tilt_syntax.proofs.Descending.{name-comes, name-none, end-comes, end-none}
use Rattle.tilt_syntax.proofs.Finding.{found-comes, none-comes}
use Rattle.tilt_syntax.proofs.reader.read_let.Goals as goal

pub returns-in_default : goal.returns-in_default
returns-in_default c = λ behind.
    name-none _ (λ x us. expect (Sign mark.Assign) us (λ vs. Ask (Reading Choice vs) (λ e.
    domain_plan e.rest (λ over ws. grid_plan ws (
    λ every xs. end_plan xs (behind (Let x e.tree over every))))))) c.in_default.ensures.front

pub returns-in_default-after_mark : goal.returns-in_default-after_mark
returns-in_default-after_mark c = λ behind.
    name-comes _ _ _ (λ x us. expect (Sign mark.Assign) us (λ vs. Ask (Reading Choice vs) (λ e.
    domain_plan e.rest (λ over ws. grid_plan ws (
    λ every xs. end_plan xs (behind (Let x e.tree over every))))))) _ c.in-Some.ensures.front (
    missed c.in_default-after_mark.ensures.front done)

pub returns-in_default-2 : goal.returns-in_default-2
returns-in_default-2 c = λ behind.
    name-comes _ _ _ (λ x us. expect (Sign mark.Assign) us (λ vs. Ask (Reading Choice vs) (λ e.
    domain_plan e.rest (λ over ws. grid_plan ws (
    λ every xs. end_plan xs (behind (Let x e.tree over every))))))) _ c.in-Some.ensures.front (met c.in-Some-after_mark.ensures.front (
    none-comes (rw c.in_default-2.is at c.in_ok-expr.ensures)))

pub returns-in_default-domain : goal.returns-in_default-domain
returns-in_default-domain c = λ behind.
    name-comes _ _ _ (λ x us. expect (Sign mark.Assign) us (λ vs. Ask (Reading Choice vs) (λ e.
    domain_plan e.rest (λ over ws. grid_plan ws (
    λ every xs. end_plan xs (behind (Let x e.tree over every))))))) _ c.in-Some.ensures.front (met c.in-Some-after_mark.ensures.front (
    found-comes (rw c.in-Some-2.is at c.in_ok-expr.ensures) (c.in_default-domain.ensures _)))

pub returns-in_default-grid : goal.returns-in_default-grid
returns-in_default-grid c = λ behind.
    name-comes _ _ _ (λ x us. expect (Sign mark.Assign) us (λ vs. Ask (Reading Choice vs) (λ e.
    domain_plan e.rest (λ over ws. grid_plan ws (
    λ every xs. end_plan xs (behind (Let x e.tree over every))))))) _ c.in-Some.ensures.front (met c.in-Some-after_mark.ensures.front (
    found-comes (rw c.in-Some-2.is at c.in_ok-expr.ensures) (c.in-Some-domain.ensures.goes_on _ _ (c.in_default-grid.ensures _))))

pub returns-then-not-is_end : goal.returns-then-not-is_end
returns-then-not-is_end c = λ behind.
    name-comes _ _ _ (λ x us. expect (Sign mark.Assign) us (λ vs. Ask (Reading Choice vs) (λ e.
    domain_plan e.rest (λ over ws. grid_plan ws (
    λ every xs. end_plan xs (behind (Let x e.tree over every))))))) _ c.in-Some.ensures.front (met c.in-Some-after_mark.ensures.front (
    found-comes (rw c.in-Some-2.is at c.in_ok-expr.ensures) (c.in-Some-domain.ensures.goes_on _ _ (c.in-Some-grid.ensures.goes_on _ _ (
    end-none _ _ (λ e. (let at_end = c.if-not-is_end.ensures.1 e in cc)))))))

pub returns : goal.returns
returns c = rw c.in_ok-name.ensures (λ behind r h.
    name-comes _ _ _ (λ x us. expect (Sign mark.Assign) us (λ vs. Ask (Reading Choice vs) (λ e.
    domain_plan e.rest (λ over ws. grid_plan ws (
    λ every xs. end_plan xs (behind (Let x e.tree over every))))))) _ c.in-Some.ensures.front (met c.in-Some-after_mark.ensures.front (
    found-comes (rw c.in-Some-2.is at c.in_ok-expr.ensures) (c.in-Some-domain.ensures.goes_on _ _ (c.in-Some-grid.ensures.goes_on _ _ (
    end-comes _ _ r (c.if-not-is_end.ensures.0 refl) h))))))
