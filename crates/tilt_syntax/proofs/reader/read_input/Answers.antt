use Rattle.std.proofs.Common.{refl}
use Rattle.tilt_syntax.specs.Statements.{end_plan}
use Rattle.tilt_syntax.specs.Tree.{Input}
use Rattle.tilt_syntax.proofs.Descending.{name-comes, name-none, end-comes, end-none}
use Rattle.tilt_syntax.proofs.reader.read_input.Goals as goal

pub returns-in_default : goal.returns-in_default
returns-in_default c = λ behind. name-none _ (λ x us. end_plan us (behind (Input x))) c.in_default.ensures.front

pub returns-then-not-is_end : goal.returns-then-not-is_end
returns-then-not-is_end c = λ behind.
    name-comes _ _ _ (λ x us. end_plan us (behind (Input x))) _ c.in-Some.ensures.front (end-none _ _ (λ e. (
    let at_end = c.if-not-is_end.ensures.1 e in cc)))

pub returns : goal.returns
returns c = rw c.in_ok-name.ensures (λ behind r h.
    name-comes _ _ _ (λ x us. end_plan us (behind (Input x))) r c.in-Some.ensures.front (
    end-comes _ _ r (c.if-not-is_end.ensures.0 refl) h))
