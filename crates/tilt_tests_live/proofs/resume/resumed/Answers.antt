use Rattle.std.proofs.Common.{◌≤ℤ◌, rules, subst, sym, w64}
use Rattle.std.proofs.lemmas.Int.{to_z-of_z}
use Rattle.tilt_base.specs.declared.span.Span.{Span}
use Rattle.tilt_live.proofs.Starting.{domain-is}
use Rattle.tilt_tests_live.proofs.resume.resumed.Goals as goal

pub resume-requires-clause-low : goal.resume-requires-clause-low
resume-requires-clause-low c =
    let domain = c.domain-domain.result in
    let low : domain.start ≤ℤ c.args.from = search rules in
    rw (to_z-of_z w64 c.args.from c.ranges.from)
    (subst (λ (d : Span). d.start ≤ℤ c.args.from) (sym (domain-is c.in_ok-accepted.accepted.core domain c.domain-domain.ensures.value)) low)

pub resume-requires-clause-high : goal.resume-requires-clause-high
resume-requires-clause-high c =
    let domain = c.domain-domain.result in
    let high : c.args.from ≤ℤ domain.end = search rules in
    rw (to_z-of_z w64 c.args.from c.ranges.from)
    (subst (λ (d : Span). c.args.from ≤ℤ d.end) (sym (domain-is c.in_ok-accepted.accepted.core domain c.domain-domain.ensures.value)) high)
