use Rattle.std.proofs.Common.{arith, ◌≡◌, Some, None, ◌-◌, suc, length, ap, sym, ◌∙◌, subst, Option, IsSome, true, false}
use Rattle.tilt_base.specs.declared.span.Span.{Span}
use Rattle.tilt_core.proofs.Last.{domain_of-last, domain_of-stretch}
use Rattle.tilt_core.specs.Core.{IsStretch, domain_of}
use Rattle.tilt_core.specs.CoreTree.{Definition}
use Rattle.tilt_core.proofs.query_core.Core.domain.Goals as goal

pub unreachable-requires-in_default-over : goal.unreachable-requires-in_default-over
unreachable-requires-in_default-over c =
    let defs = c.self.inside.defs.items in
    let count : length defs ≡ suc (length defs - 1) = omega (arith, c.self.invariant.one_emitted) in
    let is = domain_of-last defs (length defs - 1) c.in-Some.last.now count (rw c.deref.ensures.value at c.in-Some.ensures.value) in
    let none : domain_of defs ≡ None = is ∙ ap (λ (d : Definition). d.over) (sym c.last-2.view_is) ∙ c.in_default-over.is in
    let wrong : false ≡ true = subst (λ (o : Option Span). IsSome o) none c.self.invariant.domain in
    cc

pub returns-clause-span : goal.returns-clause-span
returns-clause-span c =
    let defs = c.self.inside.defs.items in
    let count : length defs ≡ suc (length defs - 1) = omega (arith, c.self.invariant.one_emitted) in
    let is = domain_of-last defs (length defs - 1) c.in-Some.last.now count (rw c.deref.ensures.value at c.in-Some.ensures.value) in
    rw (← c.self.view_is) (is ∙ ap (λ (d : Definition). d.over) (sym c.last-2.view_is) ∙ c.in-Some-over.is)

pub returns-clause-stretch : goal.returns-clause-stretch
returns-clause-stretch c =
    let defs = c.self.inside.defs.items in
    let count : length defs ≡ suc (length defs - 1) = omega (arith, c.self.invariant.one_emitted) in
    let is = domain_of-last defs (length defs - 1) c.in-Some.last.now count (rw c.deref.ensures.value at c.in-Some.ensures.value) in
    let span : domain_of defs ≡ Some c.in-Some-over.domain = is ∙ ap (λ (d : Definition). d.over) (sym c.last-2.view_is) ∙ c.in-Some-over.is in
    subst (λ (o : Option Span). IsStretch o) span (domain_of-stretch (length c.self.inside.inputs.items) defs c.self.invariant.definitions)
