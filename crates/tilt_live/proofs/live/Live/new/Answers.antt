use Rattle.std.proofs.Common.{FitsSigned, to_z-of_z, w64, ◌∙◌, ap, sym, rules}
use Rattle.tilt_base.specs.declared.span.Span.{Span}
use Rattle.tilt_live.proofs.Resuming.{new-lives, new-started}
use Rattle.tilt_live.proofs.Starting.{domain-is}
use Rattle.tilt_live.proofs.live.Live.new.Goals as goal

pub returns-clause-started : goal.returns-clause-started
returns-clause-started c =
    let domain = c.domain-start.result in
    let fits : FitsSigned w64 domain.start = search rules in
    let at = to_z-of_z fits ∙ sym (ap (λ (d : Span). d.start) (domain-is c.args.accepted.core domain c.domain-start.ensures.value)) in
    new-started c.start.result c.args.accepted _ at c.domain-start.ensures.kept c.start.ensures.running c.start.ensures.tick

pub returns-clause-live : goal.returns-clause-live
returns-clause-live c = new-lives c.start.result c.args.accepted (returns-clause-started c)
