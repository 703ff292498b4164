use Rattle.std.proofs.Common.{FitsSigned, w64, rules}
use Rattle.std.proofs.lemmas.Int.{to_z-of_z}
use Rattle.std.proofs.lemmas.Result.{IfOk-weaker}
use Rattle.tilt_compiler.proofs.Compiled.{output-run, domain-within}
use Rattle.tilt_compiler.proofs.compiler.Accepted.code.Goals as goal

pub code_on-requires : goal.code_on-requires
code_on-requires c =
    let domain = c.domain-domain.result in
    let start : FitsSigned w64 domain.start = search rules in
    let end : FitsSigned w64 domain.end = search rules in
    rw (to_z-of_z w64 domain.start start, to_z-of_z w64 domain.end end)
    (domain-within c.args.self.now.core domain c.domain-domain.ensures.value c.domain-domain.ensures.stretch.1)

pub returns-clause-code : goal.returns-clause-code
returns-clause-code c =
    let domain = c.domain-domain.result in
    let start : FitsSigned w64 domain.start = search rules in
    let end : FitsSigned w64 domain.end = search rules in
    IfOk-weaker c.code_on.result _ _ (λ code is. record {
      margins = c.args.self.now.margins;
      domain = domain;
      near = c.domain-domain.ensures.kept.near;
      stretch = c.domain-domain.ensures.value;
      is = rw (to_z-of_z w64 domain.start start, to_z-of_z w64 domain.end end) at is;
    }) c.code_on.ensures.code

pub returns-clause-means : goal.returns-clause-means
returns-clause-means c =
    let domain = c.domain-domain.result in
    let start : FitsSigned w64 domain.start = search rules in
    let end : FitsSigned w64 domain.end = search rules in
    IfOk-weaker c.code_on.result _ _ (λ code means rows many. output-run c.args.self.now.core domain code c.domain-domain.ensures.value rows many
    (rw (to_z-of_z w64 domain.start start, to_z-of_z w64 domain.end end) at (means rows many))) c.code_on.ensures.means
