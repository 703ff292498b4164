use Rattle.std.proofs.Common.{FitsSigned, to_z, of_z, to_z-of_z, w64, ◌≡◌, refl, rules, ◌-ℤ◌, pos}
use Rattle.std.specs.Int.{int_min}
use Rattle.tilt_compiler.specs.Accepted.{IsAccepted}
use Rattle.tilt_live.proofs.Near.{near-code}
use Rattle.tilt_live.proofs.Resuming.{first-run}
use Rattle.tilt_live.proofs.Starting.{starts-code, starts-within}
use Rattle.tilt_live.proofs.live.Live.start.Goals as goal

pub code_on-requires : goal.code_on-requires
code_on-requires c =
    let domain = c.domain-domain.result in
    let start = c.min-start.result in
    let end_fits : FitsSigned w64 domain.end = search rules in
    let start_fits : FitsSigned w64 start = search rules in
    let at : start ≡ int_min c.args.from (domain.end -ℤ pos 1) = search rules in
    rw (to_z-of_z start_fits, to_z-of_z end_fits)
    (starts-within c.args.accepted.core domain c.args.from start c.domain-domain.ensures.value c.domain-domain.ensures.stretch c.requires.low at)

pub new-requires : goal.new-requires
new-requires c =
    let domain = c.domain-domain.result in
    let end_fits : FitsSigned w64 domain.end = search rules in
    let valid : IsAccepted c.args.accepted = rw (← c.accepted.view_is) c.accepted.invariant.0 in
    near-code c.args.accepted c.in_ok-code.code (to_z w64 (of_z w64 c.min-start.result)) domain.end valid c.domain-domain.ensures.stretch.2
    (rw (to_z-of_z end_fits) at c.in_ok-code.ensures.code)

pub returns-clause-running : goal.returns-clause-running
returns-clause-running c =
    let valid : IsAccepted c.args.accepted = rw (← c.accepted.view_is) c.accepted.invariant.0 in
    let domain = c.domain-domain.result in
    let start = c.min-start.result in
    let end_fits : FitsSigned w64 domain.end = search rules in
    let start_fits : FitsSigned w64 start = search rules in
    let at : start ≡ int_min c.args.from (domain.end -ℤ pos 1) = search rules in
    let code_is =
    starts-code c.args.accepted c.in_ok-code.code domain c.args.from start valid c.domain-domain.ensures.value at
    (rw (to_z-of_z start_fits, to_z-of_z end_fits) at c.in_ok-code.ensures.code) (rw (to_z-of_z start_fits, to_z-of_z end_fits) at c.in_ok-code.ensures.means) in
    (c.in_ok-code.code, code_is, first-run _ c.args.accepted _ c.in_ok-code.code refl refl refl valid code_is c.in_ok-code.ensures.inputs c.in_ok-engine.ensures.engine)
