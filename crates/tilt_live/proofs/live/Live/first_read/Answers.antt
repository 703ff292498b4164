use Rattle.std.proofs.Common.{FitsSigned, to_z-of_z, w64, ◌≡◌, ◌∙◌, ap, length, pos, ◌+ℤ◌, ◌-ℤ◌, rules, arith}
use Rattle.std.specs.Int.{saturate_signed}
use Rattle.std.proofs.lemmas.List.{take_all}
use Rattle.tilt_bounds.specs.Margins.{MarginsParts}
use Rattle.tilt_compiler.specs.Accepted.{AcceptedParts}
use Rattle.tilt_feed.specs.Printed.{printed}
use Rattle.tilt_input_state.specs.Resume.{end_of, first_read}
use Rattle.tilt_live.proofs.Lives.{upto-within}
use Rattle.tilt_live.proofs.Starting.{first-is}
use Rattle.tilt_live.proofs.live.Live.first_read.Goals as goal

pub returns-clause-value : goal.returns-clause-value
returns-clause-value c = λ accepted feed given is.
    let live = c.args.self.now in
    let fits : FitsSigned w64 c.saturating_sub.result = search rules in
    let back = c.back-back.ensures.value ∙ ap (λ (m : MarginsParts). m.back) (c.margins.ensures.value ∙ ap (λ (a : AcceptedParts). a.margins) is.running.accepted_is) in
    let sum : c.saturating_add.result ≡ saturate_signed w64 (live.upto +ℤ pos 1) = search rules in
    let tick : c.saturating_sub.result ≡ saturate_signed w64 (c.saturating_add.result -ℤ c.back-back.result) = search rules in
    to_z-of_z fits
    ∙ first-is accepted is.running.valid live.upto c.back-back.result c.saturating_add.result c.saturating_sub.result (upto-within live accepted feed given is)
    back sum tick
    ∙ ap (first_read accepted.core) is.upto

pub returns-clause-all : goal.returns-clause-all
returns-clause-all c = λ accepted feed is.
    let list = printed accepted.core feed in
    returns-clause-value c accepted feed (length list) is
    ∙ ap (λ l. first_read accepted.core (end_of accepted.core l)) (take_all (length list) list (omega arith))
