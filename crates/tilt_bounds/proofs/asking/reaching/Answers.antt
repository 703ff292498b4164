use Rattle.std.proofs.Common.{arith, ◌≡◌, ap}
use Rattle.std.proofs.lemmas.Int.{ints, clamps}
use Rattle.tilt_bounds.proofs.Needs.{same_need}
use Rattle.tilt_core.specs.Needs.{Need, reaching}
use Rattle.tilt_bounds.proofs.asking.reaching.Goals as goal

pub overflow_add-result-2 : goal.overflow_add-result-2
overflow_add-result-2 c =
    let most = c.max-2.ensures.value in
    let low = c.requires.last.0 in
    let high = c.requires.last.1 in
    let need = c.requires.near.3 in
    let is = c.need.view_is in
    let ahead : c.need.inside.ahead ≡ c.args.need.ahead = ap (λ (n : Need). n.ahead) is in
    omega (arith, ints, clamps)

pub returns : goal.returns
returns c =
    let is = c.need.view_is in
    let back : c.need.inside.back ≡ c.args.need.back = ap (λ (n : Need). n.back) is in
    let ahead : c.need.inside.ahead ≡ c.args.need.ahead = ap (λ (n : Need). n.ahead) is in
    let farther = c.max.ensures.value in
    let later = c.max-2.ensures.value in
    let bounds = c.requires in
    let far = c.requires.near.1 in
    let long = c.requires.near.3 in
    let first_low = c.requires.first.0 in
    let first_high = c.requires.first.1 in
    let last_low = c.requires.last.0 in
    let last_high = c.requires.last.1 in
    same_need _ (reaching c.args.need c.args.first c.args.last) (omega (arith, ints, clamps)) (omega (arith, ints, clamps))
