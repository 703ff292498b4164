use Rattle.std.proofs.Common.{◌≡◌, ℤ, ◌+ℤ◌, ◌≤ℤ◌, ◌<ℤ◌, IsTrue, int_le, FitsSigned, w32, w64, rules, arith}
use Rattle.std.proofs.lemmas.Int.{ints, to_z-of_z}
use Rattle.std.specs.Int.{w128}
use Rattle.tilt_zones.proofs.order.is_followed_by.Goals as goal

passes : (a b : ℤ) → a ≤ℤ b → IsTrue (int_le a b)
passes a b low = grind (arith, ints)

passed : (a b : ℤ) → IsTrue (int_le a b) → a ≤ℤ b
passed a b low = grind (arith, ints)

pub returns-then-transition-next : goal.returns-then-transition-next
returns-then-transition-next c = (λ f. cc, λ followed. let later = followed.later in absurd (grind (arith, ints)))

pub returns : goal.returns
returns c =
    let before_fits : FitsSigned w32 c.args.before = c.ranges.before in
    let moment_fits : FitsSigned w64 c.args.transition.moment = search rules in
    let by_fits : FitsSigned w128 c.local_by.result = search rules in
    let from_fits : FitsSigned w128 c.shown_from-from.result = search rules in
    let new_fits : FitsSigned w128 c.shown_from.result = search rules in
    let later : c.args.transition.moment <ℤ c.args.next.moment = grind (arith, ints) in
    let by : c.local_by.result ≡ c.args.transition.moment +ℤ c.args.before = simp to_z-of_z at c.local_by.ensures in
    let not_over = simp to_z-of_z at c.if-local_by-from.false in
    let old : c.local_by.result ≤ℤ c.shown_from-from.result = grind (arith, ints) in
    let from = c.shown_from-from.ensures in
    let is = c.shown_from.ensures in
    simp to_z-of_z (
      λ new.
          let low = passed c.shown_from.result c.shown_from-from.result new in
          record { later = later; past_old = omega (arith, ints); past_new = omega (arith, ints) },
      λ followed.
          let past = followed.past_new in
          passes c.shown_from.result c.shown_from-from.result (omega (arith, ints)),
    )
