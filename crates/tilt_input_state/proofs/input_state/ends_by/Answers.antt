use Rattle.std.proofs.Common.{◌≡◌, neg_ℤ, Some, arith, refl, sym, ◌∙◌}
use Rattle.std.proofs.lemmas.Int.{ints}
use Rattle.tilt_base.specs.declared.limits.TheConstants.{T}
use Rattle.tilt_input_state.proofs.Ordered.{ends-order, none-order, order-ends}
use Rattle.tilt_stream.specs.Snap.{last_end}
use Rattle.tilt_input_state.proofs.input_state.ends_by.Goals as goal

pub returns-in-Some : goal.returns-in-Some
returns-in-Some c =
    let rows = c.args.rows.now in
    let end = c.in-Some.end in
    let is : last_end rows ≡ Some end = sym c.last_end.ensures.value ∙ c.in-Some.is in (
      λ yes. ends-order (neg_ℤ T) T c.args.tick end rows c.as_slice.ensures.in_order is (grind (arith, ints)),
      λ order. let low = order-ends (neg_ℤ T) c.args.tick end rows order is in grind (arith, ints),
    )

pub returns-in-None : goal.returns-in-None
returns-in-None c =
    (λ yes. none-order (neg_ℤ T) c.args.tick c.args.rows.now (sym c.last_end.ensures.value ∙ c.in-None.is), λ order. refl)
