use Rattle.std.proofs.Common.{neg_ℤ, ℤ, ◌≤ℤ◌, ◌<ℤ◌, FitsSigned, arith, rules, subst, sym, to_z-of_z, w64}
use Rattle.std.proofs.lemmas.Int.{ints}
use Rattle.tilt_base.specs.declared.limits.TheConstants.{T}
use Rattle.tilt_input_state.proofs.Ordered.{opened-order, order-opened}
use Rattle.tilt_input_state.proofs.input_state.is_in_order.Goals as goal
use Rattle.tilt_input_state.proofs.input_state.is_in_order.Goals.{then-row-via-then-row, then-row-via-else-row+then-edge-row}
use Rattle.tilt_stream.specs.Snap.{InOrder}

pub returns-then-row : goal.returns-then-row
returns-then-row c =
    let rows = c.args.rows.now in
    let row = c.in-Some.row in
    let fits : FitsSigned w64 row.start = search rules in
    let same = to_z-of_z fits in (
      λ yes. absurd (cc yes),
      λ h.
          let last = order-opened rows c.args.edge row c.in-Some.is h in
          let low : neg_ℤ T ≤ℤ row.start = last.low in
          let some : row.start <ℤ c.args.edge.watermark = last.some in
          elim c.then-row.branch [
            | then-row-via-then-row w ↦ let below = w.if-row in absurd (grind (arith, ints))
            | then-row-via-else-row+then-edge-row w ↦ let below = w.if-edge-row in absurd (grind (arith, ints))
          ],
    )

pub returns : goal.returns
returns c =
    let rows = c.args.rows.now in
    let edge = c.args.edge in
    let row = c.in-Some.row in
    let fits : FitsSigned w64 row.start = search rules in
    let same = to_z-of_z fits in
    let low = c.if-edge.false in
    let high = c.if-edge-gt-T.false in
    let from = c.if-row.false in
    let some = c.if-edge-row.false in (
      λ yes.
          opened-order rows edge row c.in-Some.is (grind (arith, ints)) (grind (arith, ints)) (grind (arith, ints)) (grind (arith, ints))
          (subst (λ (t : ℤ). InOrder (neg_ℤ T) t rows) same (c.ends_by-2.ensures.0 yes)),
      λ h.
          c.ends_by-2.ensures.1 (subst (λ (t : ℤ). InOrder (neg_ℤ T) t rows) (sym same) (order-opened rows edge row c.in-Some.is h).order),
    )
