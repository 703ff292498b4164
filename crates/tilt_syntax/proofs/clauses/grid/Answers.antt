use Rattle.std.proofs.Common.{◌≡◌, to_z, of_z, w64, Some, arith}
use Rattle.std.proofs.lemmas.Int.{ints}
use Rattle.tilt_syntax.specs.Descent.{met, missed}
use Rattle.tilt_syntax.specs.Statements.{from_plan, grid_plan}
use Rattle.tilt_syntax.proofs.Descending.{number-comes, number-none}
use Rattle.tilt_syntax.proofs.Finding.{first-rest, same-rest, then-rest}
use Rattle.tilt_syntax.proofs.clauses.grid.Goals as goal

pub returns-in_default : goal.returns-in_default
unfolding grid_plan
returns-in_default c = record { goes_on = λ behind r h. missed c.in_default.ensures.front h; rest = same-rest _ }

pub returns-in_err-period : goal.returns-in_err-period
unfolding grid_plan
returns-in_err-period c = rw c.from_residual.ensures (λ behind.
    met c.in-Some.ensures.front (number-none _ (λ p vs. from_plan vs (λ o. behind (Some (record { period = p; offset = o })))) c.in_err-period.ensures.front))

pub returns-in_err-offset : goal.returns-in_err-offset
unfolding grid_plan
returns-in_err-offset c = rw c.from_residual-in_err-offset.ensures (λ behind.
    met c.in-Some.ensures.front (
    number-comes _ _ _ (λ p vs. from_plan vs (λ o. behind (Some (record { period = p; offset = o })))) _ c.in_ok-period.ensures.front (c.in_err-offset.ensures _)))

pub returns : goal.returns
unfolding grid_plan
returns c =
    let period_fits : to_z w64 (of_z w64 c.in_ok-period.period) ≡ c.in_ok-period.period = omega (arith, ints) in
    let offset_fits : to_z w64 (of_z w64 c.in_ok-offset.offset) ≡ c.in_ok-offset.offset = omega (arith, ints) in
    rw (period_fits, offset_fits) (record {
      goes_on = λ behind r h.
          met c.in-Some.ensures.front (
          number-comes _ _ _ (λ p vs. from_plan vs (λ o. behind (Some (record { period = p; offset = o })))) r c.in_ok-period.ensures.front (
          c.in_ok-offset.ensures.goes_on _ _ h));
      rest = then-rest (first-rest c.in-Some.ensures.front) (then-rest (first-rest c.in_ok-period.ensures.front) c.in_ok-offset.ensures.rest);
    })
