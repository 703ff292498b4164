-- A small run, worked out by hand.
use Rattle.std.proofs.Common.{◌≡◌, ◌/◌, [], ◌∷◌, pos, negsuc, Some, refl}
use Rattle.tilt_made.specs.Generator.{after_row, first_rows, next, second_rows}

-- what the first six draws from the seed 1 are taken from
pub six_draws :
    (next 1 / 65536) ∷ (next (next 1) / 65536) ∷ (after_row 1 / 65536)
    ∷ (next (after_row 1) / 65536) ∷ (next (next (after_row 1)) / 65536) ∷ (after_row (after_row 1) / 65536) ∷ []
    ≡ 16838 ∷ 5758 ∷ 10113 ∷ 17515 ∷ 31051 ∷ 5627 ∷ []
six_draws = refl

-- with one row each, `a` is `2,10,-892`
pub first_row : first_rows 1 1 ≡ record { start = pos 2; end = pos 10; value = Some (negsuc 891) } ∷ []
first_row = refl

-- and `b` is `1,3,625`
pub second_row : second_rows 1 1 ≡ record { start = pos 1; end = pos 3; value = Some (pos 625) } ∷ []
second_row = refl
