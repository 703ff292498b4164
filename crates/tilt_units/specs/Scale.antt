-- Scales: how many parts a unit is divided into.
use Rattle.std.specs.Prelude.{ℕ, ◌^◌, ◌<◌, ◌*◌, ◌/◌, ◌%◌, ◌==◌, nat_lt, if◌then◌else◌, Option, Some, None}

-- from 1 on, and such that a signed number of 64 bits holds it
pub record IsScale (scale : ℕ) : Type 0 where
  pub positive : 0 < scale
  pub small : scale < 2 ^ 63

-- the scale at which the numbers of two scales can both be written: the larger one, if it is a multiple of the smaller one
abbrev pub common_scale : ℕ → ℕ → Option ℕ
common_scale a b = if b % a == 0 then Some b else if a % b == 0 then Some a else None

-- the scale of a product, if 64 bits hold it
abbrev pub product_scale : ℕ → ℕ → Option ℕ
product_scale a b = if nat_lt (a * b) (2 ^ 63) then Some (a * b) else None

-- what the dividend is multiplied by: 1 if the quotient of the scales is whole, else the scale of the divisor
abbrev pub dividend_factor : ℕ → ℕ → ℕ
dividend_factor a b = if a % b == 0 then 1 else b

-- the scale of a quotient, whose dividend was multiplied by that factor
abbrev pub quotient_scale : ℕ → ℕ → ℕ
quotient_scale a b = if a % b == 0 then a / b else a
