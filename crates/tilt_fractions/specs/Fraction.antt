-- Exact fractions, which a numerator and a denominator from 1 on stand for (schoolbook arithmetic).
use Rattle.std.specs.Prelude.{◌≡◌, ℕ, ℤ, pos, neg_ℤ, ◌+ℤ◌, ◌-ℤ◌, ◌*ℤ◌, ◌≤ℤ◌, Bool, int_lt, int_div, int_rem}
use Rattle.std.specs.Ordering.{int_eq}

-- the numerator over the denominator
pub record Fraction : Type 0 where
  pub over : ℤ
  pub under : ℤ

-- a number of so many equal parts of a unit
abbrev pub parts : ℤ → ℕ → Fraction
parts n scale = record { over = n; under = pos scale }

-- the same number: crosswise products are equal
abbrev pub IsSame : Fraction → Fraction → Type 0
IsSame p q = p.over *ℤ q.under ≡ q.over *ℤ p.under

abbrev pub negated : Fraction → Fraction
negated p = record { over = neg_ℤ p.over; under = p.under }

abbrev pub sum : Fraction → Fraction → Fraction
sum p q = record { over = p.over *ℤ q.under +ℤ q.over *ℤ p.under; under = p.under *ℤ q.under }

abbrev pub difference : Fraction → Fraction → Fraction
difference p q = record { over = p.over *ℤ q.under -ℤ q.over *ℤ p.under; under = p.under *ℤ q.under }

abbrev pub product : Fraction → Fraction → Fraction
product p q = record { over = p.over *ℤ q.over; under = p.under *ℤ q.under }

abbrev pub is_less : Fraction → Fraction → Bool
is_less p q = int_lt (p.over *ℤ q.under) (q.over *ℤ p.under)

abbrev pub is_equal : Fraction → Fraction → Bool
is_equal p q = int_eq (p.over *ℤ q.under) (q.over *ℤ p.under)

abbrev pub is_zero : Fraction → Bool
is_zero p = int_eq p.over (pos 0)

-- the quotient of two fractions, truncated toward zero to whole parts of a unit
abbrev pub quotient_in : ℕ → Fraction → Fraction → Fraction
quotient_in scale p q = parts (int_div ((p.over *ℤ q.under) *ℤ pos scale) (q.over *ℤ p.under)) scale

-- what is left of the first beyond a whole multiple of the second, with the sign of the first
abbrev pub remainder : Fraction → Fraction → Fraction
remainder p q = record { over = int_rem (p.over *ℤ q.under) (q.over *ℤ p.under); under = p.under *ℤ q.under }

-- a whole number at a scale stands for a fraction: the number over the scale is the same as the fraction, whose denominator is positive
pub record StandsFor (scale : ℕ) (n : ℤ) (p : Fraction) : Type 0 where
  pub under : pos 1 ≤ℤ p.under
  pub same : p.over *ℤ pos scale ≡ n *ℤ p.under
