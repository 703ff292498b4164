-- Intervals of whole numbers, and the interval of what an operator or a reducer gives, of those of its operands (interval arithmetic).
use Rattle.std.specs.Prelude.{ℕ, ℤ, pos, neg_ℤ, ◌+ℤ◌, ◌-ℤ◌, ◌*ℤ◌, ◌≤ℤ◌, if◌then◌else◌, Option, Some, None, ⊤, int_le, int_div}
use Rattle.std.specs.Int.{int_min, int_max}
use Rattle.tilt_base.specs.declared.operator.Op1.{Op1}
use Rattle.tilt_base.specs.declared.operator.Op1.TheVariants.{Neg, Not, IsNull}
use Rattle.tilt_base.specs.declared.operator.Op2.{Op2}
use Rattle.tilt_base.specs.declared.operator.Op2.TheVariants.{Add, Sub, Mul, Div, Rem, When, IfNull}
use Rattle.tilt_base.specs.declared.reducer.Reducer.{Reducer}
use Rattle.tilt_base.specs.declared.reducer.Reducer.TheVariants.{Sum, Count, Any, All}

-- the numbers from a low end to a high end
pub record Interval : Type 0 where
  pub low : ℤ
  pub high : ℤ

-- a number is one of them
pub record Bounds (i : Interval) (n : ℤ) : Type 0 where
  pub low : i.low ≤ℤ n
  pub high : n ≤ℤ i.high

-- a cell is null or one of them
abbrev pub BoundsCell : Interval → Option ℤ → Type 0
BoundsCell i None = ⊤
BoundsCell i (Some n) = Bounds i n

-- one number alone
abbrev pub only : ℤ → Interval
only n = record { low = n; high = n }

-- 0 and 1
abbrev pub truths : Interval
truths = record { low = pos 0; high = pos 1 }

-- the smallest interval around two numbers, and around two intervals
abbrev pub between : ℤ → ℤ → Interval
between m n = record { low = int_min m n; high = int_max m n }

abbrev pub hull : Interval → Interval → Interval
hull a b = record { low = int_min a.low b.low; high = int_max a.high b.high }

-- the smallest interval around what a function of two numbers gives on the ends of two intervals
abbrev pub around_ends : (ℤ → ℤ → ℤ) → Interval → Interval → Interval
around_ends f a b = hull (between (f a.low b.low) (f a.low b.high)) (between (f a.high b.low) (f a.high b.high))

-- the operators that are exact at the ends
abbrev pub negated : Interval → Interval
negated a = record { low = neg_ℤ a.high; high = neg_ℤ a.low }

abbrev pub sum : Interval → Interval → Interval
sum a b = record { low = a.low +ℤ b.low; high = a.high +ℤ b.high }

abbrev pub difference : Interval → Interval → Interval
difference a b = record { low = a.low -ℤ b.high; high = a.high -ℤ b.low }

abbrev pub product : Interval → Interval → Interval
product a b = around_ends ◌*ℤ◌ a b

-- the positive numbers of an interval, and 1 if there are none
abbrev pub positive : Interval → Interval
positive b = record { low = int_max (pos 1) b.low; high = int_max (pos 1) b.high }

-- quotients by the positive numbers of an interval
abbrev pub quotient_above : Interval → Interval → Interval
quotient_above a b = around_ends int_div a (positive b)

-- and by the negative ones
abbrev pub quotient_below : Interval → Interval → Interval
quotient_below a b = quotient_above (negated a) (negated b)

-- a quotient by 0 is null
abbrev pub quotient : Interval → Interval → Interval
quotient a b =
    if int_le (pos 0) b.low then quotient_above a b
    else if int_le b.high (pos 0) then quotient_below a b
    else hull (quotient_above a b) (quotient_below a b)

-- the largest size of a remainder by one of these numbers: one below the largest size of them
abbrev pub largest_remainder : Interval → ℤ
largest_remainder b = int_max (int_max (neg_ℤ b.low) b.high -ℤ pos 1) (pos 0)

-- a remainder has the sign of the dividend, and isn't larger than it
abbrev pub remainder : Interval → Interval → Interval
remainder a b = record {
  low = int_max (int_min a.low (pos 0)) (neg_ℤ (largest_remainder b));
  high = int_min (int_max a.high (pos 0)) (largest_remainder b);
}

-- what an operator gives; tests give 0 or 1
abbrev pub interval1 : Op1 → Interval → Interval
interval1 Neg a = negated a
interval1 Not a = truths
interval1 IsNull a = truths

abbrev pub interval2 : Op2 → Interval → Interval → Interval
interval2 Add a b = sum a b
interval2 Sub a b = difference a b
interval2 Mul a b = product a b
interval2 Div a b = quotient a b
interval2 Rem a b = remainder a b
interval2 When a b = a
interval2 IfNull a b = hull a b
interval2 op a b = truths

-- how many numbers a window has that isn't empty and meets at most so many snapshots
abbrev pub counts : ℕ → Interval
counts most = record { low = pos 1; high = pos most }

-- what a reducer gives on at most so many numbers of an interval; on none of them it is null
abbrev pub interval_reduced : Reducer → ℕ → Interval → Interval
interval_reduced Sum most a = product (counts most) a
interval_reduced Count most a = counts most
interval_reduced Any most a = truths
interval_reduced All most a = truths
interval_reduced reducer most a = a
