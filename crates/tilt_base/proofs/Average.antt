-- The average of numbers within 64 bits lies within 64 bits.
use Rattle.std.proofs.Common.{◌≡◌, ℕ, zero, suc, ◌*◌, ◌/◌, ◌^◌, ◌<◌, ◌≤◌, ℤ, pos, negsuc, neg_ℤ, ◌≤ℤ◌, int_div, FitsSigned, to_z, of_z, arith, mul_comm}
use Rattle.std.specs.Int.{w64, w128}
use Rattle.std.proofs.lemmas.Int.{ints, quot_is}
use Rattle.std.proofs.Math.Nat.{div-le_of_le-mul}

quotient_low : (a n m : ℕ) → a ≤ m * n → a / n ≤ m
quotient_low a n m h = div-le_of_le-mul n (omega (arith, mul_comm m n))

negative_fits : (a : ℕ) → a ≤ 2 ^ 63 → FitsSigned w64 (neg_ℤ (pos a))
negative_fits zero h = record { sfits = omega arith }
negative_fits (suc a) h = record { sfits = omega arith }

-- a sum of n numbers of 64 bits, divided by n, fits 64 bits
pub average_fits : (s : ℤ) (n : ℕ) → neg_ℤ (pos (9223372036854775808 * n)) ≤ℤ s → s ≤ℤ pos (9223372036854775807 * n) → FitsSigned w64 (int_div s (pos n))
average_fits (pos a) n low high = let q = quotient_low a n 9223372036854775807 (omega (arith, ints)) in record { sfits = omega arith }
average_fits (negsuc a) n low high = let q = quotient_low (suc a) n 9223372036854775808 (omega (arith, ints)) in negative_fits (suc a / n) (omega arith)

-- so that the code's division, in 128 bits, is exact
pub average_is : (s : ℤ) (n : ℕ) → FitsSigned w128 s → n < 2 ^ 64 → FitsSigned w64 (int_div s (pos n)) → to_z w128 (of_z w128 (int_div (to_z w128 (of_z w128 s)) (to_z w128 n))) ≡ int_div s (pos n)
average_is s n fits short small = let q = small.sfits in quot_is w128 s (pos n) fits (record { sfits = omega arith }) (record { sfits = omega arith })
