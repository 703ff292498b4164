-- What tests on numbers and on bytes tell.
use Rattle.std.proofs.Common.{◌≡◌, ℕ, ◌==◌, ◌≤◌, ℤ, pos, negsuc, ◌≤ℤ◌, ◌<ℤ◌, int_lt, int_le, nat_lt, unsigned_abs, true, false, if◌then◌else◌, List, Some, None, refl, arith, zero, suc, ◌<◌, ◌⊎◌}
use Rattle.std.proofs.Common.{inl, inr}
use Rattle.std.specs.Str.{bytes_eq}
use Rattle.std.proofs.lemmas.Bool.Decides.{nat_tests}
use Rattle.std.proofs.lemmas.Int.{ints}
use Rattle.std.proofs.lemmas.Slice.Eq.{bytes_eq-Decides}

-- a number is itself
pub same_number : (n : ℕ) → (n == n) ≡ true
same_number n = grind (arith, nat_tests)

-- bytes are themselves
pub same_bytes : (x : List ℕ) → bytes_eq x x ≡ true
same_bytes x = (bytes_eq-Decides x x).1 refl

-- bytes that the test calls the same are the same
pub bytes_same : (x y : List ℕ) → bytes_eq x y ≡ true → x ≡ y
bytes_same x y h = (bytes_eq-Decides x y).0 h

-- a place that isn't found isn't within
pub not_found : (at n : ℕ) → (if nat_lt at n then Some at else None) ≡ None → n ≤ at
not_found at n e = grind (arith, nat_tests)

-- a number below the next one is below this one, or is it
pub below_or_at : (a b : ℕ) → a < suc b → (a < b) ⊎ (a ≡ b)
below_or_at a zero low = inr (omega arith)
below_or_at zero (suc b) low = inl (omega arith)
below_or_at (suc a) (suc b) low = elim (below_or_at a b (omega arith)) [ inl less ↦ inl (omega arith) | inr same ↦ inr (omega arith) ]

-- the tests of signed numbers, from a test to its fact and back
pub lt_true : (a b : ℤ) → int_lt a b ≡ true → a <ℤ b
lt_true a b h = grind (arith, ints)

pub true_lt : (a b : ℤ) → a <ℤ b → int_lt a b ≡ true
true_lt a b h = grind (arith, ints)

pub le_true : (a b : ℤ) → int_le a b ≡ true → a ≤ℤ b
le_true a b h = grind (arith, ints)

pub true_le : (a b : ℤ) → a ≤ℤ b → int_le a b ≡ true
true_le a b h = grind (arith, ints)

-- and where the test fails
pub le_false : (a b : ℤ) → int_le a b ≡ false → b <ℤ a
le_false a b h = grind (arith, ints)

-- a positive number is its absolute value
pub unsigned_abs_is : (n : ℤ) → pos 1 ≤ℤ n → pos (unsigned_abs n) ≡ n
unsigned_abs_is (pos n) h = refl
unsigned_abs_is (negsuc n) h = absurd (omega (arith, ints))
