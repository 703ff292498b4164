-- What the code computes, as the definitions have it.
use Rattle.std.proofs.Common.{List, [], ◌∷◌, length, get_or, zero, suc, ◌<◌, ◌≡◌, ℕ, ◌-◌, ◌≤◌, ◌^◌, ℤ, pos, negsuc, neg_ℤ, ◌*ℤ◌, ◌≤ℤ◌, ◌<ℤ◌, true, false, int_le, SFits, w64, FitsSigned, unsigned_abs, refl, sym, subst, arith}
use Rattle.std.specs.Int.{w128}
use Rattle.std.proofs.lemmas.Int.{ints, fits_signed_mul}
use Rattle.tilt_core.specs.Core.{AreDefinitions}
use Rattle.tilt_core.specs.CoreTree.{Definition, nodes}
use Rattle.tilt_magnitudes.specs.Interval.{Interval, hull, quotient, quotient_above, quotient_below}

size_below : (z : ℤ) (k : ℕ) → neg_ℤ (pos k) ≤ℤ z → z ≤ℤ pos k → unsigned_abs z ≤ k
size_below (pos a) k low high = omega (arith, ints)
size_below (negsuc a) k low high = omega (arith, ints)

-- a product of numbers of 64 bits, of which one may have a sign beside them
pub product_fits : (m n : ℤ) → neg_ℤ (pos (2 ^ 64)) <ℤ m → m <ℤ pos (2 ^ 64) → SFits w64 n → FitsSigned w128 (m *ℤ n)
product_fits m n low high fits =
    let f = fits.sfits in
    fits_signed_mul w128 m n (2 ^ 64 - 1) (2 ^ 63) (size_below m (2 ^ 64 - 1) (omega (arith, ints)) (omega (arith, ints)))
    (size_below n (2 ^ 63) (omega (arith, ints)) (omega (arith, ints))) (omega arith)

pub first_quotient : (a b : Interval) → int_le (pos 0) b.low ≡ true → quotient_above a b ≡ quotient a b
first_quotient a b h = rw h refl

pub second_quotient : (a b : Interval) → int_le (pos 0) b.low ≡ false → int_le b.high (pos 0) ≡ true → quotient_below a b ≡ quotient a b
second_quotient a b h g = rw (h, g) refl

pub third_quotient : (a b : Interval) → int_le (pos 0) b.low ≡ false → int_le b.high (pos 0) ≡ false
    → hull (quotient_above a b) (quotient_below a b) ≡ quotient a b
third_quotient a b h g = rw (h, g) refl

-- the definition at a place has at most 256 nodes
pub small_at : (before k : ℕ) (defs : List Definition) (def : Definition) → AreDefinitions before defs → k < length defs
    → def ≡ get_or defs k def → nodes def.body ≤ 256
small_at before k [] def all among is = absurd (omega arith)
small_at before zero (d ∷ defs) def all among is = subst (λ (x : Definition). nodes x.body ≤ 256) (sym is) all.0.small
small_at before (suc k) (d ∷ defs) def all among is = small_at (suc before) k defs def all.1 (omega arith) is
