-- Quotients and remainders of numbers within intervals.
use Rattle.std.proofs.Common.{◌≡◌, ℕ, zero, suc, ◌/◌, ◌<◌, ◌≤◌, ℤ, pos, negsuc, neg_ℤ, ◌≤ℤ◌, ◌<ℤ◌, Bool, true, false, if◌then◌else◌, int_le, int_div, int_rem, refl, subst, arith}
use Rattle.std.specs.Int.{int_min, int_max}
use Rattle.std.proofs.lemmas.Int.{ints, clamps, by_lt_z}
use Rattle.std.proofs.lemmas.Nat.{le-div}
use Rattle.std.proofs.Math.Nat.{div-mul-le_self, mod-le, mod-lt, mul-le-mul_left, zero-div}
use Rattle.tilt_magnitudes.proofs.Products.{within_hull}
use Rattle.tilt_magnitudes.specs.Interval.{Interval, Bounds, between, hull, negated, positive, quotient, quotient_above, quotient_below, remainder}

-- a larger dividend
larger_dividend : (a b n : ℕ) → 0 < n → a ≤ b → a / n ≤ b / n
larger_dividend a b n h g = let e = div-mul-le_self a n in le-div (a / n) b n h (omega arith)

-- a smaller divisor
smaller_divisor : (a m n : ℕ) → 0 < m → m ≤ n → a / n ≤ a / m
smaller_divisor a m n h g =
    let e = div-mul-le_self a n in
    let f = mul-le-mul_left (a / n) g in
    le-div (a / n) a m h (omega arith)

-- quotients by a positive number are in the order of the dividends
pub quotients_in_order : (x y : ℤ) (n : ℕ) → 0 < n → x ≤ℤ y → int_div x (pos n) ≤ℤ int_div y (pos n)
quotients_in_order (pos a) (pos b) n h g = let e = larger_dividend a b n h (omega (arith, ints)) in omega (arith, ints)
quotients_in_order (pos a) (negsuc b) n h g = absurd (omega (arith, ints))
quotients_in_order (negsuc a) (pos b) n h g = omega (arith, ints)
quotients_in_order (negsuc a) (negsuc b) n h g = let e = larger_dividend (suc b) (suc a) n h (omega (arith, ints)) in omega (arith, ints)

-- the quotient of one number by another of an interval lies between those by its ends
by_natural : (x : ℤ) (p n q : ℕ) → 0 < p → p ≤ n → n ≤ q → Bounds (between (int_div x (pos p)) (int_div x (pos q))) (int_div x (pos n))
by_natural (pos a) p n q h f g =
    let e = smaller_divisor a p n h f in
    let i = smaller_divisor a n q (omega arith) g in
    record { low = omega (arith, ints, clamps); high = omega (arith, ints, clamps) }
by_natural (negsuc a) p n q h f g =
    let e = smaller_divisor (suc a) p n h f in
    let i = smaller_divisor (suc a) n q (omega arith) g in
    record { low = omega (arith, ints, clamps); high = omega (arith, ints, clamps) }

between_by : (x p y q : ℤ) → pos 1 ≤ℤ p → p ≤ℤ y → y ≤ℤ q → Bounds (between (int_div x p) (int_div x q)) (int_div x y)
between_by x (pos p) (pos y) (pos q) h f g = by_natural x p y q (omega (arith, ints)) (omega (arith, ints)) (omega (arith, ints))
between_by x (negsuc p) y q h f g = absurd (omega (arith, ints))
between_by x (pos p) (negsuc y) q h f g = absurd (omega (arith, ints))
between_by x (pos p) (pos y) (negsuc q) h f g = absurd (omega (arith, ints))

between_ends : (l u x y : ℤ) → pos 1 ≤ℤ y → l ≤ℤ x → x ≤ℤ u → Bounds (between (int_div l y) (int_div u y)) (int_div x y)
between_ends l u x (pos n) h f g =
    let a = quotients_in_order l x n (omega (arith, ints)) f in
    let b = quotients_in_order x u n (omega (arith, ints)) g in
    record { low = omega (arith, ints, clamps); high = omega (arith, ints, clamps) }
between_ends l u x (negsuc n) h f g = absurd (omega (arith, ints))

above_within : (a b : Interval) (x y : ℤ) → Bounds a x → Bounds b y → pos 1 ≤ℤ y → Bounds (quotient_above a b) (int_div x y)
above_within a b x y f g h =
    let c = g.low in let d = g.high in
    let p = (positive b).low in let q = (positive b).high in
    let i : pos 1 ≤ℤ p = omega (arith, ints, clamps) in
    let j : p ≤ℤ y = omega (arith, ints, clamps) in
    let k : y ≤ℤ q = omega (arith, ints, clamps) in
    within_hull (int_div a.low y) (int_div a.high y) (between (int_div a.low p) (int_div a.low q)) (between (int_div a.high p) (int_div a.high q)) (int_div x y)
    (between_by a.low p y q i j k) (between_by a.high p y q i j k)
    (between_ends a.low a.high x y h f.low f.high)

-- signs of both are changed
both_negated : (x y : ℤ) → y ≤ℤ negsuc 0 → int_div (neg_ℤ x) (neg_ℤ y) ≡ int_div x y
both_negated x (pos n) h = absurd (omega (arith, ints))
both_negated (pos zero) (negsuc n) h = let e = zero-div (suc n) in omega (arith, ints)
both_negated (pos (suc a)) (negsuc n) h = refl
both_negated (negsuc a) (negsuc n) h = refl

pub negated_within : (a : Interval) (x : ℤ) → Bounds a x → Bounds (negated a) (neg_ℤ x)
negated_within a x f = let b = f.low in let c = f.high in record { low = omega (arith, ints); high = omega (arith, ints) }

below_within : (a b : Interval) (x y : ℤ) → Bounds a x → Bounds b y → y ≤ℤ negsuc 0 → Bounds (quotient_below a b) (int_div x y)
below_within a b x y f g h =
    subst (λ z. Bounds (quotient_below a b) z) (both_negated x y h)
    (above_within (negated a) (negated b) (neg_ℤ x) (neg_ℤ y) (negated_within a x f) (negated_within b y g) (omega (arith, ints)))

pub hull_left : (i j : Interval) (z : ℤ) → Bounds i z → Bounds (hull i j) z
hull_left i j z f = let a = f.low in let b = f.high in record { low = omega (arith, ints, clamps); high = omega (arith, ints, clamps) }

pub hull_right : (i j : Interval) (z : ℤ) → Bounds j z → Bounds (hull i j) z
hull_right i j z f = let a = f.low in let b = f.high in record { low = omega (arith, ints, clamps); high = omega (arith, ints, clamps) }

not_below : (l y : ℤ) → int_le (pos 0) l ≡ true → l ≤ℤ y → (y ≡ pos 0 → ⊥) → pos 1 ≤ℤ y
not_below l y e h nonzero = by_lt_z y (pos 1) (λ low. absurd (nonzero (grind (arith, ints)))) (λ high. high)

not_above : (u y : ℤ) → int_le u (pos 0) ≡ true → y ≤ℤ u → (y ≡ pos 0 → ⊥) → y ≤ℤ negsuc 0
not_above u y e h nonzero = by_lt_z y (pos 0) (λ low. omega (arith, ints)) (λ high. absurd (nonzero (grind (arith, ints))))

on_a_side : (a b : Interval) (x y : ℤ) → Bounds a x → Bounds b y → (y ≡ pos 0 → ⊥) → Bounds (hull (quotient_above a b) (quotient_below a b)) (int_div x y)
on_a_side a b x y f g nonzero =
    by_lt_z y (pos 0)
    (λ low. hull_right (quotient_above a b) (quotient_below a b) (int_div x y) (below_within a b x y f g (omega (arith, ints))))
    (λ high. by_lt_z (pos 0) y
    (λ above. hull_left (quotient_above a b) (quotient_below a b) (int_div x y) (above_within a b x y f g (omega (arith, ints))))
    (λ zero. absurd (nonzero (omega (arith, ints)))))

quotient_by : (first second : Bool) (a b : Interval) (x y : ℤ) → int_le (pos 0) b.low ≡ first → int_le b.high (pos 0) ≡ second
    → Bounds a x → Bounds b y → (y ≡ pos 0 → ⊥)
    → Bounds (if first then quotient_above a b else if second then quotient_below a b else hull (quotient_above a b) (quotient_below a b)) (int_div x y)
quotient_by true second a b x y e d f g nonzero = above_within a b x y f g (not_below b.low y e g.low nonzero)
quotient_by false true a b x y e d f g nonzero = below_within a b x y f g (not_above b.high y d g.high nonzero)
quotient_by false false a b x y e d f g nonzero = on_a_side a b x y f g nonzero

pub quotient_within : (a b : Interval) (x y : ℤ) → Bounds a x → Bounds b y → (y ≡ pos 0 → ⊥) → Bounds (quotient a b) (int_div x y)
quotient_within a b x y f g nonzero = quotient_by (int_le (pos 0) b.low) (int_le b.high (pos 0)) a b x y refl refl f g nonzero

-- a remainder is smaller than the divisor, and not larger than the dividend
record IsRemainder (x y r : ℤ) : Type 0 where
  not_low : int_min (pos 0) x ≤ℤ r
  not_high : r ≤ℤ int_max (pos 0) x
  above : neg_ℤ (int_max (neg_ℤ y) y) <ℤ r
  below : r <ℤ int_max (neg_ℤ y) y

remainder_is : (x y : ℤ) → (y ≡ pos 0 → ⊥) → IsRemainder x y (int_rem x y)
remainder_is (pos a) (pos zero) h = absurd (h refl)
remainder_is (negsuc a) (pos zero) h = absurd (h refl)
remainder_is (pos a) (pos (suc b)) h =
    let e = mod-lt a {m = suc b} (omega arith) in let f = mod-le a (suc b) in
    record { not_low = omega (arith, ints, clamps); not_high = omega (arith, ints, clamps); above = omega (arith, ints, clamps); below = omega (arith, ints, clamps) }
remainder_is (pos a) (negsuc b) h =
    let e = mod-lt a {m = suc b} (omega arith) in let f = mod-le a (suc b) in
    record { not_low = omega (arith, ints, clamps); not_high = omega (arith, ints, clamps); above = omega (arith, ints, clamps); below = omega (arith, ints, clamps) }
remainder_is (negsuc a) (pos (suc b)) h =
    let e = mod-lt (suc a) {m = suc b} (omega arith) in let f = mod-le (suc a) (suc b) in
    record { not_low = omega (arith, ints, clamps); not_high = omega (arith, ints, clamps); above = omega (arith, ints, clamps); below = omega (arith, ints, clamps) }
remainder_is (negsuc a) (negsuc b) h =
    let e = mod-lt (suc a) {m = suc b} (omega arith) in let f = mod-le (suc a) (suc b) in
    record { not_low = omega (arith, ints, clamps); not_high = omega (arith, ints, clamps); above = omega (arith, ints, clamps); below = omega (arith, ints, clamps) }

pub remainder_within : (a b : Interval) (x y : ℤ) → Bounds a x → Bounds b y → (y ≡ pos 0 → ⊥) → Bounds (remainder a b) (int_rem x y)
remainder_within a b x y f g nonzero =
    let r = remainder_is x y nonzero in
    let c = f.low in let d = f.high in let e = g.low in let h = g.high in
    let i = r.not_low in let j = r.not_high in let k = r.above in let l = r.below in
    record { low = omega (arith, ints, clamps); high = omega (arith, ints, clamps) }
