-- Literals at the smallest power of ten at which they are whole.
use Rattle.std.proofs.Common.{◌≡◌, ℕ, zero, suc, ◌-◌, ◌^◌, ◌<◌, ◌≤◌, ℤ, pos, if◌then◌else◌, int_div, int_rem, refl, sym, arith, subst}
use Rattle.std.specs.Ordering.{int_eq}
use Rattle.std.proofs.Math.Nat.{pow-le-pow_right}
use Rattle.tilt_unit_text.specs.Numbers.{smallest}

-- a power of ten that is a scale
pub ten_small : (n : ℕ) → n ≤ 18 → 10 ^ n < 9223372036854775808
ten_small n h = let cap : 10 ^ n ≤ 10 ^ 18 = pow-le-pow_right (omega arith) h in omega arith

pub ten_some : (n : ℕ) → 0 < 10 ^ n
ten_some n = pow-le-pow_right {n = 10} (omega arith) {i = 0} {j = n} (omega arith)

pub smallest_more : (digits : ℤ) (n : ℕ) → 0 < n → smallest digits n ≡ (if int_eq (int_rem digits (pos 10)) (pos 0) then smallest (int_div digits (pos 10)) (n - 1)
    else record { number = digits; scale = 10 ^ n })
smallest_more digits zero h = absurd (omega arith)
smallest_more digits (suc n) h =
    let one : suc n - 1 ≡ n = omega arith in
    subst (λ m. smallest digits (suc n) ≡ (if int_eq (int_rem digits (pos 10)) (pos 0) then smallest (int_div digits (pos 10)) m
    else record { number = digits; scale = 10 ^ suc n })) (sym one) refl
