-- Powers of ten.
use Rattle.std.proofs.Common.{◌≡◌, ◌≢◌, inl, inr, ℕ, suc, ◌+◌, ◌^◌, ◌<◌, ◌≤◌, arith, sym, ap, ◌∙◌}
use Rattle.std.proofs.Math.Nat.{pow-le-pow_right, pow-succ'}
use Rattle.std.proofs.lemmas.Bool.{cases_lt}
use Rattle.tilt_unit_text.proofs.Literals.{ten_some}

-- one more is no such number
pub none_next : (scale n : ℕ) → ((decimals : ℕ) → decimals < n → 10 ^ decimals ≢ scale) → 10 ^ n ≢ scale
    → (decimals : ℕ) → decimals < n + 1 → 10 ^ decimals ≢ scale
none_next scale n before not decimals h e =
    elim (cases_lt decimals n) [
      | inl less ↦ before decimals less e
      | inr more ↦ let same : decimals ≡ n = omega arith in not (ap (λ d. 10 ^ d) (sym same) ∙ e)
    ]

-- a number of 63 bits is no power of ten if it is none of the first 19
pub none_at_all : (scale : ℕ) → scale < 9223372036854775808 → ((decimals : ℕ) → decimals < 19 → 10 ^ decimals ≢ scale)
    → (decimals : ℕ) → 10 ^ decimals ≢ scale
none_at_all scale small before decimals e =
    elim (cases_lt decimals 19) [
      | inl less ↦ before decimals less e
      | inr more ↦ let large : 10 ^ 19 ≤ 10 ^ decimals = pow-le-pow_right (omega arith) more in absurd (omega (arith, e, large))
    ]

-- two powers of ten are apart
powers_below : (m n : ℕ) → m < n → 10 ^ m < 10 ^ n
powers_below m n h =
    let some = ten_some m in
    let up : 10 ^ suc m ≤ 10 ^ n = pow-le-pow_right (omega arith) h in
    let next = pow-succ' 10 m in
    omega (arith, some, up, next)

pub powers_apart : (m n : ℕ) → 10 ^ m ≡ 10 ^ n → m ≡ n
powers_apart m n e =
    elim (cases_lt m n) [
      | inl less ↦ let below = powers_below m n less in absurd (omega (arith, below, e))
      | inr more ↦
          elim (cases_lt n m) [
            | inl less ↦ let below = powers_below n m less in absurd (omega (arith, below, e))
            | inr least ↦ omega arith
          ]
    ]
