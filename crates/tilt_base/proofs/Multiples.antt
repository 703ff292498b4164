-- Multiples of a number, and what is left of a number beyond a multiple.
use Rattle.std.proofs.Common.{◌≡◌, zero, suc, ◌/◌, ℤ, pos, negsuc, neg_ℤ, ◌+ℤ◌, ◌-ℤ◌, ◌*ℤ◌, ◌≤ℤ◌, ◌<ℤ◌, refl, sym, ap, ◌∙◌, arith}
use Rattle.std.specs.Int.{int_rem_euclid}
use Rattle.std.proofs.lemmas.Int.{ints}
use Rattle.std.proofs.Math.IntN.{+ℤ_one, -ℤ_one, suc_ℤ-*ℤ, pred_ℤ-*ℤ, zero-*ℤ, ℤ_ind, +ℤ_idl}

mul_next : (m d : ℤ) → (m +ℤ pos 1) *ℤ d ≡ m *ℤ d +ℤ d
mul_next m d = ap (λ x. x *ℤ d) (+ℤ_one m) ∙ suc_ℤ-*ℤ m d

pub mul_before : (m d : ℤ) → (m +ℤ negsuc 0) *ℤ d ≡ m *ℤ d -ℤ d
mul_before m d = ap (λ x. x *ℤ d) (-ℤ_one m) ∙ pred_ℤ-*ℤ m d

add_next : (m k d : ℤ) → (m +ℤ k) *ℤ d ≡ m *ℤ d +ℤ k *ℤ d → ((m +ℤ pos 1) +ℤ k) *ℤ d ≡ (m +ℤ pos 1) *ℤ d +ℤ k *ℤ d
add_next m k d h =
    let e : (m +ℤ pos 1) +ℤ k ≡ (m +ℤ k) +ℤ pos 1 = omega (arith, ints) in
    let a = ap (λ x. x *ℤ d) e ∙ mul_next (m +ℤ k) d in
    let b = mul_next m d in
    omega (arith, ints)

add_before : (m k d : ℤ) → (m +ℤ k) *ℤ d ≡ m *ℤ d +ℤ k *ℤ d → ((m +ℤ negsuc 0) +ℤ k) *ℤ d ≡ (m +ℤ negsuc 0) *ℤ d +ℤ k *ℤ d
add_before m k d h =
    let e : (m +ℤ negsuc 0) +ℤ k ≡ (m +ℤ k) +ℤ negsuc 0 = omega (arith, ints) in
    let a = ap (λ x. x *ℤ d) e ∙ mul_before (m +ℤ k) d in
    let b = mul_before m d in
    omega (arith, ints)

-- a sum of multiples
pub mul_add : (m k d : ℤ) → (m +ℤ k) *ℤ d ≡ m *ℤ d +ℤ k *ℤ d
mul_add m k d =
    ℤ_ind (λ x. (x +ℤ k) *ℤ d ≡ x *ℤ d +ℤ k *ℤ d)
    (ap (λ x. x *ℤ d) (+ℤ_idl k) ∙ sym (ap (λ x. x +ℤ k *ℤ d) (zero-*ℤ d) ∙ +ℤ_idl (k *ℤ d)))
    (λ n h. add_next (pos n) k d h)
    (λ n h. add_before (neg_ℤ (pos n)) k d h)
    m

-- the multiple on the other side of 0
pub mul_neg : (m d : ℤ) → neg_ℤ m *ℤ d ≡ neg_ℤ (m *ℤ d)
mul_neg m d =
    let e : neg_ℤ m +ℤ m ≡ pos 0 = omega (arith, ints) in
    let a = sym (mul_add (neg_ℤ m) m d) ∙ ap (λ x. x *ℤ d) e ∙ zero-*ℤ d in
    omega (arith, ints)

-- a multiple that isn't negative, of a natural number
pub mul_low : (k d : ℤ) → pos 0 ≤ℤ k → pos 0 ≤ℤ d → pos 0 ≤ℤ (k *ℤ d)
mul_low (pos a) (pos n) h g = omega (arith, ints)
mul_low (pos a) (negsuc n) h g = absurd (omega (arith, ints))
mul_low (negsuc a) d h g = absurd (omega (arith, ints))

-- from 1 times on, a multiple is at least the number, and from -1 times down at most its negative
pub mul_positive : (k d : ℤ) → pos 1 ≤ℤ k → pos 0 ≤ℤ d → d ≤ℤ (k *ℤ d)
mul_positive k d h g =
    let e : (k +ℤ negsuc 0) +ℤ pos 1 ≡ k = omega (arith, ints) in
    let a = sym (ap (λ x. x *ℤ d) e) ∙ mul_next (k +ℤ negsuc 0) d in
    let b = mul_low (k +ℤ negsuc 0) d (omega (arith, ints)) g in
    omega (arith, ints)

pub mul_negative : (k d : ℤ) → k ≤ℤ negsuc 0 → pos 0 ≤ℤ d → (k *ℤ d) ≤ℤ neg_ℤ d
mul_negative k d h g =
    let a = mul_neg k d in
    let b = mul_positive (neg_ℤ k) d (omega (arith, ints)) g in
    omega (arith, ints)

-- the only multiple nearer to 0 than the number is 0
pub mul_near : (k d : ℤ) → pos 1 ≤ℤ d → neg_ℤ d <ℤ (k *ℤ d) → (k *ℤ d) <ℤ d → k ≡ pos 0
mul_near (pos zero) d h low high = refl
mul_near (pos (suc a)) d h low high = let b = mul_positive (pos (suc a)) d (omega (arith, ints)) (omega (arith, ints)) in absurd (omega (arith, ints))
mul_near (negsuc a) d h low high = let b = mul_negative (negsuc a) d (omega (arith, ints)) (omega (arith, ints)) in absurd (omega (arith, ints))

-- a number is a multiple and what is left beyond it
pub record IsLeft (z d r : ℤ) : Type 0 where
  pub multiple : ℤ
  pub same : z ≡ multiple *ℤ d +ℤ r
  pub low : pos 0 ≤ℤ r
  pub high : r <ℤ d

-- what is left is one number
pub left_same : (z d r s : ℤ) → IsLeft z d r → IsLeft z d s → r ≡ s
left_same z d r s a b =
    let difference : (a.multiple -ℤ b.multiple) *ℤ d ≡ s -ℤ r =
    (let e = mul_add a.multiple (neg_ℤ b.multiple) d in let f = mul_neg b.multiple d in let g = a.same in let h = b.same in omega (arith, ints)) in
    let low = a.low in let high = a.high in let low2 = b.low in let high2 = b.high in
    let none = mul_near (a.multiple -ℤ b.multiple) d (omega (arith, ints)) (omega (arith, ints)) (omega (arith, ints)) in
    let zero = ap (λ x. x *ℤ d) none ∙ zero-*ℤ d in
    omega (arith, ints)

-- and `rem_euclid` gives it
pub rem_euclid-left : (z d : ℤ) → pos 1 ≤ℤ d → IsLeft z d (int_rem_euclid z d)
rem_euclid-left (pos a) (pos n) h = record { multiple = pos (a / n); same = omega (arith, ints); low = omega (arith, ints); high = omega (arith, ints) }
rem_euclid-left (negsuc a) (pos n) h = record { multiple = negsuc (a / n); same = omega (arith, ints); low = omega (arith, ints); high = omega (arith, ints) }
rem_euclid-left z (negsuc n) h = absurd (omega (arith, ints))

pub rem_euclid_same : (z d r : ℤ) → pos 1 ≤ℤ d → IsLeft z d r → int_rem_euclid z d ≡ r
rem_euclid_same z d r h left = left_same z d (int_rem_euclid z d) r (rem_euclid-left z d h) left

-- a multiple above the negative of the number isn't negative
pub mul_above : (k d : ℤ) → pos 1 ≤ℤ d → neg_ℤ d <ℤ (k *ℤ d) → pos 0 ≤ℤ (k *ℤ d)
mul_above (pos a) d h low = mul_low (pos a) d (omega (arith, ints)) (omega (arith, ints))
mul_above (negsuc a) d h low = let b = mul_negative (negsuc a) d (omega (arith, ints)) (omega (arith, ints)) in absurd (omega (arith, ints))
