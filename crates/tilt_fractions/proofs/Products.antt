-- Products of signed numbers, in any order.
use Rattle.std.proofs.Common.{◌≡◌, ℤ, pos, negsuc, neg_ℤ, ◌+ℤ◌, ◌-ℤ◌, ◌*ℤ◌, sym, ap, ◌∙◌, arith}
use Rattle.std.proofs.lemmas.Int.{ints}
use Rattle.std.proofs.Math.IntN.{*ℤ_comm, +ℤ_one, -ℤ_one, suc_ℤ-*ℤ, pred_ℤ-*ℤ, zero-*ℤ, ℤ_ind}
use Rattle.tilt_base.proofs.Multiples.{mul_add, mul_neg}

mul_next : (m d : ℤ) → (m +ℤ pos 1) *ℤ d ≡ m *ℤ d +ℤ d
mul_next m d = ap (λ x. x *ℤ d) (+ℤ_one m) ∙ suc_ℤ-*ℤ m d

mul_prev : (m d : ℤ) → (m +ℤ negsuc 0) *ℤ d ≡ m *ℤ d -ℤ d
mul_prev m d = ap (λ x. x *ℤ d) (-ℤ_one m) ∙ pred_ℤ-*ℤ m d

assoc_next : (m k d : ℤ) → (m *ℤ k) *ℤ d ≡ m *ℤ (k *ℤ d) → ((m +ℤ pos 1) *ℤ k) *ℤ d ≡ (m +ℤ pos 1) *ℤ (k *ℤ d)
assoc_next m k d h =
    let a = ap (λ x. x *ℤ d) (mul_next m k) ∙ mul_add (m *ℤ k) k d in
    let b = mul_next m (k *ℤ d) in
    omega (arith, ints)

assoc_prev : (m k d : ℤ) → (m *ℤ k) *ℤ d ≡ m *ℤ (k *ℤ d) → ((m +ℤ negsuc 0) *ℤ k) *ℤ d ≡ (m +ℤ negsuc 0) *ℤ (k *ℤ d)
assoc_prev m k d h =
    let a = ap (λ x. x *ℤ d) (mul_prev m k) ∙ mul_add (m *ℤ k) (neg_ℤ k) d in
    let b = mul_prev m (k *ℤ d) in
    let c = mul_neg k d in
    omega (arith, ints)

pub mul_assoc : (m k d : ℤ) → (m *ℤ k) *ℤ d ≡ m *ℤ (k *ℤ d)
mul_assoc m k d =
    ℤ_ind (λ x. (x *ℤ k) *ℤ d ≡ x *ℤ (k *ℤ d))
    (ap (λ x. x *ℤ d) (zero-*ℤ k) ∙ zero-*ℤ d ∙ sym (zero-*ℤ (k *ℤ d)))
    (λ n h. assoc_next (pos n) k d h)
    (λ n h. assoc_prev (neg_ℤ (pos n)) k d h)
    m

pub mul_swap : (m k d : ℤ) → m *ℤ (k *ℤ d) ≡ k *ℤ (m *ℤ d)
mul_swap m k d = sym (mul_assoc m k d) ∙ ap (λ x. x *ℤ d) (*ℤ_comm m k) ∙ mul_assoc k m d

pub mul_over : (d m k : ℤ) → d *ℤ (m +ℤ k) ≡ d *ℤ m +ℤ d *ℤ k
mul_over d m k = *ℤ_comm d (m +ℤ k) ∙ mul_add m k d ∙ ap (λ x. x +ℤ k *ℤ d) (*ℤ_comm m d) ∙ ap (λ x. d *ℤ m +ℤ x) (*ℤ_comm k d)

-- for `simp`: products are sorted
pub ruleset sorted = (mul_assoc, mul_swap, *ℤ_comm)
