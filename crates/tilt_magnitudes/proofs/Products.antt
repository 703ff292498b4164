-- Products of numbers within intervals.
use Rattle.std.proofs.Common.{◌≡◌, ℤ, pos, neg_ℤ, ◌-ℤ◌, ◌*ℤ◌, ◌≤ℤ◌, ap, ◌∙◌, subst, arith}
use Rattle.std.proofs.lemmas.Int.{ints, clamps, by_lt_z}
use Rattle.std.proofs.Math.IntN.{*ℤ_comm}
use Rattle.tilt_base.proofs.Multiples.{mul_add, mul_neg, mul_low}
use Rattle.tilt_magnitudes.specs.Interval.{Interval, Bounds, between, hull, product}

-- a factor that isn't negative keeps the order, and one that isn't positive turns it round
pub scaled_up : (x y k : ℤ) → pos 0 ≤ℤ k → x ≤ℤ y → (x *ℤ k) ≤ℤ (y *ℤ k)
scaled_up x y k h g =
    let a = mul_low (y -ℤ x) k (omega (arith, ints)) h in
    let b = mul_add y (neg_ℤ x) k in
    let c = mul_neg x k in
    omega (arith, ints)

mul_neg_right : (x k : ℤ) → x *ℤ neg_ℤ k ≡ neg_ℤ (x *ℤ k)
mul_neg_right x k = *ℤ_comm x (neg_ℤ k) ∙ mul_neg k x ∙ ap neg_ℤ (*ℤ_comm k x)

scaled_down : (x y k : ℤ) → k ≤ℤ pos 0 → x ≤ℤ y → (y *ℤ k) ≤ℤ (x *ℤ k)
scaled_down x y k h g =
    let a = scaled_up x y (neg_ℤ k) (omega (arith, ints)) g in
    let b = mul_neg_right x k in
    let c = mul_neg_right y k in
    omega (arith, ints)

-- two numbers in order, of which one is at least as low as a third, and the other at least as high
in_order : (p q z : ℤ) → p ≤ℤ z → z ≤ℤ q → Bounds (between p q) z
in_order p q z h g = record { low = omega (arith, ints, clamps); high = omega (arith, ints, clamps) }

turned : (p q z : ℤ) → q ≤ℤ z → z ≤ℤ p → Bounds (between p q) z
turned p q z h g = record { low = omega (arith, ints, clamps); high = omega (arith, ints, clamps) }

-- a product lies between those of the ends of one factor
left_between : (l h x k : ℤ) → l ≤ℤ x → x ≤ℤ h → Bounds (between (l *ℤ k) (h *ℤ k)) (x *ℤ k)
left_between l h x k low high =
    by_lt_z k (pos 0)
    (λ down. turned (l *ℤ k) (h *ℤ k) (x *ℤ k) (scaled_down x h k (omega (arith, ints)) high) (scaled_down l x k (omega (arith, ints)) low))
    (λ up. in_order (l *ℤ k) (h *ℤ k) (x *ℤ k) (scaled_up l x k up low) (scaled_up x h k up high))

right_between : (k l h x : ℤ) → l ≤ℤ x → x ≤ℤ h → Bounds (between (k *ℤ l) (k *ℤ h)) (k *ℤ x)
right_between k l h x low high =
    subst (λ z. Bounds (between (k *ℤ l) (k *ℤ h)) z) (*ℤ_comm x k)
    (subst (λ z. Bounds (between (k *ℤ l) z) (x *ℤ k)) (*ℤ_comm h k)
    (subst (λ z. Bounds (between z (h *ℤ k)) (x *ℤ k)) (*ℤ_comm l k) (left_between l h x k low high)))

-- what lies between two numbers lies within an interval around two intervals that have them
pub within_hull : (p q : ℤ) (i j : Interval) (z : ℤ) → Bounds i p → Bounds j q → Bounds (between p q) z → Bounds (hull i j) z
within_hull p q i j z f g h =
    let a = f.low in let b = f.high in let c = g.low in let d = g.high in let e = h.low in let k = h.high in
    record { low = omega (arith, ints, clamps); high = omega (arith, ints, clamps) }

pub product_within : (a b : Interval) (x y : ℤ) → Bounds a x → Bounds b y → Bounds (product a b) (x *ℤ y)
product_within a b x y f g =
    within_hull (a.low *ℤ y) (a.high *ℤ y) (between (a.low *ℤ b.low) (a.low *ℤ b.high)) (between (a.high *ℤ b.low) (a.high *ℤ b.high)) (x *ℤ y)
    (right_between a.low b.low b.high y g.low g.high) (right_between a.high b.low b.high y g.low g.high)
    (left_between a.low a.high x y f.low f.high)
