-- What reducers give on numbers within an interval.
use Rattle.std.proofs.Common.{◌≡◌, ℕ, zero, suc, ◌*◌, ◌/◌, ◌<◌, ◌≤◌, ℤ, pos, negsuc, neg_ℤ, ◌+ℤ◌, ◌*ℤ◌, ◌≤ℤ◌, List, [], ◌∷◌, length, fold, int_div, refl, ap, ◌∙◌, arith}
use Rattle.std.specs.Int.{int_min, int_max}
use Rattle.std.specs.List.{AllByRecursion}
use Rattle.std.proofs.lemmas.Int.{ints, clamps}
use Rattle.std.proofs.Math.IntN.{*ℤ_comm, suc_ℤ-*ℤ, pos-*ℤ-pos, zero-*ℤ}
use Rattle.std.proofs.Math.Nat.{mul-div_cancel, mul-div_cancel_left}
use Rattle.tilt_base.proofs.Multiples.{mul_neg}
use Rattle.tilt_base.specs.Reduce.{last_of, reduce, total}
use Rattle.tilt_base.specs.declared.reducer.Reducer.{Reducer}
use Rattle.tilt_base.specs.declared.reducer.Reducer.TheVariants.{Sum, Avg, Min, Max, Count, First, Last, Any, All}
use Rattle.tilt_magnitudes.proofs.Products.{product_within}
use Rattle.tilt_magnitudes.proofs.Quotients.{quotients_in_order}
use Rattle.tilt_magnitudes.proofs.Scalars.{truth_within, within_bits}
use Rattle.tilt_magnitudes.specs.Interval.{Interval, Bounds, BoundsCell, counts, interval_reduced, product}

-- all of a list are within an interval
abbrev pub AllWithin : Interval → List ℤ → Type 0
AllWithin i ns = AllByRecursion (Bounds i) ns

once_more : (k : ℕ) (z : ℤ) → pos (suc k) *ℤ z ≡ pos k *ℤ z +ℤ z
once_more k z = suc_ℤ-*ℤ (pos k) z

fold_low : (i : Interval) (s : ℤ) (ns : List ℤ) → AllWithin i ns → (s +ℤ pos (length ns) *ℤ i.low) ≤ℤ fold ◌+ℤ◌ s ns
fold_low i s [] h = let e = zero-*ℤ i.low in omega (arith, ints)
fold_low i s (n ∷ ns) h =
    let a = h.0.low in
    let e = once_more (length ns) i.low in
    let f = fold_low i (s +ℤ n) ns h.1 in
    omega (arith, ints)

fold_high : (i : Interval) (s : ℤ) (ns : List ℤ) → AllWithin i ns → fold ◌+ℤ◌ s ns ≤ℤ (s +ℤ pos (length ns) *ℤ i.high)
fold_high i s [] h = let e = zero-*ℤ i.high in omega (arith, ints)
fold_high i s (n ∷ ns) h =
    let a = h.0.high in
    let e = once_more (length ns) i.high in
    let f = fold_high i (s +ℤ n) ns h.1 in
    omega (arith, ints)

-- a sum of k numbers lies between k times the one end and k times the other
total_low : (i : Interval) (ns : List ℤ) → AllWithin i ns → (pos (length ns) *ℤ i.low) ≤ℤ total ns
total_low i ns h = let a = fold_low i (pos 0) ns h in omega (arith, ints)

total_high : (i : Interval) (ns : List ℤ) → AllWithin i ns → total ns ≤ℤ (pos (length ns) *ℤ i.high)
total_high i ns h = let a = fold_high i (pos 0) ns h in omega (arith, ints)

-- an interval that has two numbers has those between them
has_between : (i : Interval) (p z q : ℤ) → Bounds i p → Bounds i q → p ≤ℤ z → z ≤ℤ q → Bounds i z
has_between i p z q f g h k = let a = f.low in let b = g.high in record { low = omega (arith, ints); high = omega (arith, ints) }

low_within : (i : Interval) (n : ℤ) → Bounds i n → Bounds i i.low
low_within i n f = let a = f.low in let b = f.high in record { low = omega (arith, ints); high = omega (arith, ints) }

high_within : (i : Interval) (n : ℤ) → Bounds i n → Bounds i i.high
high_within i n f = let a = f.low in let b = f.high in record { low = omega (arith, ints); high = omega (arith, ints) }

count_within : (most k : ℕ) → suc k ≤ most → Bounds (counts most) (pos (suc k))
count_within most k h = record { low = omega (arith, ints); high = omega (arith, ints) }

pub sum_within : (most : ℕ) (i : Interval) (n : ℤ) (ns : List ℤ) → AllWithin i (n ∷ ns) → length (n ∷ ns) ≤ most
    → Bounds (product (counts most) i) (total (n ∷ ns))
sum_within most i n ns h few =
    let k = pos (length (n ∷ ns)) in
    let c : Bounds (counts most) k = count_within most (length ns) (omega (arith, few)) in
    has_between (product (counts most) i) (k *ℤ i.low) (total (n ∷ ns)) (k *ℤ i.high)
    (product_within (counts most) i k i.low c (low_within i n h.0))
    (product_within (counts most) i k i.high c (high_within i n h.0))
    (total_low i (n ∷ ns) h) (total_high i (n ∷ ns) h)

negative_dividend : (n k : ℕ) → 1 ≤ n → int_div (neg_ℤ (pos n)) (pos k) ≡ neg_ℤ (pos (n / k))
negative_dividend zero k h = absurd (omega arith)
negative_dividend (suc n) k h = refl

-- so many times a number, divided by as many
divided_again : (k : ℕ) (z : ℤ) → 0 < k → int_div (pos k *ℤ z) (pos k) ≡ z
divided_again k (pos a) h = ap (λ x. int_div x (pos k)) (pos-*ℤ-pos k a) ∙ ap pos (mul-div_cancel_left a h)
divided_again k (negsuc a) h =
    ap (λ x. int_div x (pos k)) (*ℤ_comm (pos k) (negsuc a) ∙ mul_neg (pos (suc a)) (pos k) ∙ ap neg_ℤ (pos-*ℤ-pos (suc a) k))
    ∙ negative_dividend (suc a * k) k (omega arith) ∙ ap (λ x. neg_ℤ (pos x)) (mul-div_cancel (suc a) h)

average_within : (i : Interval) (n : ℤ) (ns : List ℤ) → AllWithin i (n ∷ ns) → Bounds i (int_div (total (n ∷ ns)) (pos (length (n ∷ ns))))
average_within i n ns h =
    let k = length (n ∷ ns) in
    let some : 0 < k = omega arith in
    let a = quotients_in_order (pos k *ℤ i.low) (total (n ∷ ns)) k some (total_low i (n ∷ ns) h) in
    let b = quotients_in_order (total (n ∷ ns)) (pos k *ℤ i.high) k some (total_high i (n ∷ ns) h) in
    let c = divided_again k i.low some in
    let d = divided_again k i.high some in
    record { low = omega (arith, ints); high = omega (arith, ints) }

-- a fold by steps that stay within the interval
folds_within : (i : Interval) (f : ℤ → ℤ → ℤ) → ((n m : ℤ) → Bounds i n → Bounds i m → Bounds i (f n m)) → (n : ℤ) (ns : List ℤ)
    → Bounds i n → AllWithin i ns → Bounds i (fold f n ns)
folds_within i f step n [] first h = first
folds_within i f step n (m ∷ ns) first h = folds_within i f step (f n m) ns (step n m first h.0) h.1

smaller_within : (i : Interval) (n m : ℤ) → Bounds i n → Bounds i m → Bounds i (int_min n m)
smaller_within i n m f g =
    let a = f.low in let b = f.high in let c = g.low in let d = g.high in
    record { low = omega (arith, ints, clamps); high = omega (arith, ints, clamps) }

larger_within : (i : Interval) (n m : ℤ) → Bounds i n → Bounds i m → Bounds i (int_max n m)
larger_within i n m f g =
    let a = f.low in let b = f.high in let c = g.low in let d = g.high in
    record { low = omega (arith, ints, clamps); high = omega (arith, ints, clamps) }

last_within : (i : Interval) (n : ℤ) (ns : List ℤ) → Bounds i n → AllWithin i ns → Bounds i (last_of n ns)
last_within i n [] first h = first
last_within i n (m ∷ ns) first h = last_within i m ns h.0 h.1

pub reduced_within : (r : Reducer) (most : ℕ) (i : Interval) (ns : List ℤ) → AllWithin i ns → length ns ≤ most
    → BoundsCell (interval_reduced r most i) (reduce r ns)
reduced_within r most i [] h few = tt
reduced_within Sum most i (n ∷ ns) h few = within_bits (product (counts most) i) (total (n ∷ ns)) (sum_within most i n ns h few)
reduced_within Avg most i (n ∷ ns) h few = average_within i n ns h
reduced_within Min most i (n ∷ ns) h few = folds_within i int_min (smaller_within i) n ns h.0 h.1
reduced_within Max most i (n ∷ ns) h few = folds_within i int_max (larger_within i) n ns h.0 h.1
reduced_within Count most i (n ∷ ns) h few = count_within most (length ns) (omega (arith, few))
reduced_within First most i (n ∷ ns) h few = h.0
reduced_within Last most i (n ∷ ns) h few = last_within i n ns h.0 h.1
reduced_within Any most i (n ∷ ns) h few = truth_within _
reduced_within All most i (n ∷ ns) h few = truth_within _
