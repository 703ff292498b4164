-- Laws of the exact sum.
use Rattle.std.proofs.Common.{◌≡◌, ◌∙◌, ℕ, ◌*◌, ◌<◌, ℤ, negsuc, pos, ◌+ℤ◌, ◌-ℤ◌, neg_ℤ, ◌≤ℤ◌, List, [], ◌∷◌, ◌++◌, length, fold, All, FitsSigned, int_div, ap, arith}
use Rattle.std.specs.Int.{w64, w128}
use Rattle.std.proofs.lemmas.Int.{ints}
use Rattle.std.proofs.lemmas.List.{length_push}
use Rattle.std.proofs.lemmas.List.Elements.{All-head, All-tail, All-push}
use Rattle.std.proofs.lemmas.List.Sums.{fold-append, fold_push}
use Rattle.tilt_base.specs.Reduce.{total}
use Rattle.tilt_base.proofs.Average.{average_fits}
use Rattle.tilt_base.proofs.Lists.{fold_join}

fold_low : (s : ℤ) (ns : List ℤ) → All (FitsSigned w64) ns →
    (s +ℤ neg_ℤ (pos (9223372036854775808 * length ns))) ≤ℤ fold ◌+ℤ◌ s ns
fold_low s [] fits = omega (arith, ints)
fold_low s (n ∷ ns) fits =
    let head = (All-head (FitsSigned w64) n ns fits).sfits in
    omega (arith, ints, fold_low (s +ℤ n) ns (All-tail (FitsSigned w64) n ns fits))

fold_high : (s : ℤ) (ns : List ℤ) → All (FitsSigned w64) ns →
    fold ◌+ℤ◌ s ns ≤ℤ (s +ℤ pos (9223372036854775807 * length ns))
fold_high s [] fits = omega (arith, ints)
fold_high s (n ∷ ns) fits =
    let head = (All-head (FitsSigned w64) n ns fits).sfits in
    omega (arith, ints, fold_high (s +ℤ n) ns (All-tail (FitsSigned w64) n ns fits))

-- numbers of 64 bits add up to no less than that
pub total_low : (ns : List ℤ) → All (FitsSigned w64) ns → neg_ℤ (pos (9223372036854775808 * length ns)) ≤ℤ total ns
total_low ns fits = omega (arith, ints, fold_low (pos 0) ns fits)

-- and to no more than that
pub total_high : (ns : List ℤ) → All (FitsSigned w64) ns → total ns ≤ℤ pos (9223372036854775807 * length ns)
total_high ns fits = omega (arith, ints, fold_high (pos 0) ns fits)

-- one number more
pub total_push : (ns : List ℤ) (n : ℤ) → total (ns ++ n ∷ []) ≡ total ns +ℤ n
total_push ns n = fold_push ◌+ℤ◌ (pos 0) ns n

fits_128_bits : (z : ℤ) (k : ℕ) →
    neg_ℤ (pos (9223372036854775808 * k)) ≤ℤ z → z ≤ℤ pos (9223372036854775807 * k) → k < 18446744073709551616 → FitsSigned w128 z
fits_128_bits (pos a) k low high small = record { sfits = omega (arith, ints) }
fits_128_bits (negsuc a) k low high small = record { sfits = omega (arith, ints) }

-- fewer than 2^64 numbers add up to a sum of 128 bits
pub total_fits : (ns : List ℤ) → All (FitsSigned w64) ns → length ns < 18446744073709551616 → FitsSigned w128 (total ns)
total_fits ns fits few = fits_128_bits (total ns) (length ns) (total_low ns fits) (total_high ns fits) few

-- also with one more
pub push_fits : (ns : List ℤ) (n : ℤ) → All (FitsSigned w64) ns → FitsSigned w64 n →
    length ns < 9223372036854775808 → FitsSigned w128 (total ns +ℤ n)
push_fits ns n fits last few =
    rw (← total_push ns n) (total_fits (ns ++ n ∷ []) (All-push (FitsSigned w64) ns n fits last) (omega (arith, length_push ns n)))

plus_associates : (x y z : ℤ) → (x +ℤ y) +ℤ z ≡ x +ℤ (y +ℤ z)
plus_associates x y z = omega (arith, ints)

plus_0 : (a : ℤ) → a ≡ a +ℤ pos 0
plus_0 a = omega (arith, ints)

-- joined lists
pub total_append : (ms ns : List ℤ) → total (ms ++ ns) ≡ total ms +ℤ total ns
total_append ms ns =
    fold-append ◌+ℤ◌ (pos 0) ms ns ∙ ap (λ a. fold ◌+ℤ◌ a ns) (plus_0 (total ms)) ∙ fold_join ◌+ℤ◌ plus_associates (total ms) (pos 0) ns

-- one number less
pub total_rest : (n : ℤ) (ns : List ℤ) → total (n ∷ ns) -ℤ n ≡ total ns
total_rest n ns = omega (arith, ints, total_append (n ∷ []) ns)

-- the average of numbers of 64 bits is such a number
pub average_within : (ns : List ℤ) → All (FitsSigned w64) ns → FitsSigned w64 (int_div (total ns) (pos (length ns)))
average_within ns fits = average_fits (total ns) (length ns) (total_low ns fits) (total_high ns fits)
