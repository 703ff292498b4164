-- The reducers keep that whole numbers represent fractions.
use Rattle.std.proofs.Common.{◌≡◌, ℕ, zero, suc, ◌*◌, ◌^◌, ℤ, pos, negsuc, ◌+ℤ◌, ◌*ℤ◌, ◌≤ℤ◌, Bool, true, false, not, ◌&&◌, ◌||◌, if◌then◌else◌, cond, List, [], ◌∷◌, length, Option, Some, None, int_lt, int_div, nat_lt, fold, refl, sym, ap, ◌∙◌, subst, arith}
use Rattle.std.specs.Int.{int_min, int_max}
use Rattle.std.specs.List.{AllZip, list_any, list_all}
use Rattle.std.proofs.lemmas.Int.{ints}
use Rattle.std.proofs.Math.IntN.{zero-*ℤ}
use Rattle.tilt_base.specs.Number.{within_64_bits}
use Rattle.tilt_base.specs.Reduce.{last_of, numbers, reduce, total}
use Rattle.tilt_base.specs.Scalar.{is_true}
use Rattle.tilt_base.specs.declared.reducer.Reducer.{Reducer}
use Rattle.tilt_base.specs.declared.reducer.Reducer.TheVariants.{Sum, Avg, Min, Max, Count, First, Last, Any, All}
use Rattle.tilt_fractions.proofs.Cells.{truth_stands, whole_stands, zero_stands}
use Rattle.tilt_fractions.proofs.Orders.{less_stands}
use Rattle.tilt_fractions.proofs.Pairs.{whole_quotient_stands}
use Rattle.tilt_fractions.proofs.Standing.{sum_stands}
use Rattle.tilt_fractions.specs.Exact.{CellStandsFor}
use Rattle.tilt_fractions.specs.ExactReduce.{ReducerStands, exact_reduce, exact_total, fractions, how_many, is_true_fraction, larger, last_fraction, reduced_scale, smaller, wide_reduce}
use Rattle.tilt_fractions.specs.Fraction.{Fraction, StandsFor, is_less, parts, quotient_in, sum}

pub numbers_stand : (s : ℕ) (cells : List (Option ℤ)) (exact : List (Option Fraction)) → AllZip (CellStandsFor s) cells exact
    → AllZip (StandsFor s) (numbers cells) (fractions exact)
numbers_stand s [] [] h = tt
numbers_stand s [] (p ∷ exact) h = absurd h
numbers_stand s (c ∷ cells) [] h = absurd h
numbers_stand s (None ∷ cells) (None ∷ exact) h = numbers_stand s cells exact h.1
numbers_stand s (None ∷ cells) (Some p ∷ exact) h = absurd h.0
numbers_stand s (Some n ∷ cells) (None ∷ exact) h = absurd h.0
numbers_stand s (Some n ∷ cells) (Some p ∷ exact) h = (h.0, numbers_stand s cells exact h.1)

-- a fold by steps that keep what numbers represent
folds_stand : (s : ℕ) (f : ℤ → ℤ → ℤ) (g : Fraction → Fraction → Fraction)
    → ((n m : ℤ) (p q : Fraction) → StandsFor s n p → StandsFor s m q → StandsFor s (f n m) (g p q))
    → (n : ℤ) (p : Fraction) (ns : List ℤ) (ps : List Fraction) → StandsFor s n p → AllZip (StandsFor s) ns ps
    → StandsFor s (fold f n ns) (fold g p ps)
folds_stand s f g step n p [] [] first h = first
folds_stand s f g step n p [] (q ∷ ps) first h = absurd h
folds_stand s f g step n p (m ∷ ns) [] first h = absurd h
folds_stand s f g step n p (m ∷ ns) (q ∷ ps) first h = folds_stand s f g step (f n m) (g p q) ns ps (step n m p q first h.0) h.1

nothing_stands : (s : ℕ) → StandsFor s (pos 0) (parts (pos 0) 1)
nothing_stands s = record { under = omega (arith, ints); same = zero-*ℤ (pos s) }

totals_stand : (s : ℕ) (ns : List ℤ) (ps : List Fraction) → AllZip (StandsFor s) ns ps → StandsFor s (total ns) (exact_total ps)
totals_stand s ns ps h =
    folds_stand s ◌+ℤ◌ sum (λ n m p q f g. sum_stands s n m p q f g) (pos 0) (parts (pos 0) 1) ns ps (nothing_stands s) h

-- the one of two that a test chooses
chosen_stands : (s : ℕ) (here there : Bool) (n m : ℤ) (p q : Fraction) → here ≡ there → StandsFor s n p → StandsFor s m q
    → StandsFor s (cond there n m) (if here then p else q)
chosen_stands s true true n m p q e f g = f
chosen_stands s true false n m p q e f g = absurd (cc e)
chosen_stands s false true n m p q e f g = absurd (cc e)
chosen_stands s false false n m p q e f g = g

smaller_stands : (s : ℕ) → pos 1 ≤ℤ pos s → (n m : ℤ) (p q : Fraction) → StandsFor s n p → StandsFor s m q → StandsFor s (int_min n m) (smaller p q)
smaller_stands s h n m p q f g = chosen_stands s (is_less q p) (int_lt m n) m n q p (less_stands s m n q p h g f) g f

larger_stands : (s : ℕ) → pos 1 ≤ℤ pos s → (n m : ℤ) (p q : Fraction) → StandsFor s n p → StandsFor s m q → StandsFor s (int_max n m) (larger p q)
larger_stands s h n m p q f g = chosen_stands s (is_less q p) (int_lt m n) n m p q (less_stands s m n q p h g f) f g

last_stands : (s : ℕ) (n : ℤ) (p : Fraction) (ns : List ℤ) (ps : List Fraction) → StandsFor s n p → AllZip (StandsFor s) ns ps
    → StandsFor s (last_of n ns) (last_fraction p ps)
last_stands s n p [] [] first h = first
last_stands s n p [] (q ∷ ps) first h = absurd h
last_stands s n p (m ∷ ns) [] first h = absurd h
last_stands s n p (m ∷ ns) (q ∷ ps) first h = last_stands s m q ns ps h.0 h.1

same_length : (s : ℕ) (ns : List ℤ) (ps : List Fraction) → AllZip (StandsFor s) ns ps → length ns ≡ length ps
same_length s [] [] h = refl
same_length s [] (q ∷ ps) h = absurd h
same_length s (m ∷ ns) [] h = absurd h
same_length s (m ∷ ns) (q ∷ ps) h = ap suc (same_length s ns ps h.1)

counts_stand : (s : ℕ) (ns : List ℤ) (ps : List Fraction) → AllZip (StandsFor s) ns ps → StandsFor 1 (pos (length ns)) (how_many ps)
counts_stand s ns ps h = subst (λ n. StandsFor 1 (pos n) (how_many ps)) (sym (same_length s ns ps h)) (whole_stands (pos (length ps)))

averages_stand : (s : ℕ) → pos 1 ≤ℤ pos s → (ns : List ℤ) (ps : List Fraction) → AllZip (StandsFor s) ns ps
    → StandsFor s (int_div (total ns) (pos (length ns))) (quotient_in s (exact_total ps) (how_many ps))
averages_stand s h ns ps all =
    whole_quotient_stands s 1 s (total ns) (pos (length ns)) (exact_total ps) (how_many ps) (omega (arith, ints)) h (omega arith)
    (totals_stand s ns ps all) (counts_stand s ns ps all)

true_stands : (s : ℕ) (n : ℤ) (p : Fraction) → pos 1 ≤ℤ pos s → StandsFor s n p → is_true_fraction p ≡ is_true n
true_stands s n p h f = ap not (zero_stands s n p h f)

any_stands : (s : ℕ) (ns : List ℤ) (ps : List Fraction) → pos 1 ≤ℤ pos s → AllZip (StandsFor s) ns ps → list_any is_true_fraction ps ≡ list_any is_true ns
any_stands s [] [] h all = refl
any_stands s [] (q ∷ ps) h all = absurd all
any_stands s (m ∷ ns) [] h all = absurd all
any_stands s (m ∷ ns) (q ∷ ps) h all = let rest = any_stands s ns ps h all.1 in λ i. true_stands s m q h all.0 i || rest i

all_stand : (s : ℕ) (ns : List ℤ) (ps : List Fraction) → pos 1 ≤ℤ pos s → AllZip (StandsFor s) ns ps → list_all is_true_fraction ps ≡ list_all is_true ns
all_stand s [] [] h all = refl
all_stand s [] (q ∷ ps) h all = absurd all
all_stand s (m ∷ ns) [] h all = absurd all
all_stand s (m ∷ ns) (q ∷ ps) h all = let rest = all_stand s ns ps h all.1 in λ i. true_stands s m q h all.0 i && rest i

-- each is null on the empty list
from_first : (r : Reducer) (s t : ℕ)
    → ((n : ℤ) (ns : List ℤ) (p : Fraction) (ps : List Fraction) → StandsFor s n p → AllZip (StandsFor s) ns ps
    → CellStandsFor t (wide_reduce r (n ∷ ns)) (exact_reduce s r (p ∷ ps)))
    → CellStandsFor t (wide_reduce r []) None → ReducerStands r s t
from_first r s t some none [] [] h = none
from_first r s t some none [] (q ∷ ps) h = absurd h
from_first r s t some none (m ∷ ns) [] h = absurd h
from_first r s t some none (m ∷ ns) (q ∷ ps) h = some m ns q ps h.0 h.1

-- these at any scale
pub sum_reducer_stands : (s : ℕ) → ReducerStands Sum s s
sum_reducer_stands s = from_first Sum s s (λ n ns p ps f g. totals_stand s (n ∷ ns) (p ∷ ps) (f, g)) tt

pub first_reducer_stands : (s : ℕ) → ReducerStands First s s
first_reducer_stands s = from_first First s s (λ n ns p ps f g. f) tt

pub last_reducer_stands : (s : ℕ) → ReducerStands Last s s
last_reducer_stands s = from_first Last s s (λ n ns p ps f g. last_stands s n p ns ps f g) tt

pub count_reducer_stands : (s : ℕ) → ReducerStands Count s 1
count_reducer_stands s = from_first Count s 1 (λ n ns p ps f g. counts_stand s (n ∷ ns) (p ∷ ps) (f, g)) tt

pub reducer_stands : (r : Reducer) (s : ℕ) → pos 1 ≤ℤ pos s → ReducerStands r s (reduced_scale r s)
reducer_stands Sum s h = sum_reducer_stands s
reducer_stands Avg s h = from_first Avg s s (λ n ns p ps f g. averages_stand s h (n ∷ ns) (p ∷ ps) (f, g)) tt
reducer_stands Min s h = from_first Min s s (λ n ns p ps f g. folds_stand s int_min smaller (smaller_stands s h) n p ns ps f g) tt
reducer_stands Max s h = from_first Max s s (λ n ns p ps f g. folds_stand s int_max larger (larger_stands s h) n p ns ps f g) tt
reducer_stands Count s h = count_reducer_stands s
reducer_stands First s h = first_reducer_stands s
reducer_stands Last s h = last_reducer_stands s
reducer_stands Any s h = from_first Any s 1 (λ n ns p ps f g.
    truth_stands (list_any is_true_fraction (p ∷ ps)) (list_any is_true (n ∷ ns)) (any_stands s (n ∷ ns) (p ∷ ps) h (f, g))) tt
reducer_stands All s h = from_first All s 1 (λ n ns p ps f g.
    truth_stands (list_all is_true_fraction (p ∷ ps)) (list_all is_true (n ∷ ns)) (all_stand s (n ∷ ns) (p ∷ ps) h (f, g))) tt

within_by : (holds : Bool) (n m : ℤ) → (if holds then Some n else None) ≡ Some m → ◌≡◌ {A = Option ℤ} (Some n) (Some m)
within_by true n m h = h
within_by false n m h = absurd (cc h)

within_is : (n m : ℤ) → within_64_bits n ≡ Some m → ◌≡◌ {A = Option ℤ} (Some n) (Some m)
within_is (pos n) m h = within_by (nat_lt n (2 ^ 63)) (pos n) m h
within_is (negsuc n) m h = within_by (nat_lt n (2 ^ 63)) (negsuc n) m h

-- what doesn't leave 64 bits is what sums of any size give
pub wide_is : (r : Reducer) (ns : List ℤ) (n : ℤ) → reduce r ns ≡ Some n → wide_reduce r ns ≡ Some n
wide_is Sum [] n h = absurd (cc h)
wide_is Sum (m ∷ ns) n h = within_is (total (m ∷ ns)) n h
wide_is Avg ns n h = h
wide_is Min ns n h = h
wide_is Max ns n h = h
wide_is Count ns n h = h
wide_is First ns n h = h
wide_is Last ns n h = h
wide_is Any ns n h = h
wide_is All ns n h = h
