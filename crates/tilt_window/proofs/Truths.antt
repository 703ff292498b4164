-- Whether one or each of the numbers is true, from how many are true.
use Rattle.std.proofs.Common.{◌≡◌, ℕ, suc, ◌+◌, ◌≤◌, Bool, true, false, not, cond, ◌||◌, ◌&&◌, ◌==◌, ℤ, pos, to_z, of_z, Some, List, [], ◌∷◌, length, refl, arith}
use Rattle.std.specs.Int.{w64, from_bool}
use Rattle.std.specs.List.{count_by, list_any, list_all}
use Rattle.std.proofs.lemmas.Bool.Decides.{nat_tests}
use Rattle.std.proofs.lemmas.List.Sums.{sum_by-cons, count_by-le-length}
use Rattle.tilt_base.specs.Scalar.{is_true, truth}

any_more : (one rest : Bool) (count : ℕ) → rest ≡ not (count == 0) → (one || rest) ≡ not (cond one 1 0 + count == 0)
any_more true rest count is = grind (arith, nat_tests)
any_more false rest count is = grind (arith, nat_tests)

-- one is true exactly where the count of the true ones isn't 0
pub any_by_count : (ns : List ℤ) → list_any is_true ns ≡ not (count_by is_true ns == 0)
any_by_count [] = refl
any_by_count (n ∷ ns) =
    rw (sum_by-cons (λ m. cond (is_true m) 1 0) n ns)
    (any_more (is_true n) (list_any is_true ns) (count_by is_true ns) (any_by_count ns))

all_more : (one rest : Bool) (count all : ℕ) → count ≤ all → rest ≡ (count == all) → (one && rest) ≡ (cond one 1 0 + count == suc all)
all_more true rest count all few is = grind (arith, nat_tests)
all_more false rest count all few is = grind (arith, nat_tests)

-- each is true exactly where the count of the true ones is that of all
pub all_by_count : (ns : List ℤ) → list_all is_true ns ≡ (count_by is_true ns == length ns)
all_by_count [] = refl
all_by_count (n ∷ ns) =
    rw (sum_by-cons (λ m. cond (is_true m) 1 0) n ns)
    (all_more (is_true n) (list_all is_true ns) (count_by is_true ns) (length ns) (count_by-le-length is_true ns) (all_by_count ns))

-- a test as a number is its truth value
pub truth_is : (n : ℤ) (holds test : Bool) → n ≡ pos (from_bool test) → holds ≡ test → Some (to_z w64 (of_z w64 n)) ≡ truth holds
truth_is n true test number same = rw (number, ← same) refl
truth_is n false test number same = rw (number, ← same) refl
