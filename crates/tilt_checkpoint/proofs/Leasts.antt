-- The least of cuts.
use Rattle.std.proofs.Common.{◌≡◌, ◌≢◌, ◌⊎◌, ℕ, zero, suc, ℤ, ◌≤ℤ◌, List, [], ◌∷◌, fold, get_or, replicate, Contains, inl, inr, refl, sym, subst, arith}
use Rattle.std.specs.Int.{int_min}
use Rattle.std.specs.List.{AllByRecursion}
use Rattle.std.proofs.lemmas.Int.{ints, fold-int_min_bounds, fold-int_min_reached}
use Rattle.std.proofs.lemmas.List.Elements.{Contains-get_or, recursion_from_All}
use Rattle.tilt_base.proofs.Lists.{all-contains}
use Rattle.tilt_checkpoint.specs.Cuts.{AreCuts, IsCut, IsLeast}

-- numbers have one least
pub least_once : (a b : ℤ) (numbers : List ℤ) → numbers ≢ [] → IsLeast a numbers → IsLeast b numbers → a ≡ b
least_once a b numbers some p q =
    let below : a ≤ℤ b = all-contains (λ n. a ≤ℤ n) numbers b p.none_below (q.among some) in
    let above : b ≤ℤ a = all-contains (λ n. b ≤ℤ n) numbers a q.none_below (p.among some) in
    omega (arith, ints)

-- the least of a number and others
abbrev pub least_of : ℤ → List ℤ → ℤ
least_of first others = fold int_min first others

reached : (first : ℤ) (numbers : List ℤ) (least : ℤ) → Contains numbers first → (least ≡ first) ⊎ Contains numbers least → Contains numbers least
reached first numbers least has (inl same) = subst (Contains numbers) (sym same) has
reached first numbers least has (inr is) = is

-- if the number is one of the others, it is the least of them
pub least_of-is : (first : ℤ) (numbers : List ℤ) → Contains numbers first → IsLeast (least_of first numbers) numbers
least_of-is first numbers has =
    let least = least_of first numbers in
    let bounds = fold-int_min_bounds first numbers least refl in
    record {
      none_below = recursion_from_All (λ n. least ≤ℤ n) numbers bounds.1;
      among = λ some. reached first numbers least has (fold-int_min_reached first numbers least refl);
    }

-- the first of numbers is one of them
pub first_among : (numbers : List ℤ) (default : ℤ) → numbers ≢ [] → Contains numbers (get_or numbers 0 default)
first_among [] default some = absurd (some refl)
first_among (first ∷ numbers) default some = Contains-get_or (first ∷ numbers) 0 default (omega arith)

-- numbers that are all the same

all_replicated : (P : ℤ → Type 0) (x : ℤ) (count : ℕ) → P x → AllByRecursion P (replicate count x)
all_replicated P x zero p = tt
all_replicated P x (suc count) p = (p, all_replicated P x count p)

replicated_among : (x : ℤ) (count : ℕ) → replicate count x ≢ [] → Contains (replicate count x) x
replicated_among x zero some = absurd (some refl)
replicated_among x (suc count) some = (0, omega arith, refl)

pub least_same : (cut : ℤ) (count : ℕ) → IsLeast cut (replicate count cut)
least_same cut count = record {
  none_below = all_replicated (λ n. cut ≤ℤ n) cut count (omega (arith, ints));
  among = replicated_among cut count;
}

-- one cut for all inputs
pub cuts_same : (cut : ℤ) (count : ℕ) → IsCut cut → AreCuts (record { least = cut; each = replicate count cut })
cuts_same cut count within = record {
  range = within;
  each = all_replicated IsCut cut count within;
  least = least_same cut count;
}

-- a cut for each of some inputs
pub cuts_among : (least : ℤ) (each : List ℤ) → each ≢ [] → AllByRecursion IsCut each → IsLeast least each
    → AreCuts (record { least = least; each = each })
cuts_among least each some within is = record {
  range = all-contains IsCut each least within (is.among some);
  each = within;
  least = is;
}
