-- The cuts that arguments give to inputs: their least, and that they lie within the range of times.
use Rattle.std.proofs.Common.{◌≡◌, ◌≢◌, ℕ, zero, suc, ℤ, pos, ◌≤ℤ◌, Bool, true, false, if◌then◌else◌, int_lt, List, [], ◌∷◌, length, map, None, Contains, refl, ap, subst, arith}
use Rattle.std.specs.Prelude.{replicate}
use Rattle.std.specs.List.{AllByRecursion}
use Rattle.std.specs.Str.{bytes_eq}
use Rattle.std.proofs.lemmas.Int.{ints, clamps}
use Rattle.std.proofs.lemmas.List.{length-map}
use Rattle.tilt_checkpoint.proofs.Leasts.{least_once, least_same}
use Rattle.tilt_checkpoint.specs.Cuts.{AreCuts, CutsParts, IsCut, IsLeast}
use Rattle.tilt_load.specs.InputCuts.{cut_named, cuts_by, least_of, names_cut, with_least}
use Rattle.tilt_load.specs.Inputs.{faulty_among}
use Rattle.tilt_cli.specs.Upto.{CutBinding, IsTime, UptoValue, all, each}

-- the least of numbers is below none of them
all_above : (a : ℤ) (xs : List ℤ) → a ≤ℤ least_of xs → AllByRecursion (λ (x : ℤ). a ≤ℤ x) xs
all_above a [] h = tt
all_above a (x ∷ []) h = (h, tt)
all_above a (x ∷ y ∷ more) h = (grind (arith, ints, clamps), all_above a (y ∷ more) (grind (arith, ints, clamps)))

-- and is one of them
least_among : (xs : List ℤ) → xs ≢ [] → Contains xs (least_of xs)
least_among [] some = absurd (some refl)
least_among (x ∷ []) some = (0, omega arith, refl)
least_among (x ∷ y ∷ more) some = by (int_lt (least_of (y ∷ more)) x) (least_among (y ∷ more) (λ e. cc))
  where
    by : (b : Bool) → Contains (y ∷ more) (least_of (y ∷ more)) → Contains (x ∷ y ∷ more) (if b then least_of (y ∷ more) else x)
    by true rest = (suc rest.0, omega (arith, rest.1), rest.2)
    by false rest = (0, omega arith, refl)

pub with_least_is : (xs : List ℤ) → IsLeast (least_of xs) xs
with_least_is xs = record { none_below = all_above (least_of xs) xs (grind (arith, ints)); among = least_among xs }

-- cuts of such numbers are those with their least
pub are_with_least : (cuts : CutsParts) (numbers : List ℤ) → numbers ≢ [] → cuts.each ≡ numbers → AreCuts cuts → cuts ≡ with_least numbers
are_with_least cuts numbers some same are =
    let least = least_once cuts.least (least_of numbers) numbers some (subst (IsLeast cuts.least) same are.least) (with_least_is numbers) in
    λ i. record { least = least i; each = same i }

-- the least of the cuts that arguments give is their least
pub given_least : (upto : UptoValue) (inputs : List (List ℕ)) → IsLeast (cuts_by upto inputs).least (cuts_by upto inputs).each
given_least (all cut) inputs = least_same cut (length inputs)
given_least (each cuts) inputs = with_least_is (map (cut_named cuts) inputs)

-- names with cuts, of which none is faulty, have inputs
some_inputs : (inputs : List (List ℕ)) (cuts : List CutBinding) → cuts ≢ [] → faulty_among inputs (names_cut cuts) ≡ None → inputs ≢ []
some_inputs [] [] some none = absurd (some refl)
some_inputs [] (binding ∷ cuts) some none = absurd (cc none)
some_inputs (i ∷ inputs) cuts some none = λ e. cc

some_named : (cuts : List CutBinding) (inputs : List (List ℕ)) → inputs ≢ [] → map (cut_named cuts) inputs ≢ []
some_named cuts [] some = absurd (some refl)
some_named cuts (i ∷ inputs) some = λ e. cc

pub some_cuts : (inputs : List (List ℕ)) (cuts : List CutBinding) → cuts ≢ [] → faulty_among inputs (names_cut cuts) ≡ None → map (cut_named cuts) inputs ≢ []
some_cuts inputs cuts some none = some_named cuts inputs (some_inputs inputs cuts some none)

-- the cut of a name lies within the range of times
zero_in_range : IsCut (pos 0)
zero_in_range = (omega (arith, ints), omega (arith, ints))

named_in_range : (cuts : List CutBinding) (name : List ℕ) → AllByRecursion (λ (binding : CutBinding). IsTime binding.cut) cuts → IsCut (cut_named cuts name)
named_in_range [] name h = zero_in_range
named_in_range (binding ∷ cuts) name h = by (bytes_eq binding.name name) (named_in_range cuts name h.1)
  where
    by : (b : Bool) → IsCut (cut_named cuts name) → IsCut (if b then binding.cut else cut_named cuts name)
    by true rest = h.0
    by false rest = rest

pub all_in_range : (cuts : List CutBinding) (inputs : List (List ℕ)) → AllByRecursion (λ (binding : CutBinding). IsTime binding.cut) cuts
    → AllByRecursion IsCut (map (cut_named cuts) inputs)
all_in_range cuts [] h = tt
all_in_range cuts (name ∷ inputs) h = (named_in_range cuts name h, all_in_range cuts inputs h)

-- there is one for each input
same_counted : (n : ℕ) (cut : ℤ) → length (replicate n cut) ≡ n
same_counted zero cut = refl
same_counted (suc n) cut = ap suc (same_counted n cut)

pub by_counted : (upto : UptoValue) (inputs : List (List ℕ)) → length (cuts_by upto inputs).each ≡ length inputs
by_counted (all cut) inputs = same_counted (length inputs) cut
by_counted (each cuts) inputs = length-map inputs (cut_named cuts)
