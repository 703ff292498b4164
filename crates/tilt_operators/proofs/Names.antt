-- The names of a pipeline's sources, and their places among all.
use Rattle.std.proofs.Common.{◌≡◌, inl, inr, ◌≢◌, ℕ, zero, suc, ◌<◌, ◌^◌, Bool, true, false, List, [], ◌∷◌, ◌++◌, length, codes, if◌then◌else◌, refl, sym, ap, ◌∙◌}
use Rattle.std.proofs.Common.{arith, decimal}
use Rattle.std.specs.List.{AllByRecursion, list_any}
use Rattle.std.specs.Str.{bytes_eq}
use Rattle.std.proofs.lemmas.Bool.{cases_Bool, false≢true}
use Rattle.std.proofs.lemmas.Fmt.{decimal_injective}
use Rattle.tilt_base.proofs.Comparisons.{bytes_same, same_bytes}
use Rattle.tilt_base.proofs.Lists.{all-push}
use Rattle.tilt_types.specs.Checked.{place_of}
use Rattle.tilt_operators.specs.Desugared.{source_name}
use Rattle.tilt_operators.specs.Steps.{is_kept_back}

-- whether a name is among names
abbrev pub is_among : List (List ℕ) → List ℕ → Bool
is_among names name = list_any (λ other. bytes_eq other name) names

-- a name is none of these
abbrev pub IsNoneOf : List (List ℕ) → List ℕ → Type 0
IsNoneOf names name = AllByRecursion (λ other. bytes_eq other name ≡ false) names

pub place_of-at : (front back : List (List ℕ)) (name : List ℕ) → IsNoneOf front name → place_of (front ++ name ∷ back) name ≡ length front
place_of-at [] back name h = rw (same_bytes name) refl
place_of-at (other ∷ front) back name h = rw h.0 (ap suc (place_of-at front back name h.1))

-- a name that is among the first of them has its place there
pub place_of-front : (front back : List (List ℕ)) (name : List ℕ) → is_among front name ≡ true → place_of (front ++ back) name ≡ place_of front name
place_of-front [] back name h = absurd (false≢true h)
place_of-front (other ∷ front) back name h =
    elim (cases_Bool (bytes_eq other name)) [
      | inl same ↦ rw same refl
      | inr differs ↦ rw differs (ap suc (place_of-front front back name (rw differs at h)))
    ]

pub place_of-within : (names : List (List ℕ)) (name : List ℕ) → is_among names name ≡ true → place_of names name < length names
place_of-within [] name h = absurd (false≢true h)
place_of-within (other ∷ names) name h =
    elim (cases_Bool (bytes_eq other name)) [
      | inl same ↦ rw same (omega arith)
      | inr differs ↦ let rest = place_of-within names name (rw differs at h) in rw differs (omega arith)
    ]

-- definitions have different names
pub numbers_differ : (first : List ℕ) (m n : ℕ) → m ≢ n → suc m < 2 ^ 64 → suc n < 2 ^ 64
    → bytes_eq (source_name first (suc m)) (source_name first (suc n)) ≡ false
numbers_differ first m n differ small little =
    elim (cases_Bool (bytes_eq (source_name first (suc m)) (source_name first (suc n)))) [
      | inl same ↦
          let texts : codes "_" ++ decimal (suc m) ≡ codes "_" ++ decimal (suc n) = bytes_same _ _ same in
          let tails : decimal (suc m) ≡ decimal (suc n) = cc in
          let numbers = decimal_injective (suc m) (suc n) small little tails in
          absurd (differ (omega arith))
      | inr other ↦ other
    ]

-- and others than inputs
pub inputs_differ : (first name : List ℕ) (n : ℕ) → is_kept_back name ≡ false → bytes_eq name (source_name first (suc n)) ≡ false
inputs_differ first name n other =
    elim (cases_Bool (bytes_eq name (source_name first (suc n)))) [
      | inl same ↦
          let is : name ≡ source_name first (suc n) = bytes_same _ _ same in
          let kept : is_kept_back name ≡ true = ap is_kept_back is in
          absurd (false≢true (sym other ∙ kept))
      | inr differs ↦ differs
    ]

pub none_of-inputs : (first : List ℕ) (n : ℕ) (names : List (List ℕ)) → AllByRecursion (λ name. is_kept_back name ≡ false) names
    → IsNoneOf names (source_name first (suc n))
none_of-inputs first n [] h = tt
none_of-inputs first n (name ∷ names) h = (inputs_differ first name n h.0, none_of-inputs first n names h.1)

pub none_of-push : (names : List (List ℕ)) (name other : List ℕ) → IsNoneOf names other → bytes_eq name other ≡ false
    → IsNoneOf (names ++ name ∷ []) other
none_of-push names name other h new = all-push (λ (n : List ℕ). bytes_eq n other ≡ false) names name h new
