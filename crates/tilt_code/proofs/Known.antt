-- A set that has each of some names has each of them and one more, once that was added.
use Rattle.std.proofs.Common.{◌≡◌, ℕ, Bool, true, false, ◌||◌, List, [], ◌∷◌, ◌++◌, refl, sym, ap, ◌∙◌, inl, inr}
use Rattle.std.specs.BTreeMap.{is_at}
use Rattle.std.specs.BTreeSet.{BTreeSet, insert_key}
use Rattle.std.specs.Cmp.Lexicographic.{slice_cmp}
use Rattle.std.specs.List.{list_any}
use Rattle.std.specs.Ordering.{match_ordering, nat_cmp}
use Rattle.std.specs.Str.{bytes_eq}
use Rattle.std.specs.declared.cmp.Ordering.{Ordering}
use Rattle.std.specs.declared.cmp.Ordering.TheVariants.{Less, Equal, Greater}
use Rattle.std.proofs.lemmas.Bool.{both_ways, cases_Bool}
use Rattle.std.proofs.lemmas.Map.Lookups.{exact_bytes}
use Rattle.std.proofs.lemmas.Map.Text.{is_eq-slice_cmp}
use Rattle.tilt_base.proofs.Booleans.{or_again}
use Rattle.tilt_base.proofs.Comparisons.{same_bytes, bytes_same}
use Rattle.tilt_code.specs.Names.{KnowsEach}

or_swap : (a b c : Bool) → (a || (b || c)) ≡ (b || (a || c))
or_swap true true c = refl
or_swap true false c = refl
or_swap false b c = refl

any_pushed : {X : Type 0} (p : X → Bool) (xs : List X) (x : X) → list_any p (xs ++ x ∷ []) ≡ (p x || list_any p xs)
any_pushed p [] x = refl
any_pushed p (y ∷ ys) x = ap (λ b. p y || b) (any_pushed p ys x) ∙ or_swap (p y) (p x) (list_any p ys)

bytes_eq-swap : (x y : List ℕ) → bytes_eq x y ≡ bytes_eq y x
bytes_eq-swap x y =
    elim (cases_Bool (bytes_eq x y)) [
      | inl same ↦ ap (λ (z : List ℕ). bytes_eq x z) (sym (bytes_same x y same)) ∙ ap (λ (z : List ℕ). bytes_eq z x) (bytes_same x y same)
      | inr other ↦ elim (cases_Bool (bytes_eq y x)) [
        | inl same ↦ absurd (both_ways (bytes_eq x y) other (ap (λ (z : List ℕ). bytes_eq x z) (bytes_same y x same) ∙ same_bytes x))
        | inr differs ↦ other ∙ sym differs
      ]
    ]

module _ {K : Type 0} (bytes : K → List ℕ) (cmp : K → K → Ordering) (by_bytes : (j k : K) → cmp j k ≡ slice_cmp nat_cmp (bytes j) (bytes k)) where
  -- whether a key has the bytes
  abbrev has : List ℕ → K → Bool
  has x k = is_at (λ j. slice_cmp nat_cmp x (bytes j)) k

  inserted_at : (x : List ℕ) (key k : K) (ks with_key : List K) (o : Ordering) → cmp key k ≡ o → list_any (has x) with_key ≡ (has x key || list_any (has x) ks)
      → list_any (has x) (match_ordering o (key ∷ k ∷ ks) (k ∷ ks) (k ∷ with_key)) ≡ (has x key || (has x k || list_any (has x) ks))
  inserted_at x key k ks with_key Less e h = refl
  inserted_at x key k ks with_key Equal e h =
      let same : bytes key ≡ bytes k = exact_bytes (bytes key) (bytes k) (sym (by_bytes key k) ∙ e) in
      let both : has x key ≡ has x k = ap (λ (b : List ℕ). is_at (λ (y : List ℕ). slice_cmp nat_cmp x y) b) same in
      or_again (has x k) (list_any (has x) ks) ∙ ap (λ b. b || (has x k || list_any (has x) ks)) (sym both)
  inserted_at x key k ks with_key Greater e h = ap (λ b. has x k || b) h ∙ or_swap (has x k) (has x key) (list_any (has x) ks)

  inserted : (x : List ℕ) (key : K) (ks : List K) → list_any (has x) (insert_key cmp ks key) ≡ (has x key || list_any (has x) ks)
  inserted x key [] = refl
  inserted x key (k ∷ ks) = inserted_at x key k ks (insert_key cmp ks key) (cmp key k) refl (inserted x key ks)

  pub knows_more : (old new : BTreeSet K) (key : K) (names next : List (List ℕ)) (name : List ℕ) → bytes key ≡ name → next ≡ names ++ name ∷ []
      → new.keys ≡ insert_key cmp old.keys key → KnowsEach old bytes names → KnowsEach new bytes next
  knows_more old new key names next name is pushed added knows = λ x.
      ap (list_any (has x)) added ∙ inserted x key old.keys ∙ ap (λ b. has x key || b) (knows x)
      ∙ ap (λ b. b || list_any (λ n. bytes_eq n x) names)
      (is_eq-slice_cmp x (bytes key) ∙ bytes_eq-swap x (bytes key) ∙ ap (λ (y : List ℕ). bytes_eq y x) is)
      ∙ sym (ap (list_any (λ n. bytes_eq n x)) pushed ∙ any_pushed (λ n. bytes_eq n x) names name)
