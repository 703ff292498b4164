-- The names of a watching query are names, and no name occurs twice.
use Rattle.std.proofs.Common.{◌≡◌, ℕ, zero, suc, ◌+◌, ◌<◌, ◌≤◌, true, List, [], ◌∷◌, ◌++◌, length, get_or, fold, max, replicate, Contains, inl, inr, refl, sym, ap, subst, arith, length-append}
use Rattle.std.specs.List.{AllByRecursion, list_all}
use Rattle.std.proofs.lemmas.List.{append-nil, append_assoc, length-replicate}
use Rattle.std.proofs.lemmas.List.Elements.{Contains-append_cases}
use Rattle.tilt_base.proofs.Lists.{Contains-cons_cases, all-contains, all-push}
use Rattle.tilt_base.specs.Reduce.{reducer_word}
use Rattle.tilt_base.specs.declared.reducer.Reducer.{Reducer}
use Rattle.tilt_base.specs.declared.reducer.Reducer.TheVariants as reducer
use Rattle.tilt_lexer.specs.Word.{AreDistinct, IsName, IsWord, goes_on_word, key_text}
use Rattle.tilt_lexer.specs.declared.key.Key.{Key}
use Rattle.tilt_lexer.specs.declared.key.Key.TheVariants as key
use Rattle.tilt_overflows.specs.Watching.{more_names, most_bytes}

go_on : (n : ℕ) → list_all goes_on_word (replicate n 95) ≡ true
go_on zero = refl
go_on (suc n) = go_on n

pub is_word_of : (n : ℕ) → 0 < n → IsWord (replicate n 95)
is_word_of zero h = absurd (omega arith)
is_word_of (suc n) h = go_on n

no_reducer : (r : Reducer) → get_or (reducer_word r) 0 0 ≡ 95 → ⊥
no_reducer r = elim r as (λ q. get_or (reducer_word q) 0 0 ≡ 95 → ⊥) [ reducer.Sum ↦ λ e. absurd (omega arith) | _ ↦ λ e. absurd (omega arith) ]

no_key : (k : Key) → get_or (key_text k) 0 0 ≡ 95 → ⊥
no_key k = elim k as (λ j. get_or (key_text j) 0 0 ≡ 95 → ⊥) [ key.Reducer r ↦ no_reducer r | _ ↦ λ e. absurd (omega arith) ]

is_name_of : (n : ℕ) → IsName (replicate (suc n) 95)
is_name_of n = (is_word_of (suc n) (omega arith), λ reserved. no_key reserved.0 (ap (λ text. get_or text 0 0) reserved.1))

named_by : (bytes n : ℕ) → IsName (replicate (bytes + suc n) 95)
named_by bytes n = let is : suc (bytes + n) ≡ bytes + suc n = omega arith in subst (λ m. IsName (replicate m 95)) is (is_name_of (bytes + n))

pub more_named : (bytes more : ℕ) → AllByRecursion IsName (more_names bytes more)
more_named bytes zero = tt
more_named bytes (suc more) = all-push IsName (more_names bytes more) (replicate (bytes + suc more) 95) (more_named bytes more) (named_by bytes more)

pub length-more_names : (bytes more : ℕ) → length (more_names bytes more) ≡ more
length-more_names bytes zero = refl
length-more_names bytes (suc more) =
    let last : List ℕ = replicate (bytes + suc more) 95 in
    omega (arith, length-append (more_names bytes more) (last ∷ []), length-more_names bytes more)

-- no name has more bytes than a number
abbrev pub AreShort : ℕ → List (List ℕ) → Type 0
AreShort bytes names = AllByRecursion (λ (name : List ℕ). length name ≤ bytes) names

shorter : (m n : ℕ) (names : List (List ℕ)) → m ≤ n → AreShort m names → AreShort n names
shorter m n [] h s = tt
shorter m n (name ∷ names) h s = (let a = s.0 in omega arith, shorter m n names h s.1)

most_grows : (least : ℕ) (names : List (List ℕ)) → least ≤ fold (λ most name. max most (length name)) least names
most_grows least [] = omega arith
most_grows least (name ∷ names) = let a = most_grows (max least (length name)) names in omega arith

most_bounds : (least : ℕ) (names : List (List ℕ)) → AreShort (fold (λ most name. max most (length name)) least names) names
most_bounds least [] = tt
most_bounds least (name ∷ names) = (let a = most_grows (max least (length name)) names in omega arith, most_bounds (max least (length name)) names)

none_in : (name : List ℕ) → Contains [] name → ⊥
none_in name h = absurd (omega (arith, h.1))

distinct_push : (names : List (List ℕ)) (name : List ℕ) → AreDistinct names → (Contains names name → ⊥) → AreDistinct (names ++ name ∷ [])
distinct_push [] name d n = (none_in name, tt)
distinct_push (x ∷ xs) name d n = (
  λ twice. elim (Contains-append_cases xs (name ∷ []) x twice) [
    | inl before ↦ d.0 before
    | inr last ↦ elim (Contains-cons_cases name [] x last) [ inl is ↦ n (0, omega arith, sym is) | inr none ↦ none_in x none ]
  ],
  distinct_push xs name d.1 (λ later. n (suc later.0, let a = later.1 in omega arith, later.2)),
)

more_distinct : (bytes : ℕ) (names : List (List ℕ)) → AreDistinct names → AreShort bytes names → (more : ℕ)
    → AreDistinct (names ++ more_names bytes more) × AreShort (bytes + more) (names ++ more_names bytes more)
more_distinct bytes names d s zero =
    let same = append-nil names in
    let none : bytes + 0 ≡ bytes = omega arith in
    rw (same, none) (d, s)
more_distinct bytes names d s (suc more) =
    let last : List ℕ = replicate (bytes + suc more) 95 in
    let old : List (List ℕ) = names ++ more_names bytes more in
    let before = more_distinct bytes names d s more in
    let long : length last ≡ bytes + suc more = length-replicate (bytes + suc more) 95 in
    subst (λ all. AreDistinct all × AreShort (bytes + suc more) all) (append_assoc names (more_names bytes more) (last ∷ [])) (
      distinct_push old last before.0 (λ among.
          let short = all-contains (λ (name : List ℕ). length name ≤ bytes + more) old last before.1 among in
          absurd (omega (arith, short, long))),
      all-push (λ (name : List ℕ). length name ≤ bytes + suc more) old last (shorter (bytes + more) (bytes + suc more) old (omega arith) before.1) (omega (arith, long)),
    )

-- the names of a query, and more, are distinct
pub names_distinct : (names : List (List ℕ)) (more : ℕ) → AreDistinct names → AreDistinct (names ++ more_names (most_bytes names) more)
names_distinct names more d = (more_distinct (most_bytes names) names d (most_bounds 0 names) more).0
