-- Laws of lists and options that std doesn't have.
use Rattle.std.proofs.Common.{◌≡◌, ℕ, zero, suc, ◌<◌, ◌≤◌, ℤ, Bool, true, false, if◌then◌else◌, ◌⊎◌, inl, inr, List, [], ◌∷◌, ◌++◌, length, get_or, take, Contains, Option, Some, None, refl, sym}
use Rattle.std.proofs.Common.{ap, subst, arith, fold, drop, ◌+◌, ◌∙◌}
use Rattle.std.specs.List.{AllByRecursion, slice_get}
use Rattle.std.proofs.lemmas.Option.{none-some, same_Some}
use Rattle.std.proofs.lemmas.List.{drop_more}
use Rattle.tilt_base.specs.Reduce.{numbers}

-- a value under a test that passed
pub guard_some : {A : Type 0} (t : Bool) (o : Option A) (y : A) → (if t then o else None) ≡ Some y → (t ≡ true) × (o ≡ Some y)
guard_some true o y e = (refl, e)
guard_some false o y e = absurd (none-some y e)

-- what was found is one thing
pub same_found : {A : Type 0} (found : Option A) (a b : A) → found ≡ Some a → found ≡ Some b → a ≡ b
same_found found a b is too = same_Some a b (sym is ∙ too)

-- what holds of all of two lists holds of all of both
pub all-append : {X : Type 0} (P : X → Type 0) (xs ys : List X) → AllByRecursion P xs → AllByRecursion P ys → AllByRecursion P (xs ++ ys)
all-append P [] ys h k = k
all-append P (x ∷ xs) ys h k = (h.0, all-append P xs ys h.1 k)

-- and what holds of all of both holds of all of each
pub all-parts : {X : Type 0} (P : X → Type 0) (xs ys : List X) → AllByRecursion P (xs ++ ys) → AllByRecursion P xs × AllByRecursion P ys
all-parts P [] ys h = (tt, h)
all-parts P (x ∷ xs) ys h = let rest = all-parts P xs ys h.1 in ((h.0, rest.0), rest.1)

-- what holds of all of a list, and of one more
pub all-push : {X : Type 0} (P : X → Type 0) (xs : List X) (x : X) → AllByRecursion P xs → P x → AllByRecursion P (xs ++ x ∷ [])
all-push P [] x h new = (new, tt)
all-push P (y ∷ ys) x h new = (h.0, all-push P ys x h.1 new)

-- what holds of all of a list holds of each of them
pub all-contains : {X : Type 0} (P : X → Type 0) (xs : List X) (x : X) → AllByRecursion P xs → Contains xs x → P x
all-contains P [] x all among = absurd (omega (arith, among.1))
all-contains P (y ∷ ys) x all (zero, within, at) = subst P at all.0
all-contains P (y ∷ ys) x all (suc k, within, at) = all-contains P ys x all.1 (k, omega arith, at)

-- and of the one at a place
pub all-at : {X : Type 0} (P : X → Type 0) (xs : List X) (i : ℕ) (x : X) → AllByRecursion P xs → i < length xs → x ≡ get_or xs i x → P x
all-at P [] i x h within is = absurd (omega arith)
all-at P (y ∷ ys) zero x h within is = subst P (sym is) h.0
all-at P (y ∷ ys) (suc i) x h within is = all-at P ys i x h.1 (omega arith) is

-- the same, of one that `slice_get` gives
pub all-slice_get : {X : Type 0} (P : X → Type 0) (xs : List X) (place : ℕ) (x : X) → AllByRecursion P xs → slice_get xs place ≡ Some x → P x
all-slice_get P [] place x all is = absurd (none-some x is)
all-slice_get P (y ∷ ys) zero x all is = subst P (same_Some y x is) all.0
all-slice_get P (y ∷ ys) (suc place) x all is = all-slice_get P ys place x all.1 is

-- what holds at each place of a list holds of all of it
pub all-each : {X : Type 0} (P : X → Type 0) (xs : List X) → ((i : ℕ) (x : X) → slice_get xs i ≡ Some x → P x) → AllByRecursion P xs
all-each P [] each = tt
all-each P (x ∷ xs) each = (each 0 x refl, all-each P xs (λ i y is. each (suc i) y is))

-- what is in a list is its first element or in the rest
pub Contains-cons_cases : {X : Type 0} (x : X) (xs : List X) (y : X) → Contains (x ∷ xs) y → (x ≡ y) ⊎ Contains xs y
Contains-cons_cases x xs y (zero, within, is) = inl is
Contains-cons_cases x xs y (suc k, within, is) = inr (k, omega (arith, within), is)

-- a list from a place on, split at its first element
pub drop-at : {X : Type 0} (xs : List X) (x : X) (i : ℕ) → i < length xs → x ≡ get_or xs i x → drop i xs ≡ x ∷ drop (i + 1) xs
drop-at xs x i within is = drop_more xs i x within ∙ ap (λ y. y ∷ drop (i + 1) xs) (sym is)

-- the first elements of a list, with the next one
pub one-more : {X : Type 0} (all : List X) (place : ℕ) (x : X) → slice_get all place ≡ Some x → take place all ++ x ∷ [] ≡ take (suc place) all
one-more [] place x is = absurd (none-some x is)
one-more (y ∷ ys) zero x is = ap (λ z. z ∷ []) (sym (same_Some y x is))
one-more (y ∷ ys) (suc place) x is = ap (λ zs. y ∷ zs) (one-more ys place x is)

-- where f associates, what it is begun with may be taken in at the end
pub fold_join : (f : ℤ → ℤ → ℤ) → ((x y z : ℤ) → f (f x y) z ≡ f x (f y z)) → (a n : ℤ) (ns : List ℤ) → fold f (f a n) ns ≡ f a (fold f n ns)
fold_join f associates a n [] = refl
fold_join f associates a n (m ∷ ns) = rw (associates a n m) (fold_join f associates a (f n m) ns)

-- the numbers among joined cells
pub numbers-append : (cells more : List (Option ℤ)) → numbers (cells ++ more) ≡ numbers cells ++ numbers more
numbers-append [] more = refl
numbers-append (None ∷ cells) more = numbers-append cells more
numbers-append (Some n ∷ cells) more = ap (λ ns. n ∷ ns) (numbers-append cells more)

-- there are no more numbers than cells
pub length-numbers : (cells : List (Option ℤ)) → length (numbers cells) ≤ length cells
length-numbers [] = omega arith
length-numbers (None ∷ cells) = omega (arith, length-numbers cells)
length-numbers (Some n ∷ cells) = omega (arith, length-numbers cells)
