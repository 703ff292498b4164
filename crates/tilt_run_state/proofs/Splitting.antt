-- Spellings that have one value each, whatever follows them.
use Rattle.std.proofs.Common.{◌≡◌, ℕ, List, [], ◌∷◌, ◌++◌, length, refl, sym, ap, ◌∙◌, arith, append_assoc, flat_map}
use Rattle.std.specs.List.{AllByRecursion}

-- two values with the same spelling, whatever follows each, are the same, and so is what follows
abbrev pub Splits : {A : Type 0} → (A → Type 0) → (A → List ℕ) → Type 0
Splits {A} P text = (a b : A) (x y : List ℕ) → P a → P b → text a ++ x ≡ text b ++ y → (a ≡ b) × (x ≡ y)

-- of two parts, one after another

pub pair-splits : {A B : Type 0} (P : A → Type 0) (Q : B → Type 0) (f : A → List ℕ) (g : B → List ℕ) → Splits P f → Splits Q g
    → Splits (λ (p : A × B). P p.0 × Q p.1) (λ p. f p.0 ++ g p.1)
pair-splits P Q f g first second a b x y p q e =
    let one = first a.0 b.0 (g a.1 ++ x) (g b.1 ++ y) p.0 q.0 (sym (append_assoc (f a.0) (g a.1) x) ∙ e ∙ append_assoc (f b.0) (g b.1) y) in
    let two = second a.1 b.1 x y p.1 q.1 one.1 in
    (λ i. (one.0 i, two.0 i), two.1)

-- of items, as many of them

pub many-splits : {A : Type 0} (P : A → Type 0) (f : A → List ℕ) → Splits P f → (xs ys : List A) (x y : List ℕ) → length xs ≡ length ys
    → AllByRecursion P xs → AllByRecursion P ys → flat_map f xs ++ x ≡ flat_map f ys ++ y → (xs ≡ ys) × (x ≡ y)
many-splits P f splits [] [] x y n p q e = (refl, e)
many-splits P f splits [] (b ∷ ys) x y n p q e = absurd (omega (arith, n))
many-splits P f splits (a ∷ xs) [] x y n p q e = absurd (omega (arith, n))
many-splits P f splits (a ∷ xs) (b ∷ ys) x y n p q e =
    let one = splits a b (flat_map f xs ++ x) (flat_map f ys ++ y) p.0 q.0
    (sym (append_assoc (f a) (flat_map f xs) x) ∙ e ∙ append_assoc (f b) (flat_map f ys) y) in
    let more = many-splits P f splits xs ys x y (omega (arith, n)) p.1 q.1 one.1 in
    (λ i. one.0 i ∷ more.0 i, more.1)
