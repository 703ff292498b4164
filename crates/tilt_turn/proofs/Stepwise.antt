-- What is said of all items of a list.
use Rattle.std.proofs.Common.{◌≡◌, ◌<◌, ℕ, zero, suc, List, [], ◌∷◌, map, length, get_or, ap, arith}
use Rattle.std.proofs.Math.ListN.{set}
use Rattle.std.specs.List.{AllByRecursion}

-- what is said of each item stays, where the new item says the same
pub said-step : {X Y : Type 0} (f : X → Y) (i : ℕ) (xs : List X) (d new : X) → i < length xs → f new ≡ f (get_or xs i d)
    → map f (set xs i new) ≡ map f xs
said-step f i [] d new within same = absurd (omega arith)
said-step f zero (y ∷ ys) d new within same = ap (λ z. z ∷ map f ys) same
said-step f (suc i) (y ∷ ys) d new within same = ap (λ zs. f y ∷ zs) (said-step f i ys d new (omega arith) same)

pub all-weaker : {X : Type 0} (P Q : X → Type 0) (xs : List X) → ((x : X) → P x → Q x) → AllByRecursion P xs → AllByRecursion Q xs
all-weaker P Q [] f h = tt
all-weaker P Q (x ∷ xs) f h = (f x h.0, all-weaker P Q xs f h.1)

-- what follows for each item that is made of another
pub all-mapped : {X Y : Type 0} (f : X → Y) (P : X → Type 0) (Q : Y → Type 0) (xs : List X) → ((x : X) → P x → Q (f x)) → AllByRecursion P xs
    → AllByRecursion Q (map f xs)
all-mapped f P Q [] step all = tt
all-mapped f P Q (x ∷ xs) step all = (step x all.0, all-mapped f P Q xs step all.1)

-- what follows for each item from two things that are said of it
pub all-both : {X : Type 0} (P Q R : X → Type 0) (xs : List X) → ((x : X) → P x → Q x → R x) → AllByRecursion P xs → AllByRecursion Q xs
    → AllByRecursion R xs
all-both P Q R [] step p q = tt
all-both P Q R (x ∷ xs) step p q = (step x p.0 q.0, all-both P Q R xs step p.1 q.1)

-- where one item is set of which it holds too
pub all-set : {X : Type 0} (P : X → Type 0) (xs : List X) (i : ℕ) (new : X) → AllByRecursion P xs → P new → AllByRecursion P (set xs i new)
all-set P [] i new all one = tt
all-set P (x ∷ xs) zero new all one = (one, all.1)
all-set P (x ∷ xs) (suc i) new all one = (all.0, all-set P xs i new all.1 one)
