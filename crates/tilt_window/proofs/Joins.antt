-- The reducers on joined lists.
use Rattle.std.proofs.Common.{◌≡◌, ◌∙◌, ℤ, List, [], ◌∷◌, ◌++◌, Option, Some, None, fold, ap, refl, arith}
use Rattle.std.specs.Int.{int_min, int_max}
use Rattle.std.specs.Option.{option_or}
use Rattle.std.proofs.lemmas.Int.{ints, clamps}
use Rattle.std.proofs.lemmas.List.Sums.{fold-append}
use Rattle.tilt_base.proofs.Lists.{fold_join}
use Rattle.tilt_base.specs.Reduce.{last_of, reduce}
use Rattle.tilt_base.specs.declared.reducer.Reducer.TheVariants.{Last, Min, Max}

-- f of both numbers, or the one number that there is
abbrev pub either_or : (ℤ → ℤ → ℤ) → Option ℤ → Option ℤ → Option ℤ
either_or f (Some m) (Some n) = Some (f m n)
either_or f (Some m) None = Some m
either_or f None found = found

pub either_or-some : (f : ℤ → ℤ → ℤ) (one other : Option ℤ) (m n : ℤ) → one ≡ Some m → other ≡ Some n → either_or f one other ≡ Some (f m n)
either_or-some f one other m n is_m is_n = rw (is_m, is_n) refl

min_associates : (x y z : ℤ) → int_min (int_min x y) z ≡ int_min x (int_min y z)
min_associates x y z = grind (arith, ints, clamps)

max_associates : (x y z : ℤ) → int_max (int_max x y) z ≡ int_max x (int_max y z)
max_associates x y z = grind (arith, ints, clamps)

-- the least
pub min_append : (ms ns : List ℤ) → reduce Min (ms ++ ns) ≡ either_or int_min (reduce Min ms) (reduce Min ns)
min_append [] ns = refl
min_append (m ∷ ms) [] = ap Some (fold-append int_min m ms [])
min_append (m ∷ ms) (n ∷ ns) = ap Some (fold-append int_min m ms (n ∷ ns) ∙ fold_join int_min min_associates (fold int_min m ms) n ns)

-- the greatest
pub max_append : (ms ns : List ℤ) → reduce Max (ms ++ ns) ≡ either_or int_max (reduce Max ms) (reduce Max ns)
max_append [] ns = refl
max_append (m ∷ ms) [] = ap Some (fold-append int_max m ms [])
max_append (m ∷ ms) (n ∷ ns) = ap Some (fold-append int_max m ms (n ∷ ns) ∙ fold_join int_max max_associates (fold int_max m ms) n ns)

last_of_append : (l m : ℤ) (ms ns : List ℤ) → last_of l (ms ++ m ∷ ns) ≡ last_of m ns
last_of_append l m [] ns = refl
last_of_append l m (k ∷ ms) ns = last_of_append k m ms ns

last_of_all : (l : ℤ) (ms : List ℤ) → last_of l (ms ++ []) ≡ last_of l ms
last_of_all l [] = refl
last_of_all l (m ∷ ms) = last_of_all m ms

-- the last
pub last_append : (ms ns : List ℤ) → reduce Last (ms ++ ns) ≡ option_or (reduce Last ns) (reduce Last ms)
last_append [] [] = refl
last_append [] (n ∷ ns) = refl
last_append (m ∷ ms) [] = ap Some (last_of_all m ms)
last_append (m ∷ ms) (n ∷ ns) = ap Some (last_of_append m n ms ns)
