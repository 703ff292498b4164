-- A watching query looks no farther than the query, if the output depends on each definition.
use Rattle.std.proofs.Common.{◌≡◌, ℕ, zero, suc, ◌+◌, ◌<◌, ◌≤◌, ◌==◌, ℤ, pos, ◌+ℤ◌, ◌≤ℤ◌, Bool, true, false, if◌then◌else◌, List, [], ◌∷◌, ◌++◌, length, get_or, map, Option, Some, None, ◌⊎◌, inl, inr, refl, sym, ap, ◌∙◌, subst, arith}
use Rattle.std.specs.Prelude.{⊤, option_map}
use Rattle.std.specs.List.{AllByRecursion}
use Rattle.std.proofs.lemmas.Int.{ints, clamps}
use Rattle.std.proofs.lemmas.Bool.Decides.{nat_tests}
use Rattle.tilt_base.proofs.Comparisons.{below_or_at}
use Rattle.tilt_base.specs.Expression.{Leaf, One, Two, If}
use Rattle.tilt_base.specs.declared.operator.Op1.{Op1}
use Rattle.tilt_base.specs.declared.operator.Op1.TheVariants.{Neg, Not, IsNull}
use Rattle.tilt_base.specs.declared.operator.Op2.{Op2}
use Rattle.tilt_base.specs.declared.operator.Op2.TheVariants.{Add, Sub, Mul, Div, Rem, Eq, Ne, Lt, Le, Gt, Ge, And, Or, When, IfNull}
use Rattle.tilt_base.specs.declared.reducer.Reducer.{Reducer}
use Rattle.tilt_base.specs.declared.reducer.Reducer.TheVariants as reducer
use Rattle.tilt_core.specs.Core.{AreDefinitions, IsDefinition, ReadsBelow}
use Rattle.tilt_core.specs.CoreTree.{CoreTree, Const, Read, Reduce, Definition}
use Rattle.tilt_core.specs.Needs.{Need, asked_by, asked_from, asked_of, body_need, either, need_before, body_needs, needs_from, no_margin, reaching, widest}
use Rattle.tilt_overflows.proofs.Accepted.{leaves_reads}
use Rattle.tilt_overflows.specs.Leaves.{is_never, leaves, leaves1, leaves2, leaves_window, one_of}
use Rattle.tilt_overflows.specs.Watching.{some_of, watch}

-- a need that looks no farther than another; a missing one looks nowhere
abbrev pub IsNoFarther : Option Need → Option Need → Type 0
IsNoFarther None n = ⊤
IsNoFarther (Some m) None = ⊥
IsNoFarther (Some m) (Some n) = (m.back ≤ℤ n.back) × (m.ahead ≤ℤ n.ahead)

pub farther_refl : (m : Option Need) → IsNoFarther m m
farther_refl None = tt
farther_refl (Some m) = (omega (arith, ints), omega (arith, ints))

pub farther_trans : (l m n : Option Need) → IsNoFarther l m → IsNoFarther m n → IsNoFarther l n
farther_trans None m n h k = tt
farther_trans (Some l) None n h k = absurd h
farther_trans (Some l) (Some m) None h k = absurd k
farther_trans (Some l) (Some m) (Some n) h k =
    let a = h.0 in let b = h.1 in let c = k.0 in let d = k.1 in
    (omega (arith, ints), omega (arith, ints))

pub both_farther : (l m n : Option Need) → IsNoFarther l n → IsNoFarther m n → IsNoFarther (either l m) n
both_farther None m n h k = k
both_farther (Some l) None n h k = h
both_farther (Some l) (Some m) None h k = absurd h
both_farther (Some l) (Some m) (Some n) h k =
    let a = h.0 in let b = h.1 in let c = k.0 in let d = k.1 in
    (omega (arith, ints, clamps), omega (arith, ints, clamps))

pub first_farther : (m n : Option Need) → IsNoFarther m (either m n)
first_farther None n = tt
first_farther (Some m) None = farther_refl (Some m)
first_farther (Some m) (Some n) = (omega (arith, ints, clamps), omega (arith, ints, clamps))

pub second_farther : (m n : Option Need) → IsNoFarther n (either m n)
second_farther m None = tt
second_farther None (Some n) = farther_refl (Some n)
second_farther (Some m) (Some n) = (omega (arith, ints, clamps), omega (arith, ints, clamps))

-- either of two needs looks no farther than either of two that look no nearer
either_farther : (l m n o : Option Need) → IsNoFarther l n → IsNoFarther m o → IsNoFarther (either l m) (either n o)
either_farther l m n o h k =
    both_farther l m (either n o) (farther_trans l n (either n o) h (first_farther n o)) (farther_trans m o (either n o) k (second_farther n o))

read_farther : (is : Bool) (m n : Need) → IsNoFarther (Some m) (Some n) → IsNoFarther (if is then Some m else None) (if is then Some n else None)
read_farther true m n h = h
read_farther false m n h = tt

-- an expression asks no farther if its need looks no farther
by_farther : (m n : Need) (e : CoreTree) (s : ℕ) → IsNoFarther (Some m) (Some n) → IsNoFarther (asked_by m e s) (asked_by n e s)
by_farther m n (Leaf (Const number)) s h = tt
by_farther m n (Leaf (Read read offset)) s h =
    let a = h.0 in let b = h.1 in
    read_farther (read == s) (reaching m offset offset) (reaching n offset offset) (omega (arith, ints, clamps), omega (arith, ints, clamps))
by_farther m n (Leaf (Reduce r read from to)) s h =
    let a = h.0 in let b = h.1 in
    read_farther (read == s) (reaching m (from +ℤ pos 1) to) (reaching n (from +ℤ pos 1) to) (omega (arith, ints, clamps), omega (arith, ints, clamps))
by_farther m n (One op a) s h = by_farther m n a s h
by_farther m n (Two op a b) s h = either_farther (asked_by m a s) (asked_by m b s) (asked_by n a s) (asked_by n b s) (by_farther m n a s h) (by_farther m n b s h)
by_farther m n (If c a b) s h =
    either_farther (asked_by m c s) (either (asked_by m a s) (asked_by m b s)) (asked_by n c s) (either (asked_by n a s) (asked_by n b s)) (by_farther m n c s h)
    (either_farther (asked_by m a s) (asked_by m b s) (asked_by n a s) (asked_by n b s) (by_farther m n a s h) (by_farther m n b s h))

-- an expression asks only the sources that it reads
none_asked : (bound : ℕ) (n : Need) (e : CoreTree) (s : ℕ) → ReadsBelow bound e → bound ≤ s → asked_by n e s ≡ None
none_asked bound n (Leaf (Const number)) s r h = refl
none_asked bound n (Leaf (Read read offset)) s r h =
    let is : (read == s) ≡ false = grind (arith, nat_tests) in
    ap (λ b. if b then Some (reaching n offset offset) else None) is
none_asked bound n (Leaf (Reduce reducer read from to)) s r h =
    let low = r.0 in
    let is : (read == s) ≡ false = grind (arith, nat_tests) in
    ap (λ b. if b then Some (reaching n (from +ℤ pos 1) to) else None) is
none_asked bound n (One op a) s r h = none_asked bound n a s r h
none_asked bound n (Two op a b) s r h =
    let p = none_asked bound n a s r.0 h in let q = none_asked bound n b s r.1 h in (λ i. either (p i) (q i))
none_asked bound n (If c a b) s r h =
    let o = none_asked bound n c s r.0 h in let p = none_asked bound n a s r.1 h in let q = none_asked bound n b s r.2 h in
    (λ i. either (o i) (either (p i) (q i)))

module _ (n : Need) (s : ℕ) where
  abbrev asked : CoreTree → Option Need
  asked e = asked_by n e s

  one_by : (left right : Bool) (x y : CoreTree) (m : Option Need) → IsNoFarther (asked x) m → IsNoFarther (asked y) m
      → IsNoFarther (asked (if left then y else if right then x else Two Or x y)) m
  one_by true right x y m h k = k
  one_by false true x y m h k = h
  one_by false false x y m h k = both_farther (asked x) (asked y) m h k

  one_farther : (x y : CoreTree) (m : Option Need) → IsNoFarther (asked x) m → IsNoFarther (asked y) m → IsNoFarther (asked (one_of x y)) m
  one_farther x y m h k = one_by (is_never x) (is_never y) x y m h k

  same_twice : (m : Option Need) → IsNoFarther (either m m) m
  same_twice m = both_farther m m m (farther_refl m) (farther_refl m)

  farther1 : (op : Op1) (a : CoreTree) → IsNoFarther (asked (leaves1 op a)) (asked a)
  farther1 Neg a = same_twice (asked a)
  farther1 Not a = tt
  farther1 IsNull a = tt

  farther2 : (op : Op2) (a b : CoreTree) → IsNoFarther (asked (leaves2 op a b)) (either (asked a) (asked b))
  farther2 Add a b = same_twice (either (asked a) (asked b))
  farther2 Sub a b = same_twice (either (asked a) (asked b))
  farther2 Mul a b = same_twice (either (asked a) (asked b))
  farther2 Div a b = same_twice (either (asked a) (asked b))
  farther2 Rem a b = tt
  farther2 Eq a b = tt
  farther2 Ne a b = tt
  farther2 Lt a b = tt
  farther2 Le a b = tt
  farther2 Gt a b = tt
  farther2 Ge a b = tt
  farther2 And a b = tt
  farther2 Or a b = tt
  farther2 When a b = tt
  farther2 IfNull a b = tt

  window_farther : (r : Reducer) (source : ℕ) (from to : ℤ) → IsNoFarther (asked (leaves_window r source from to)) (asked (Leaf (Reduce r source from to)))
  window_farther reducer.Sum source from to = same_twice (asked (Leaf (Reduce reducer.Sum source from to)))
  window_farther reducer.Avg source from to = tt
  window_farther reducer.Min source from to = tt
  window_farther reducer.Max source from to = tt
  window_farther reducer.Count source from to = tt
  window_farther reducer.First source from to = tt
  window_farther reducer.Last source from to = tt
  window_farther reducer.Any source from to = tt
  window_farther reducer.All source from to = tt

  -- the watch of an expression asks no farther than the expression
  leaves_farther : (e : CoreTree) → IsNoFarther (asked (leaves e)) (asked e)
  leaves_farther (Leaf (Const number)) = tt
  leaves_farther (Leaf (Read source offset)) = tt
  leaves_farther (Leaf (Reduce r source from to)) = window_farther r source from to
  leaves_farther (One op a) = one_farther (leaves a) (leaves1 op a) (asked a) (leaves_farther a) (farther1 op a)
  leaves_farther (Two op a b) =
      let both = either (asked a) (asked b) in
      one_farther (one_of (leaves a) (leaves b)) (leaves2 op a b) both
      (one_farther (leaves a) (leaves b) both
      (farther_trans (asked (leaves a)) (asked a) both (leaves_farther a) (first_farther (asked a) (asked b)))
      (farther_trans (asked (leaves b)) (asked b) both (leaves_farther b) (second_farther (asked a) (asked b))))
      (farther2 op a b)
  leaves_farther (If c a b) =
      let branches = either (asked a) (asked b) in
      let all = either (asked c) branches in
      one_farther (leaves c) (one_of (leaves a) (leaves b)) all
      (farther_trans (asked (leaves c)) (asked c) all (leaves_farther c) (first_farther (asked c) branches))
      (farther_trans (asked (one_of (leaves a) (leaves b))) branches all
      (one_farther (leaves a) (leaves b) branches
      (farther_trans (asked (leaves a)) (asked a) branches (leaves_farther a) (first_farther (asked a) (asked b)))
      (farther_trans (asked (leaves b)) (asked b) branches (leaves_farther b) (second_farther (asked a) (asked b))))
      (second_farther (asked c) branches))

of_farther : (def : Definition) (m n : Option Need) (s : ℕ) → IsNoFarther m n → IsNoFarther (asked_of def m s) (asked_of def n s)
of_farther def None n s h = tt
of_farther def (Some m) None s h = absurd h
of_farther def (Some m) (Some n) s h =
    let a = h.0 in let b = h.1 in
    by_farther (body_need def m) (body_need def n) def.body s (omega (arith, ints), omega (arith, ints))

of_none : (bound : ℕ) (def : Definition) (n : Option Need) (s : ℕ) → ReadsBelow bound def.body → bound ≤ s → asked_of def n s ≡ None
of_none bound def None s r h = refl
of_none bound def (Some n) s r h = none_asked bound (body_need def n) def.body s r h

none_farther : (m n : Option Need) → m ≡ None → IsNoFarther m n
none_farther m n is = subst (λ x. IsNoFarther x n) (sym is) tt

below_or_not : (s bound : ℕ) → (s < bound) ⊎ (bound ≤ s)
below_or_not s zero = inr (omega arith)
below_or_not zero (suc bound) = inl (omega arith)
below_or_not (suc s) (suc bound) = elim (below_or_not s bound) [ inl low ↦ inl (omega arith) | inr high ↦ inr (omega arith) ]

-- needs of all sources, of which the definitions from a number on ask no more
abbrev pub AreEnough : (ℕ → Option Need) → ℕ → List Definition → Type 0
AreEnough N number [] = ⊤
AreEnough N number (def ∷ defs) = ((s : ℕ) → s < number → IsNoFarther (asked_of def (N number) s) (N s)) × AreEnough N (suc number) defs

module _ (N : ℕ → Option Need) where
  pub record Fits (number : ℕ) (defs : List Definition) : Type 0 where
    pub before : (s : ℕ) → s < number → IsNoFarther (asked_from number defs s) (N s)
    pub each : (k : ℕ) → N (number + k) ≡ get_or (needs_from number defs) k None

  first_each : (number : ℕ) (def : Definition) (defs : List Definition) → Fits number (def ∷ defs)
      → N number ≡ need_before defs (asked_from (suc number) defs number)
  first_each number def defs fits =
      let is : number + 0 ≡ number = omega arith in
      subst (λ n. N n ≡ need_before defs (asked_from (suc number) defs number)) is (fits.each 0)

  asked_behind : (number : ℕ) (defs : List Definition) → IsNoFarther (asked_from (suc number) defs number) (need_before defs (asked_from (suc number) defs number))
  asked_behind number [] = tt
  asked_behind number (def ∷ defs) = farther_refl (asked_from (suc number) (def ∷ defs) number)

  rest_before : (number : ℕ) (def : Definition) (defs : List Definition) → Fits number (def ∷ defs) → (s : ℕ) → ((s < number) ⊎ (s ≡ number))
      → IsNoFarther (asked_from (suc number) defs s) (N s)
  rest_before number def defs fits s (inl below) =
      let rest = asked_from (suc number) defs s in
      let this = asked_of def (need_before defs (asked_from (suc number) defs number)) s in
      farther_trans rest (either rest this) (N s) (first_farther rest this) (fits.before s below)
  rest_before number def defs fits s (inr same) =
      subst (λ n. IsNoFarther (asked_from (suc number) defs n) (N n)) (sym same)
      (subst (λ n. IsNoFarther (asked_from (suc number) defs number) n) (sym (first_each number def defs fits)) (asked_behind number defs))

  pub enough : (number : ℕ) (defs : List Definition) → Fits number defs → AreEnough N number defs
  enough number [] fits = tt
  enough number (def ∷ defs) fits =
      let n = need_before defs (asked_from (suc number) defs number) in (
        λ s below.
            let rest = asked_from (suc number) defs s in
            subst (λ m. IsNoFarther (asked_of def m s) (N s)) (sym (first_each number def defs fits))
            (farther_trans (asked_of def n s) (either rest (asked_of def n s)) (N s) (second_farther rest (asked_of def n s)) (fits.before s below)),
        enough (suc number) defs (record {
          before = λ s below. rest_before number def defs fits s (below_or_at s number below);
          each = λ k.
              let is : number + suc k ≡ suc number + k = omega arith in
              subst (λ n. N n ≡ get_or (needs_from (suc number) defs) k None) is (fits.each (suc k));
        }),
      )

  -- an ask of one definition, if its need is no farther than what is enough
  one_enough : (number : ℕ) (def : Definition) (m : Option Need) → ReadsBelow number def.body → IsNoFarther m (N number)
      → ((s : ℕ) → s < number → IsNoFarther (asked_of def (N number) s) (N s)) → (s : ℕ) → IsNoFarther (asked_of def m s) (N s)
  one_enough number def m reads h all s =
      elim (below_or_not s number) [
        | inl low ↦ farther_trans (asked_of def m s) (asked_of def (N number) s) (N s) (of_farther def m (N number) s h) (all s low)
        | inr high ↦ none_farther (asked_of def m s) (N s) (of_none number def m s reads high)
      ]

pub need_is : (defs : List Definition) (last : Definition) (n : Option Need) → need_before (defs ++ last ∷ []) n ≡ n
need_is [] last n = refl
need_is (def ∷ defs) last n = refl

-- what is emitted asks the watches for their ticks themselves, and no other sources
read_margin : (is : Bool) (n : Need) → n.back ≡ pos 0 → n.ahead ≡ pos 0
    → IsNoFarther (if is then Some (reaching n (pos 0) (pos 0)) else None) (Some no_margin)
read_margin true n back ahead = (omega (arith, ints, clamps), omega (arith, ints, clamps))
read_margin false n back ahead = tt

some_asked : (first more s : ℕ) (n : Need) → n.back ≡ pos 0 → n.ahead ≡ pos 0 → IsNoFarther (asked_by n (some_of first more) s) (Some no_margin)
some_asked first zero s n back ahead = read_margin (first == s) n back ahead
some_asked first (suc more) s n back ahead =
    both_farther (asked_by n (some_of first more) s) (asked_by n (Leaf (Read (first + suc more) (pos 0))) s) (Some no_margin) (some_asked first more s n back ahead)
    (read_margin ((first + suc more) == s) n back ahead)

some_none : (first more s : ℕ) (n : Need) → s < first → asked_by n (some_of first more) s ≡ None
some_none first zero s n low =
    let is : (first == s) ≡ false = grind (arith, nat_tests) in
    ap (λ b. if b then Some (reaching n (pos 0) (pos 0)) else None) is
some_none first (suc more) s n low =
    let is : ((first + suc more) == s) ≡ false = grind (arith, nat_tests) in
    let p = some_none first more s n low in
    let q = ap (λ b. if b then Some (reaching n (pos 0) (pos 0)) else None) is in
    (λ i. either (p i) (q i))

module _ (N : ℕ → Option Need) (last : Definition) (first more : ℕ) (body : last.body ≡ some_of first more) (period : last.grid.period ≡ pos 1) where
  last_asked : (f s : ℕ) → IsNoFarther (asked_from f (last ∷ []) s) (Some no_margin)
  last_asked f s =
      subst (λ e. IsNoFarther (asked_by (body_need last no_margin) e s) (Some no_margin)) (sym body)
      (some_asked first more s (body_need last no_margin) refl (omega (arith, ints, period)))

  last_none : (f s : ℕ) → s < first → asked_from f (last ∷ []) s ≡ None
  last_none f s low = ap (λ e. asked_by (body_need last no_margin) e s) body ∙ some_none first more s (body_need last no_margin) low

  watches : List Definition → List Definition
  watches defs = map watch defs ++ last ∷ []

  watch_reads : (b : ℕ) (def : Definition) → IsDefinition b def → ReadsBelow b (watch def).body
  watch_reads b def is = (tt, leaves_reads b def.body is.reads)

  -- watches are asked for their ticks themselves
  watches_margin : (b : ℕ) (defs : List Definition) → AreDefinitions b defs → (f s : ℕ) → b + length defs ≤ s
      → IsNoFarther (asked_from f (map watch defs ++ last ∷ []) s) (Some no_margin)
  watches_margin b [] are f s high = last_asked f s
  watches_margin b (def ∷ defs) are f s high =
      let rest = map watch defs ++ last ∷ [] in
      let this = asked_of (watch def) (need_before rest (asked_from (suc f) rest f)) s in
      both_farther (asked_from (suc f) rest s) this (Some no_margin)
      (watches_margin (suc b) defs are.1 (suc f) s (omega (arith, high)))
      (none_farther this (Some no_margin) (of_none b (watch def) (need_before rest (asked_from (suc f) rest f)) s (watch_reads b def are.0) (omega (arith, high))))

  -- the definitions are used
  abbrev pub AreUsed : ℕ → List Definition → Type 0
  AreUsed b [] = ⊤
  AreUsed b (def ∷ defs) = IsNoFarther (Some no_margin) (N b) × AreUsed (suc b) defs

  -- a watch that is asked for its tick asks no more than the definition
  watch_enough : (b : ℕ) (def : Definition) (n : Option Need) → IsDefinition b def → IsNoFarther n (Some no_margin) → IsNoFarther (Some no_margin) (N b)
      → ((s : ℕ) → s < b → IsNoFarther (asked_of def (N b) s) (N s)) → (s : ℕ) → IsNoFarther (asked_of (watch def) n s) (N s)
  watch_enough b def n is h used all s =
      let own = asked_of def (Some no_margin) s in
      farther_trans (asked_of (watch def) n s) (asked_of (watch def) (Some no_margin) s) (N s) (of_farther (watch def) n (Some no_margin) s h)
      (farther_trans (asked_of (watch def) (Some no_margin) s) own (N s) (leaves_farther (body_need def no_margin) s def.body)
      (one_enough N b def (Some no_margin) is.reads used all s))

  pub watches_enough : (b : ℕ) (defs : List Definition) → AreDefinitions b defs → AreEnough N b defs → AreUsed b defs → (f s : ℕ) → b + length defs ≤ f → s < first
      → IsNoFarther (asked_from f (map watch defs ++ last ∷ []) s) (N s)
  watches_enough b [] are enough used f s high low = none_farther (asked_from f (last ∷ []) s) (N s) (last_none f s low)
  watches_enough b (def ∷ defs) are enough used f s high low =
      let rest = map watch defs ++ last ∷ [] in
      let n = asked_from (suc f) rest f in
      let this = need_is (map watch defs) last n in
      both_farther (asked_from (suc f) rest s) (asked_of (watch def) (need_before rest n) s) (N s)
      (watches_enough (suc b) defs are.1 enough.1 used.1 (suc f) s (omega (arith, high)) low)
      (subst (λ m. IsNoFarther (asked_of (watch def) m s) (N s)) (sym this)
      (watch_enough b def n are.0 (watches_margin (suc b) defs are.1 (suc f) f (omega (arith, high))) used.0 enough.0 s))

  -- definitions before the watches are asked no more than is enough
  pub all_enough : (b : ℕ) (defs : List Definition) (rest : List Definition) → AreDefinitions b defs → AreEnough N b defs
      → ((d : List Definition) (n : Option Need) → need_before (d ++ rest) n ≡ n)
      → ((s : ℕ) → s < b + length defs → IsNoFarther (asked_from (b + length defs) rest s) (N s))
      → (s : ℕ) → s < b + length defs → IsNoFarther (asked_from b (defs ++ rest) s) (N s)
  all_enough b [] rest are enough need tail s low =
      let is : b + 0 ≡ b = omega arith in
      subst (λ n. IsNoFarther (asked_from n rest s) (N s)) is (tail s low)
  all_enough b (def ∷ defs) rest are enough need tail s low =
      let is : b + suc (length defs) ≡ suc b + length defs = omega arith in
      let after = all_enough (suc b) defs rest are.1 enough.1 need
      (λ t below. subst (λ n. IsNoFarther (asked_from n rest t) (N t)) is (tail t (omega (arith, below)))) in
      let n = asked_from (suc b) (defs ++ rest) b in
      both_farther (asked_from (suc b) (defs ++ rest) s) (asked_of def (need_before (defs ++ rest) n) s) (N s) (after s (omega (arith, low)))
      (subst (λ m. IsNoFarther (asked_of def m s) (N s)) (sym (need defs n))
      (one_enough N b def n are.0.reads (after b (omega arith)) enough.0 s))

  -- what bodies read is within a limit
  module _ (limit : Need) where
    abbrev pub AreWithin : List (Option Need) → Type 0
    AreWithin ns = AllByRecursion (λ (n : Option Need). IsNoFarther n (Some limit)) ns

    abbrev pub BodiesWithin : ℕ → List Definition → Type 0
    BodiesWithin b [] = ⊤
    BodiesWithin b (def ∷ defs) = IsNoFarther (option_map (body_need def) (N b)) (Some limit) × BodiesWithin (suc b) defs

    body_farther : (def : Definition) (m n : Option Need) → IsNoFarther m n → IsNoFarther (option_map (body_need def) m) (option_map (body_need def) n)
    body_farther def None n h = tt
    body_farther def (Some m) None h = absurd h
    body_farther def (Some m) (Some n) h = let a = h.0 in let b = h.1 in (omega (arith, ints), omega (arith, ints))

    body_within : (def : Definition) (m n : Option Need) → IsNoFarther m n → IsNoFarther (option_map (body_need def) n) (Some limit)
        → IsNoFarther (option_map (body_need def) m) (Some limit)
    body_within def m n h k = farther_trans (option_map (body_need def) m) (option_map (body_need def) n) (Some limit) (body_farther def m n h) k

    pub watches_within : (b : ℕ) (defs : List Definition) → AreDefinitions b defs → AreUsed b defs → BodiesWithin b defs → pos 0 ≤ℤ limit.back → pos 0 ≤ℤ limit.ahead
        → (f : ℕ) → b + length defs ≤ f → AreWithin (body_needs (map watch defs ++ last ∷ []) (needs_from f (map watch defs ++ last ∷ [])))
    watches_within b [] are used within back ahead f high = ((back, omega (arith, ints, period)), tt)
    watches_within b (def ∷ defs) are used within back ahead f high =
        let rest = map watch defs ++ last ∷ [] in
        let n = asked_from (suc f) rest f in
        let tick = watches_margin (suc b) defs are.1 (suc f) f (omega (arith, high)) in (
          subst (λ m. IsNoFarther (option_map (body_need def) m) (Some limit)) (sym (need_is (map watch defs) last n))
              (body_within def n (N b) (farther_trans n (Some no_margin) (N b) tick used.0) within.0),
          watches_within (suc b) defs are.1 used.1 within.1 back ahead (suc f) (omega (arith, high)),
        )

    pub all_within : (b : ℕ) (defs : List Definition) (rest : List Definition) → AreDefinitions b defs → AreEnough N b defs → BodiesWithin b defs
        → ((d : List Definition) (n : Option Need) → need_before (d ++ rest) n ≡ n)
        → ((s : ℕ) → s < b + length defs → IsNoFarther (asked_from (b + length defs) rest s) (N s))
        → AreWithin (body_needs rest (needs_from (b + length defs) rest)) → AreWithin (body_needs (defs ++ rest) (needs_from b (defs ++ rest)))
    all_within b [] rest are enough within need tail h = let is : b + 0 ≡ b = omega arith in subst (λ n. AreWithin (body_needs rest (needs_from n rest))) is h
    all_within b (def ∷ defs) rest are enough within need tail h =
        let is : b + suc (length defs) ≡ suc b + length defs = omega arith in
        let after : (s : ℕ) → s < suc b + length defs → IsNoFarther (asked_from (suc b + length defs) rest s) (N s) =
        λ t below. subst (λ n. IsNoFarther (asked_from n rest t) (N t)) is (tail t (omega (arith, below))) in
        let n = asked_from (suc b) (defs ++ rest) b in (
          subst (λ m. IsNoFarther (option_map (body_need def) m) (Some limit)) (sym (need defs n))
              (body_within def n (N b) (all_enough (suc b) defs rest are.1 enough.1 need after b (omega arith)) within.0),
          all_within (suc b) defs rest are.1 enough.1 within.1 need after (subst (λ n. AreWithin (body_needs rest (needs_from n rest))) is h),
        )

    pub widest_within : (ns : List (Option Need)) → AreWithin ns → pos 0 ≤ℤ limit.back → pos 0 ≤ℤ limit.ahead → IsNoFarther (Some (widest ns)) (Some limit)
    widest_within [] h back ahead = (back, ahead)
    widest_within (None ∷ ns) h back ahead = widest_within ns h.1 back ahead
    widest_within (Some n ∷ ns) h back ahead =
        let rest = widest_within ns h.1 back ahead in
        let a = rest.0 in let b = rest.1 in let c = h.0.0 in let d = h.0.1 in
        (omega (arith, ints, clamps), omega (arith, ints, clamps))
