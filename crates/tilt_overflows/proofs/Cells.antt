-- The watch of an expression is 0 at a tick at which no node of the expression leaves 64 bits, and else 1.
use Rattle.std.proofs.Common.{◌≡◌, ℕ, ℤ, pos, ◌+ℤ◌, ◌-ℤ◌, ◌*ℤ◌, ◌≤ℤ◌, ◌<ℤ◌, Bool, true, false, if◌then◌else◌, List, Option, Some, None, int_div, inl, refl, ap, arith}
use Rattle.std.specs.Ordering.{int_eq}
use Rattle.std.proofs.lemmas.Int.{ints}
use Rattle.tilt_base.specs.Expression.{Leaf, One, Two, If}
use Rattle.tilt_base.specs.Number.{within_64_bits}
use Rattle.tilt_base.specs.Reduce.{numbers, reduce}
use Rattle.tilt_base.specs.Scalar.{apply1, apply2, quotient, remainder, truth}
use Rattle.tilt_base.specs.declared.operator.Op1.{Op1}
use Rattle.tilt_base.specs.declared.operator.Op1.TheVariants.{Neg, Not, IsNull}
use Rattle.tilt_base.specs.declared.operator.Op2.{Op2}
use Rattle.tilt_base.specs.declared.operator.Op2.TheVariants.{Add, Sub, Mul, Div, Rem, Eq, Ne, Lt, Le, Gt, Ge, And, Or, When, IfNull}
use Rattle.tilt_base.specs.declared.reducer.Reducer.{Reducer}
use Rattle.tilt_base.specs.declared.reducer.Reducer.TheVariants as reducer
use Rattle.tilt_core.specs.CoreTree.{CoreTree, Const, Read, Reduce}
use Rattle.tilt_core.specs.Meaning.{body_of, source_of}
use Rattle.tilt_fractions.specs.Exact.{wide1, wide2}
use Rattle.tilt_fractions.specs.ExactReduce.{wide_reduce}
use Rattle.tilt_overflows.proofs.Decided.{Decided, both_decided, both_facts, first_fact, negative_decided, number_decided, quotient_decided, same_fact, second_fact, sum_decided}
use Rattle.tilt_overflows.specs.Law.{ReadsChosen}
use Rattle.tilt_overflows.specs.Leaves.{is_never, leaves, leaves1, leaves2, leaves_window, one_of}
use Rattle.tilt_stream.specs.Stream.{Stream}
use Rattle.tilt_stream.specs.Window.{met}
use Rattle.tilt_units.specs.Law.{Chosen, StaysWithin}

module _ (xs : List Stream) (tick : ℤ) where
  abbrev pub cell_of : CoreTree → Option ℤ
  cell_of e = (body_of xs e).cell tick

  never_is : (x : CoreTree) → is_never x ≡ true → cell_of x ≡ Some (pos 0)
  never_is (Leaf (Const number)) h = let same : number ≡ pos 0 = grind (arith, ints) in ap Some same
  never_is (Leaf (Read source offset)) h = absurd (cc h)
  never_is (Leaf (Reduce r source from to)) h = absurd (cc h)
  never_is (One op a) h = absurd (cc h)
  never_is (Two op a b) h = absurd (cc h)
  never_is (If c a b) h = absurd (cc h)

  one_by : (left right : Bool) (x y : CoreTree) (P Q : Type 0) → is_never x ≡ left → is_never y ≡ right → Decided (cell_of x) P → Decided (cell_of y) Q
      → Decided (cell_of (if left then y else if right then x else Two Or x y)) (P × Q)
  one_by true right x y P Q l r d e = second_fact (cell_of x) (cell_of y) P Q (never_is x l) d e
  one_by false true x y P Q l r d e = first_fact (cell_of x) (cell_of y) P Q (never_is y r) d e
  one_by false false x y P Q l r d e = both_facts (cell_of x) (cell_of y) P Q d e

  one_decided : (x y : CoreTree) (P Q : Type 0) → Decided (cell_of x) P → Decided (cell_of y) Q → Decided (cell_of (one_of x y)) (P × Q)
  one_decided x y P Q d e = one_by (is_never x) (is_never y) x y P Q refl refl d e

  decided1 : (op : Op1) (a : CoreTree) → Decided (cell_of (leaves1 op a)) (apply1 op (cell_of a) ≡ wide1 op (cell_of a))
  decided1 Neg a = negative_decided (cell_of a)
  decided1 Not a = inl (refl, refl)
  decided1 IsNull a = inl (refl, refl)

  decided2 : (op : Op2) (a b : CoreTree) → Decided (cell_of (leaves2 op a b)) (apply2 op (cell_of a) (cell_of b) ≡ wide2 op (cell_of a) (cell_of b))
  decided2 Add a b =
      both_decided (λ x y. within_64_bits (x +ℤ y)) (λ x y. Some (x +ℤ y)) (λ x y. truth (int_eq x y))
      (λ x y. number_decided (x +ℤ y) (if int_eq x y then pos 1 else pos 0)) (cell_of a) (cell_of b)
  decided2 Sub a b =
      both_decided (λ x y. within_64_bits (x -ℤ y)) (λ x y. Some (x -ℤ y)) (λ x y. truth (int_eq x y))
      (λ x y. number_decided (x -ℤ y) (if int_eq x y then pos 1 else pos 0)) (cell_of a) (cell_of b)
  decided2 Mul a b =
      both_decided (λ x y. within_64_bits (x *ℤ y)) (λ x y. Some (x *ℤ y)) (λ x y. truth (int_eq x y))
      (λ x y. number_decided (x *ℤ y) (if int_eq x y then pos 1 else pos 0)) (cell_of a) (cell_of b)
  decided2 Div a b =
      both_decided quotient (λ x y. if int_eq y (pos 0) then None else Some (int_div x y)) remainder quotient_decided (cell_of a) (cell_of b)
  decided2 Rem a b = inl (refl, refl)
  decided2 Eq a b = inl (refl, refl)
  decided2 Ne a b = inl (refl, refl)
  decided2 Lt a b = inl (refl, refl)
  decided2 Le a b = inl (refl, refl)
  decided2 Gt a b = inl (refl, refl)
  decided2 Ge a b = inl (refl, refl)
  decided2 And a b = inl (refl, refl)
  decided2 Or a b = inl (refl, refl)
  decided2 When a b = inl (refl, refl)
  decided2 IfNull a b = inl (refl, refl)

  window_decided : (r : Reducer) (source : ℕ) (from to : ℤ) (P : Type 0) → P
      → let ns = numbers (met (source_of xs source) (tick +ℤ from) (tick +ℤ to)) in
      Decided (cell_of (leaves_window r source from to)) (P × (reduce r ns ≡ wide_reduce r ns))
  window_decided reducer.Sum source from to P p =
      let ns = numbers (met (source_of xs source) (tick +ℤ from) (tick +ℤ to)) in
      let is = reduce reducer.Sum ns ≡ wide_reduce reducer.Sum ns in
      same_fact (cell_of (leaves_window reducer.Sum source from to)) is (P × is) (λ h. (p, h)) (λ h. h.1) (sum_decided ns)
  window_decided reducer.Avg source from to P p = inl (refl, (p, refl))
  window_decided reducer.Min source from to P p = inl (refl, (p, refl))
  window_decided reducer.Max source from to P p = inl (refl, (p, refl))
  window_decided reducer.Count source from to P p = inl (refl, (p, refl))
  window_decided reducer.First source from to P p = inl (refl, (p, refl))
  window_decided reducer.Last source from to P p = inl (refl, (p, refl))
  window_decided reducer.Any source from to P p = inl (refl, (p, refl))
  window_decided reducer.All source from to P p = inl (refl, (p, refl))

  module _ (chosen : Chosen) where
    abbrev Stays : CoreTree → Type 0
    Stays e = StaysWithin chosen xs tick e

    pub expression_decided : (e : CoreTree) → ReadsChosen chosen tick e → Decided (cell_of (leaves e)) (Stays e)
    expression_decided (Leaf (Const number)) reads = inl (refl, tt)
    expression_decided (Leaf (Read source offset)) reads = inl (refl, reads)
    expression_decided (Leaf (Reduce r source from to)) reads =
        window_decided r source from to
        ((other : ℤ) → (tick +ℤ from) <ℤ other → other ≤ℤ (tick +ℤ to) → chosen source other ≡ true) reads
    expression_decided (One op a) reads =
        one_decided (leaves a) (leaves1 op a) (Stays a) (apply1 op (cell_of a) ≡ wide1 op (cell_of a)) (expression_decided a reads) (decided1 op a)
    expression_decided (Two op a b) reads =
        let is = apply2 op (cell_of a) (cell_of b) ≡ wide2 op (cell_of a) (cell_of b) in
        let inner = one_of (leaves a) (leaves b) in
        same_fact (cell_of (one_of inner (leaves2 op a b))) ((Stays a × Stays b) × is) (Stays a × Stays b × is)
        (λ h. (h.0.0, h.0.1, h.1)) (λ h. ((h.0, h.1), h.2))
        (one_decided inner (leaves2 op a b) (Stays a × Stays b) is
        (one_decided (leaves a) (leaves b) (Stays a) (Stays b) (expression_decided a reads.0) (expression_decided b reads.1)) (decided2 op a b))
    expression_decided (If c a b) reads =
        let branches = one_of (leaves a) (leaves b) in
        same_fact (cell_of (one_of (leaves c) branches)) (Stays c × (Stays a × Stays b)) (Stays c × Stays a × Stays b)
        (λ h. (h.0, h.1.0, h.1.1)) (λ h. (h.0, (h.1, h.2)))
        (one_decided (leaves c) branches (Stays c) (Stays a × Stays b) (expression_decided c reads.0)
        (one_decided (leaves a) (leaves b) (Stays a) (Stays b) (expression_decided a reads.1) (expression_decided b reads.2)))

    pub stays_reads : (e : CoreTree) → Stays e → ReadsChosen chosen tick e
    stays_reads (Leaf (Const number)) h = tt
    stays_reads (Leaf (Read source offset)) h = h
    stays_reads (Leaf (Reduce r source from to)) h = h.0
    stays_reads (One op a) h = stays_reads a h.0
    stays_reads (Two op a b) h = (stays_reads a h.0, stays_reads b h.1)
    stays_reads (If c a b) h = (stays_reads c h.0, stays_reads a h.1, stays_reads b h.2)
