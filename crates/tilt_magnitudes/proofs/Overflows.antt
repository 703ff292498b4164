-- If 64 bits hold the intervals of all nodes, no node leaves 64 bits: each gives what it gives on numbers of any size.
use Rattle.std.proofs.Common.{◌≡◌, ℕ, suc, ◌+◌, ℤ, pos, neg_ℤ, ◌+ℤ◌, ◌-ℤ◌, ◌*ℤ◌, ◌≤◌, Bool, true, false, if◌then◌else◌, List, [], ◌∷◌, ◌++◌, length, map, Option, Some, None, Ok, int_div, refl, sym, subst, arith}
use Rattle.std.specs.Int.{int_gap}
use Rattle.std.specs.Ordering.{int_eq}
use Rattle.std.proofs.lemmas.Int.{ints}
use Rattle.std.proofs.lemmas.List.{length_push}
use Rattle.tilt_base.specs.Expression.{Leaf, One, Two, If}
use Rattle.tilt_base.specs.Number.{within_64_bits}
use Rattle.tilt_base.specs.Reduce.{numbers, reduce, total}
use Rattle.tilt_base.specs.Scalar.{apply1, apply2, of_both, quotient as quotient_cell}
use Rattle.tilt_base.specs.declared.operator.Op1.{Op1}
use Rattle.tilt_base.specs.declared.operator.Op1.TheVariants.{Neg, Not, IsNull}
use Rattle.tilt_base.specs.declared.operator.Op2.{Op2}
use Rattle.tilt_base.specs.declared.operator.Op2.TheVariants.{Add, Sub, Mul, Div, Rem, Eq, Ne, Lt, Le, Gt, Ge, And, Or, When, IfNull}
use Rattle.tilt_base.specs.declared.reducer.Reducer.{Reducer}
use Rattle.tilt_base.specs.declared.reducer.Reducer.TheVariants as reducer
use Rattle.tilt_core.specs.CoreTree.{CoreTree, Const, Read, Reduce, Definition, nodes}
use Rattle.tilt_core.specs.Meaning.{AreGrids, with_definitions, body_of, definition_of, source_of}
use Rattle.tilt_fractions.specs.Exact.{wide1, wide2}
use Rattle.tilt_fractions.specs.ExactReduce.{wide_reduce}
use Rattle.tilt_magnitudes.proofs.Marked.{earlier_marks, few_numbers, rows_marks}
use Rattle.tilt_magnitudes.specs.Marks.{HaveRates, marks_in, snapshots_met}
use Rattle.tilt_magnitudes.specs.declared.met.Rate.{Rate}
use Rattle.tilt_magnitudes.proofs.Meaning.{Known, as_many, definition_within, expression_within, inputs_within, sources_push}
use Rattle.tilt_magnitudes.proofs.Narrowed.{after, number_holds}
use Rattle.tilt_magnitudes.proofs.Products.{product_within}
use Rattle.tilt_magnitudes.proofs.Quotients.{negated_within, quotient_within}
use Rattle.tilt_magnitudes.proofs.Scalars.{differences_within, sums_within}
use Rattle.tilt_magnitudes.proofs.Sums.{AllWithin, sum_within}
use Rattle.tilt_magnitudes.proofs.Windows.{numbers_met}
use Rattle.tilt_magnitudes.specs.Interval.{Interval, Bounds, BoundsCell, counts, difference, hull, interval1, interval2, interval_reduced, negated, product, quotient, sum}
use Rattle.tilt_magnitudes.specs.Law.{HaveAllMarks, BoundInputs, BoundSources, everywhere}
use Rattle.tilt_magnitudes.specs.Magnitude.{interval_at, magnitude, more_magnitudes, narrowed, next_magnitudes}
use Rattle.tilt_stream.specs.Snap.{Snapshot}
use Rattle.tilt_stream.specs.Stream.{Stream, stream_of}
use Rattle.tilt_stream.specs.Window.{met}
use Rattle.tilt_units.specs.Law.{QueryStaysWithin, StaysWithin}
use Rattle.tilt_units.specs.Scaling.{later}
use Rattle.tilt_units.specs.Translation.{start_of}
use Rattle.tilt_units.specs.declared.place.Place.{Place}

one_holds : (op : Op1) (place : Place) (a i : Interval) (x : Option ℤ) → narrowed place (interval1 op a) ≡ Ok i → BoundsCell a x
    → apply1 op x ≡ wide1 op x
one_holds Neg place a i None h f = refl
one_holds Neg place a i (Some x) h f = number_holds place (negated a) i (neg_ℤ x) h (negated_within a x f)
one_holds Not place a i x h f = refl
one_holds IsNull place a i x h f = refl

both_hold : (a b : Interval) (f g : ℤ → ℤ → Option ℤ) → ((x y : ℤ) → Bounds a x → Bounds b y → f x y ≡ g x y)
    → (x y : Option ℤ) → BoundsCell a x → BoundsCell b y → of_both f x y ≡ of_both g x y
both_hold a b f g h None y k l = refl
both_hold a b f g h (Some x) None k l = refl
both_hold a b f g h (Some x) (Some y) k l = h x y k l

unless_zero : (is : Bool) (y : ℤ) (c d : Option ℤ) → int_eq y (pos 0) ≡ is → ((y ≡ pos 0 → ⊥) → c ≡ d)
    → (if is then None else c) ≡ (if is then None else d)
unless_zero true y c d e h = refl
unless_zero false y c d e h = h (λ zero. absurd (grind (arith, ints)))

two_hold : (op : Op2) (place : Place) (a b i : Interval) (x y : Option ℤ) → narrowed place (interval2 op a b) ≡ Ok i
    → BoundsCell a x → BoundsCell b y → apply2 op x y ≡ wide2 op x y
two_hold Add place a b i x y h f g =
    both_hold a b (λ x y. within_64_bits (x +ℤ y)) (λ x y. Some (x +ℤ y))
    (λ x y k l. number_holds place (sum a b) i (x +ℤ y) h (sums_within a b x y k l)) x y f g
two_hold Sub place a b i x y h f g =
    both_hold a b (λ x y. within_64_bits (x -ℤ y)) (λ x y. Some (x -ℤ y))
    (λ x y k l. number_holds place (difference a b) i (x -ℤ y) h (differences_within a b x y k l)) x y f g
two_hold Mul place a b i x y h f g =
    both_hold a b (λ x y. within_64_bits (x *ℤ y)) (λ x y. Some (x *ℤ y))
    (λ x y k l. number_holds place (product a b) i (x *ℤ y) h (product_within a b x y k l)) x y f g
two_hold Div place a b i x y h f g =
    both_hold a b quotient_cell (λ x y. if int_eq y (pos 0) then None else Some (int_div x y))
    (λ x y k l. unless_zero (int_eq y (pos 0)) y (within_64_bits (int_div x y)) (Some (int_div x y)) refl
    (λ nonzero. number_holds place (quotient a b) i (int_div x y) h (quotient_within a b x y k l nonzero))) x y f g
two_hold Rem place a b i x y h f g = refl
two_hold Eq place a b i x y h f g = refl
two_hold Ne place a b i x y h f g = refl
two_hold Lt place a b i x y h f g = refl
two_hold Le place a b i x y h f g = refl
two_hold Gt place a b i x y h f g = refl
two_hold Ge place a b i x y h f g = refl
two_hold And place a b i x y h f g = refl
two_hold Or place a b i x y h f g = refl
two_hold When place a b i x y h f g = refl
two_hold IfNull place a b i x y h f g = refl

reducer_holds : (r : Reducer) (place : Place) (most : ℕ) (a i : Interval) (ns : List ℤ) → narrowed place (interval_reduced r most a) ≡ Ok i
    → AllWithin a ns → length ns ≤ most → reduce r ns ≡ wide_reduce r ns
reducer_holds reducer.Sum place most a i [] h f few = refl
reducer_holds reducer.Sum place most a i (n ∷ ns) h f few =
    number_holds place (product (counts most) a) i (total (n ∷ ns)) h (sum_within most a n ns f few)
reducer_holds reducer.Avg place most a i ns h f few = refl
reducer_holds reducer.Min place most a i ns h f few = refl
reducer_holds reducer.Max place most a i ns h f few = refl
reducer_holds reducer.Count place most a i ns h f few = refl
reducer_holds reducer.First place most a i ns h f few = refl
reducer_holds reducer.Last place most a i ns h f few = refl
reducer_holds reducer.Any place most a i ns h f few = refl
reducer_holds reducer.All place most a i ns h f few = refl

pub expression_stays : (marks : ℕ → List ℕ) (sources : List Interval) (xs : List Stream) → Known marks sources xs → (place : Place) (e : CoreTree) (i : Interval)
    → magnitude marks sources place e ≡ Ok i → (tick : ℤ) → StaysWithin everywhere xs tick e
expression_stays marks sources xs s place (Leaf (Const n)) i h tick = tt
expression_stays marks sources xs s place (Leaf (Read source offset)) i h tick = refl
expression_stays marks sources xs s place (Leaf (Reduce r source from to)) i h tick =
    let a = interval_at sources source in
    let most = snapshots_met (int_gap from to) (marks (int_gap from to)) source in
    let x = source_of xs source in (
      λ other low high. refl,
      reducer_holds r place most a i (numbers (met x (tick +ℤ from) (tick +ℤ to))) h (numbers_met a x (s.bounds source) (tick +ℤ from) (tick +ℤ to))
          (few_numbers marks xs s.counted source from to tick),
    )
expression_stays marks sources xs s place (One op a) i h tick =
    after (magnitude marks sources (later place 1) a) (λ x. narrowed place (interval1 op x)) i h (λ x is done. (
      expression_stays marks sources xs s (later place 1) a x is tick,
      one_holds op place x i ((body_of xs a).cell tick) done (expression_within marks sources xs s (later place 1) a x is tick),
    ))
expression_stays marks sources xs s place (Two op a b) i h tick =
    let p = later place 1 in
    let q = later place (1 + nodes a) in
    after (magnitude marks sources p a) _ i h (λ x is_x more.
    after (magnitude marks sources q b) (λ y. narrowed place (interval2 op x y)) i more (λ y is_y done. (
      expression_stays marks sources xs s p a x is_x tick,
      expression_stays marks sources xs s q b y is_y tick,
      two_hold op place x y i ((body_of xs a).cell tick) ((body_of xs b).cell tick) done
          (expression_within marks sources xs s p a x is_x tick) (expression_within marks sources xs s q b y is_y tick),
    )))
expression_stays marks sources xs s place (If c a b) i h tick =
    let p = later place (1 + nodes c) in
    let q = later place (1 + nodes c + nodes a) in
    after (magnitude marks sources (later place 1) c) _ i h (λ z is_z next.
    after (magnitude marks sources p a) _ i next (λ x is_x more.
    after (magnitude marks sources q b) (λ y. narrowed place (hull x y)) i more (λ y is_y done. (
      expression_stays marks sources xs s (later place 1) c z is_z tick,
      expression_stays marks sources xs s p a x is_x tick,
      expression_stays marks sources xs s q b y is_y tick,
    ))))

definitions_stay : (marks : ℕ → List ℕ) (number : ℕ) (sources all : List Interval) (xs : List Stream) (defs : List Definition)
    → length sources ≡ length xs → BoundSources sources xs → HaveAllMarks marks (with_definitions xs defs)
    → more_magnitudes marks number sources defs ≡ Ok all → QueryStaysWithin everywhere xs defs
definitions_stay marks number sources all xs [] e s m h = tt
definitions_stay marks number sources all xs (def ∷ defs) e s m h =
    let known : Known marks sources xs = record { bounds = s; counted = λ n. earlier_marks n (marks n) xs (def ∷ defs) (m n) } in
    after (next_magnitudes marks number sources def) (λ next. more_magnitudes marks (suc number) next defs) all h (λ next is_next rest.
    after (magnitude marks sources (start_of number) def.body) (λ i. Ok (sources ++ i ∷ [])) next is_next (λ i is_i done.
    let is : sources ++ i ∷ [] ≡ next = cc done in
    let x = definition_of xs def in (
      (λ tick taken at here. expression_stays marks sources xs known (start_of number) def.body i is_i taken),
      definitions_stay marks (suc number) (sources ++ i ∷ []) all (xs ++ x ∷ []) defs
          (omega (arith, e, length_push sources i, length_push xs x))
          (sources_push sources xs i x e s (definition_within marks sources xs known (start_of number) def i is_i)) m
          (subst (λ given. more_magnitudes marks (suc number) given defs ≡ Ok all) (sym is) rest),
    )))

pub query_stays : (inputs all : List Interval) (rates : List Rate) (rows : List (List Snapshot)) (defs : List Definition)
    → BoundInputs inputs rows → HaveRates rates rows → AreGrids defs
    → more_magnitudes (marks_in rates defs) 0 inputs defs ≡ Ok all → QueryStaysWithin everywhere (map stream_of rows) defs
query_stays inputs all rates rows defs b r g h =
    definitions_stay (marks_in rates defs) 0 inputs all (map stream_of rows) defs (as_many inputs rows b) (inputs_within inputs rows b)
    (λ n. rows_marks n rates rows defs r g) h
