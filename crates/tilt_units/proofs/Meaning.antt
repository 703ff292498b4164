-- The translation of an expression keeps its meaning.
use Rattle.std.proofs.Common.{◌≡◌, ℕ, zero, suc, ◌+◌, ℤ, pos, ◌+ℤ◌, ◌≤ℤ◌, if◌then◌else◌, List, [], ◌∷◌, Option, Some, Ok, refl, sym, ap, ◌∙◌, subst, arith}
use Rattle.std.specs.List.{slice_get}
use Rattle.std.proofs.lemmas.Int.{ints}
use Rattle.tilt_base.specs.Expression.{Leaf, One, Two, If}
use Rattle.tilt_base.specs.declared.reducer.Reducer.{Reducer}
use Rattle.tilt_base.specs.declared.reducer.Reducer.TheVariants as reducer
use Rattle.tilt_core.specs.CoreTree.{Const, Read as CoreRead, Reduce as CoreReduce, nodes}
use Rattle.tilt_core.specs.Meaning.{source_of}
use Rattle.tilt_fractions.proofs.Cells.{truth_stands}
use Rattle.tilt_fractions.specs.Exact.{CellStandsFor, exact2, exact_truth}
use Rattle.tilt_fractions.specs.Fraction.{Fraction, StandsFor, parts}
use Rattle.tilt_units.proofs.ExpressionKept.{if_kept, one_kept, told, two_kept}
use Rattle.tilt_units.proofs.Kept.{MayBeLiteral, Moment, after, found}
use Rattle.tilt_units.proofs.OperatorsKept.{KeptTree, numbers_is, truth_is}
use Rattle.tilt_units.proofs.Windows.{reducer_kept}
use Rattle.tilt_units.specs.DecimalTree.{UnitTree, Literal, Truth, Read, Reduce, literal_of}
use Rattle.tilt_units.specs.Exact.{ExactSource, exact_body, exact_leaf, quantities_of, scale_after, scale_in, source_at}
use Rattle.tilt_units.specs.Law.{LiteralsHaveScales, SourcesHaveScales, SourcesStand}
use Rattle.tilt_units.specs.Scaling.{ScaledTree, later, quantity_at, quantity_of_reducer, scaled, scaled_if, scaled_one, scaled_two}
use Rattle.tilt_units.specs.declared.decimal.Decimal.{Decimal}
use Rattle.tilt_units.specs.declared.fault.ScaleFault.TheVariants as fault
use Rattle.tilt_units.specs.declared.place.Place.{Place}
use Rattle.tilt_units.specs.declared.quantity.Quantity.{Quantity}
use Rattle.tilt_units.specs.declared.quantity.Quantity.TheVariants as quantity

number_positive : (place : Place) (p q : Quantity) → pos 1 ≤ℤ pos (scale_in p) → (p ≡ q) → pos 1 ≤ℤ pos (scale_in q)
number_positive place p q h e = subst (λ x. pos 1 ≤ℤ pos (scale_in x)) e h

truth_positive : (q : Quantity) → q ≡ quantity.Truth → pos 1 ≤ℤ pos (scale_in q)
truth_positive q e = subst (λ x. pos 1 ≤ℤ pos (scale_in x)) (sym e) (omega (arith, ints))

count_positive : (q : Quantity) → quantity.Number 1 ≡ q → pos 1 ≤ℤ pos (scale_in q)
count_positive q e = subst (λ x. pos 1 ≤ℤ pos (scale_in x)) e (omega (arith, ints))

reducer_positive : (place : Place) (r : Reducer) (p q : Quantity) → pos 1 ≤ℤ pos (scale_in p) → quantity_of_reducer place r p ≡ Ok q → pos 1 ≤ℤ pos (scale_in q)
reducer_positive place reducer.Sum p q h e = number_positive place p q h (numbers_is place p q e)
reducer_positive place reducer.Avg p q h e = number_positive place p q h (numbers_is place p q e)
reducer_positive place reducer.Min p q h e = number_positive place p q h (numbers_is place p q e)
reducer_positive place reducer.Max p q h e = number_positive place p q h (numbers_is place p q e)
reducer_positive place reducer.Count p q h e = count_positive q (cc e)
reducer_positive place reducer.First p q h e = number_positive place p q h (cc e)
reducer_positive place reducer.Last p q h e = number_positive place p q h (cc e)
reducer_positive place reducer.Any p q h e = truth_positive q (truth_is place p q e).1
reducer_positive place reducer.All p q h e = truth_positive q (truth_is place p q e).1

-- the quantity of a source that was found
listed_is : (sources : List ExactSource) (number : ℕ) (q : Quantity) → slice_get (quantities_of sources) number ≡ Some q
    → (source_at sources number).quantity ≡ q
listed_is [] number q h = absurd (cc h)
listed_is (source ∷ sources) zero q h = cc h
listed_is (source ∷ sources) (suc number) q h = listed_is sources number q h

pub quantity_is : (sources : List ExactSource) (place : Place) (number : ℕ) (q : Quantity) → quantity_at place (quantities_of sources) number ≡ Ok q
    → (source_at sources number).quantity ≡ q
quantity_is sources place number q h =
    listed_is sources number q (found (fault.UnknownSource place) (slice_get (quantities_of sources) number) q h)

literal_is : (d decimal : Decimal) → pos 1 ≤ℤ pos d.scale → ◌≡◌ {A = Option Decimal} (Some d) (Some decimal)
    → (◌≡◌ {A = Option Fraction} (Some (parts d.number d.scale)) (Some (parts decimal.number decimal.scale))) × (pos 1 ≤ℤ pos decimal.scale)
literal_is d decimal h same =
    let i : d ≡ decimal = cc same in
    subst (λ x. (◌≡◌ {A = Option Fraction} (Some (parts d.number d.scale)) (Some (parts x.number x.scale))) × (pos 1 ≤ℤ pos x.scale)) i (refl, h)

may_be : (sources : List ExactSource) (tick : ℤ) (place : Place) (e : UnitTree) → LiteralsHaveScales e
    → MayBeLiteral (literal_of e) ((exact_body sources place e).cell tick)
may_be sources tick place (Leaf (Literal d)) h = record { given = λ decimal same. literal_is d decimal h same }
may_be sources tick place (Leaf (Truth holds)) h = record { given = λ decimal same. absurd (cc same) }
may_be sources tick place (Leaf (Read source offset)) h = record { given = λ decimal same. absurd (cc same) }
may_be sources tick place (Leaf (Reduce r source from to)) h = record { given = λ decimal same. absurd (cc same) }
may_be sources tick place (One op a) h = record { given = λ decimal same. absurd (cc same) }
may_be sources tick place (Two op a b) h = record { given = λ decimal same. absurd (cc same) }
may_be sources tick place (If c a b) h = record { given = λ decimal same. absurd (cc same) }

literal_whole : (n : ℤ) (s : ℕ) → pos 1 ≤ℤ pos s → StandsFor s n (parts n s)
literal_whole n s h = record { under = h; same = refl }

pub expression_kept : (now : Moment) (sources : List ExactSource) (place : Place) (e : UnitTree) (x : ScaledTree)
    → SourcesHaveScales sources → SourcesStand now.chosen now.sources sources → LiteralsHaveScales e → scaled (quantities_of sources) place e ≡ Ok x
    → KeptTree now x ((exact_body sources place e).cell now.tick)
expression_kept now sources place (Leaf (Literal d)) x s l i h =
    told now (λ v. Some (parts d.number d.scale)) (Leaf (Const d.number)) (quantity.Number d.scale) x h
    (record { positive = i; stands = λ _. literal_whole d.number d.scale i })
expression_kept now sources place (Leaf (Truth holds)) x s l i h =
    told now (λ v. exact_truth holds) (Leaf (Const (if holds then pos 1 else pos 0))) quantity.Truth x h
    (record { positive = omega (arith, ints); stands = λ _. truth_stands holds holds refl })
expression_kept now sources place (Leaf (Read source offset)) x s l i h =
    after (quantity_at place (quantities_of sources) source) (λ q. Ok (record { tree = Leaf (CoreRead source offset); quantity = q })) x h (λ q is done.
    let same = quantity_is sources place source q is in
    let exact = (source_at sources source).stream.cell (now.tick +ℤ offset) in
    told now (λ v. exact) (Leaf (CoreRead source offset)) q x done
    (record {
      positive = subst (λ p. pos 1 ≤ℤ pos (scale_in p)) same (s source);
      stands = λ stays. subst (λ p. CellStandsFor (scale_in p) ((source_of now.sources source).cell (now.tick +ℤ offset)) exact) same
          ((l source).cells (now.tick +ℤ offset) stays);
    }))
expression_kept now sources place (Leaf (Reduce r source from to)) x s l i h =
    after (quantity_at place (quantities_of sources) source) _ x h (λ p is more.
    after (quantity_of_reducer place r p) (λ q. Ok (record { tree = Leaf (CoreReduce r source from to); quantity = q })) x more (λ q gives done.
    let same = subst (λ z. quantity_of_reducer place r z ≡ Ok q) (sym (quantity_is sources place source p is)) gives in
    told now (λ v. (exact_leaf sources (Reduce r source from to)).cell now.tick) (Leaf (CoreReduce r source from to)) q x done
    (record {
      positive = reducer_positive place r (source_at sources source).quantity q (s source) same;
      stands = λ stays. reducer_kept now sources place r source from to q (s source) l same stays;
    })))
expression_kept now sources place (One op a) x s l i h =
    after (scaled (quantities_of sources) (later place 1) a) (λ y. scaled_one place op y) x h (λ y is done.
    one_kept now place op y x ((exact_body sources (later place 1) a).cell now.tick) (expression_kept now sources (later place 1) a y s l i is) done)
expression_kept now sources place (Two op a b) x s l i h =
    let left = (exact_body sources (later place 1) a).cell now.tick in
    let right = (exact_body sources (later place (1 + nodes a)) b).cell now.tick in
    subst (λ u. KeptTree now x (exact2 u op left right)) (sym (ap scale_after h))
    (after (scaled (quantities_of sources) (later place 1) a) _ x h (λ y is_y more.
    after (scaled (quantities_of sources) (later place (1 + nodes a)) b) (λ z. scaled_two place op (literal_of a) (literal_of b) y z) x more (λ z is_z done.
    two_kept now place op (literal_of a) (literal_of b) y z x left right
    (may_be sources now.tick (later place 1) a i.0) (may_be sources now.tick (later place (1 + nodes a)) b i.1)
    (expression_kept now sources (later place 1) a y s l i.0 is_y)
    (expression_kept now sources (later place (1 + nodes a)) b z s l i.1 is_z) done)))
expression_kept now sources place (If c a b) x s l i h =
    after (scaled (quantities_of sources) (later place 1) c) _ x h (λ w is_w next.
    after (scaled (quantities_of sources) (later place (1 + nodes c)) a) _ x next (λ y is_y more.
    after (scaled (quantities_of sources) (later place (1 + nodes c + nodes a)) b) (λ z. scaled_if place (literal_of a) (literal_of b) w y z) x more (λ z is_z done.
    if_kept now place (literal_of a) (literal_of b) w y z x ((exact_body sources (later place 1) c).cell now.tick)
    ((exact_body sources (later place (1 + nodes c)) a).cell now.tick) ((exact_body sources (later place (1 + nodes c + nodes a)) b).cell now.tick)
    (may_be sources now.tick (later place (1 + nodes c)) a i.1) (may_be sources now.tick (later place (1 + nodes c + nodes a)) b i.2)
    (expression_kept now sources (later place 1) c w s l i.0 is_w)
    (expression_kept now sources (later place (1 + nodes c)) a y s l i.1 is_y)
    (expression_kept now sources (later place (1 + nodes c + nodes a)) b z s l i.2 is_z) done)))
