-- The cells that a window meets represent the exact ones, and so does what a reducer gives on them.
use Rattle.std.proofs.Common.{◌≡◌, ℕ, zero, suc, ℤ, pos, ◌+ℤ◌, ◌≤ℤ◌, ◌<ℤ◌, Bool, true, false, ◌||◌, if◌then◌else◌, List, ◌∷◌, map, Option, Some, Ok, refl, sym, ap, subst, arith}
use Rattle.std.specs.Int.{int_gap}
use Rattle.std.specs.List.{AllZip}
use Rattle.std.proofs.lemmas.Int.{ints, by_lt_z}
use Rattle.tilt_base.specs.Expression.{Leaf}
use Rattle.tilt_base.specs.Reduce.{numbers}
use Rattle.tilt_base.specs.declared.reducer.Reducer.{Reducer}
use Rattle.tilt_base.specs.declared.reducer.Reducer.TheVariants as reducer
use Rattle.tilt_core.specs.CoreTree.{Reduce as CoreReduce}
use Rattle.tilt_core.specs.Meaning.{source_of}
use Rattle.tilt_fractions.proofs.Reductions.{numbers_stand, reducer_stands}
use Rattle.tilt_fractions.specs.Exact.{CellStandsFor}
use Rattle.tilt_fractions.specs.ExactReduce.{exact_reduce, fractions, reduced_scale, wide_reduce}
use Rattle.tilt_fractions.specs.Fraction.{Fraction}
use Rattle.tilt_stream.proofs.Cut.{int_gap_is, int_gap_none}
use Rattle.tilt_stream.specs.Stream.{Stream}
use Rattle.tilt_stream.specs.Window.{met, met_behind}
use Rattle.tilt_units.proofs.Kept.{Moment, Within, cell_of}
use Rattle.tilt_units.proofs.OperatorsKept.{numbers_is, truth_is}
use Rattle.tilt_units.specs.Exact.{ExactSource, exact_leaf, scale_in, source_at}
use Rattle.tilt_units.specs.ExactStream.{ticks_of}
use Rattle.tilt_units.specs.DecimalTree.{Reduce}
use Rattle.tilt_units.specs.Law.{SourceStands, SourcesStand}
use Rattle.tilt_units.specs.Scaling.{quantity_of_reducer}
use Rattle.tilt_units.specs.declared.place.Place.{Place}
use Rattle.tilt_units.specs.declared.quantity.Quantity.{Quantity}
use Rattle.tilt_units.specs.declared.quantity.Quantity.TheVariants as quantity

-- one tick more, at which a snapshot may start
one_met : (s : ℕ) (here there : Bool) (c : Option ℤ) (tick : ℤ) (exact : ℤ → Option Fraction) (cells ticks : List (Option ℤ)) → here ≡ there
    → CellStandsFor s c (exact tick) → AllZip (CellStandsFor s) cells (map exact (numbers ticks))
    → AllZip (CellStandsFor s) (if here then c ∷ cells else cells) (map exact (numbers (if there then Some tick ∷ ticks else ticks)))
one_met s true true c tick exact cells ticks e f g = (f, g)
one_met s true false c tick exact cells ticks e f g = absurd (cc e)
one_met s false true c tick exact cells ticks e f g = absurd (cc e)
one_met s false false c tick exact cells ticks e f g = g

met_stand : (chosen : ℤ → Bool) (x : Stream) (source : ExactSource) → SourceStands chosen x source → (begins : Bool) (tick : ℤ) (n : ℕ)
    → ((other : ℤ) → tick <ℤ other → other ≤ℤ (tick +ℤ pos n) → chosen other ≡ true)
    → AllZip (CellStandsFor (scale_in source.quantity)) (met_behind x begins tick n)
    (map source.stream.cell (numbers (met_behind (ticks_of source.stream) begins tick n)))
met_stand chosen x source h begins tick zero all = tt
met_stand chosen x source h begins tick (suc n) all =
    let same = h.marks (tick +ℤ pos 1) in
    one_met (scale_in source.quantity) (begins || x.mark (tick +ℤ pos 1)) (begins || source.stream.mark (tick +ℤ pos 1)) (x.cell (tick +ℤ pos 1))
    (tick +ℤ pos 1) source.stream.cell (met_behind x false (tick +ℤ pos 1) n) (met_behind (ticks_of source.stream) false (tick +ℤ pos 1) n)
    (ap (λ b. begins || b) same)
    (h.cells (tick +ℤ pos 1) (all (tick +ℤ pos 1) (omega (arith, ints)) (omega (arith, ints))))
    (met_stand chosen x source h false (tick +ℤ pos 1) n (λ other low high. all other (omega (arith, ints)) (omega (arith, ints))))

within_gap : (lo hi other : ℤ) → lo <ℤ other → other ≤ℤ (lo +ℤ pos (int_gap lo hi)) → other ≤ℤ hi
within_gap lo hi other low high =
    by_lt_z lo hi
    (λ some. let gap = int_gap_is lo hi (omega (arith, ints)) in omega (arith, ints))
    (λ none. let gap = int_gap_none lo hi none in omega (arith, ints))

pub window_stands : (chosen : ℤ → Bool) (x : Stream) (source : ExactSource) → SourceStands chosen x source → (lo hi : ℤ)
    → ((other : ℤ) → lo <ℤ other → other ≤ℤ hi → chosen other ≡ true)
    → AllZip (CellStandsFor (scale_in source.quantity)) (met x lo hi) (map source.stream.cell (numbers (met (ticks_of source.stream) lo hi)))
window_stands chosen x source h lo hi all =
    met_stand chosen x source h true lo (int_gap lo hi) (λ other low high. all other low (within_gap lo hi other low high))

-- the scale of what a reducer gives is that of its quantity
pub reduced_scale_is : (place : Place) (r : Reducer) (p q : Quantity) → quantity_of_reducer place r p ≡ Ok q → reduced_scale r (scale_in p) ≡ scale_in q
reduced_scale_is place reducer.Sum p q h = ap scale_in (numbers_is place p q h)
reduced_scale_is place reducer.Avg p q h = ap scale_in (numbers_is place p q h)
reduced_scale_is place reducer.Min p q h = ap scale_in (numbers_is place p q h)
reduced_scale_is place reducer.Max p q h = ap scale_in (numbers_is place p q h)
reduced_scale_is place reducer.Count p q h = let e : quantity.Number 1 ≡ q = cc h in ap scale_in e
reduced_scale_is place reducer.First p q h = let e : p ≡ q = cc h in ap scale_in e
reduced_scale_is place reducer.Last p q h = let e : p ≡ q = cc h in ap scale_in e
reduced_scale_is place reducer.Any p q h = sym (ap scale_in (truth_is place p q h).1)
reduced_scale_is place reducer.All p q h = sym (ap scale_in (truth_is place p q h).1)

-- what a reducer gives on a window represents what it gives exactly
pub reducer_kept : (now : Moment) (sources : List ExactSource) (place : Place) (r : Reducer) (source : ℕ) (from to : ℤ) (q : Quantity)
    → pos 1 ≤ℤ pos (scale_in (source_at sources source).quantity) → SourcesStand now.chosen now.sources sources
    → quantity_of_reducer place r (source_at sources source).quantity ≡ Ok q → Within now (Leaf (CoreReduce r source from to))
    → CellStandsFor (scale_in q) (cell_of now (Leaf (CoreReduce r source from to))) ((exact_leaf sources (Reduce r source from to)).cell now.tick)
reducer_kept now sources place r source from to q h s gives stays =
    let lo = now.tick +ℤ from in
    let hi = now.tick +ℤ to in
    let one = source_at sources source in
    let cells = met (source_of now.sources source) lo hi in
    let exact = map one.stream.cell (numbers (met (ticks_of one.stream) lo hi)) in
    let wide = reducer_stands r (scale_in one.quantity) h (numbers cells) (fractions exact)
    (numbers_stand (scale_in one.quantity) cells exact (window_stands (now.chosen source) (source_of now.sources source) one (s source) lo hi stays.0)) in
    subst (λ scale. CellStandsFor scale (cell_of now (Leaf (CoreReduce r source from to))) (exact_reduce (scale_in one.quantity) r (fractions exact)))
    (reduced_scale_is place r one.quantity q gives)
    (subst (λ c. CellStandsFor (reduced_scale r (scale_in one.quantity)) c (exact_reduce (scale_in one.quantity) r (fractions exact))) (sym stays.1) wide)
