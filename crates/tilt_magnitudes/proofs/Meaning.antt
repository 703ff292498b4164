-- What a query means on rows within the intervals of its inputs is within the intervals of its sources.
use Rattle.std.proofs.Common.{◌≡◌, ℕ, zero, suc, ◌+◌, ℤ, ◌+ℤ◌, Bool, true, false, if◌then◌else◌, List, [], ◌∷◌, ◌++◌, length, map, Option, Some, None, Ok, refl, sym, ap, subst, arith}
use Rattle.std.specs.Int.{int_gap}
use Rattle.std.proofs.lemmas.Int.{ints}
use Rattle.std.proofs.lemmas.List.{length_push}
use Rattle.tilt_base.specs.Expression.{Leaf, One, Two, If}
use Rattle.tilt_base.specs.Grid.{GridPoints, ceil}
use Rattle.tilt_base.specs.Scalar.{apply1, apply2, choose}
use Rattle.tilt_base.specs.declared.span.Span.{Span}
use Rattle.tilt_core.specs.CoreTree.{CoreTree, Const, Read, Reduce, Definition, nodes}
use Rattle.tilt_core.specs.Meaning.{AreGrids, body_of, definition_of, source_of, with_definitions, within}
use Rattle.tilt_magnitudes.proofs.Narrowed.{after, kept}
use Rattle.tilt_magnitudes.proofs.Scalars.{choice_within, one_within, two_within}
use Rattle.tilt_magnitudes.proofs.Marked.{earlier_marks, few_numbers, rows_marks}
use Rattle.tilt_magnitudes.proofs.Sums.{reduced_within}
use Rattle.tilt_magnitudes.proofs.Windows.{numbers_met}
use Rattle.tilt_magnitudes.specs.Marks.{HaveRates, marks_in, snapshots_met}
use Rattle.tilt_magnitudes.specs.declared.met.Rate.{Rate}
use Rattle.tilt_base.specs.Reduce.{numbers}
use Rattle.tilt_stream.specs.Window.{met}
use Rattle.tilt_magnitudes.specs.Interval.{Interval, Bounds, BoundsCell, hull, interval1, interval2, interval_reduced, only}
use Rattle.tilt_magnitudes.specs.Law.{HaveAllMarks, BoundInputs, BoundSources, BoundsRows, BoundsStream}
use Rattle.tilt_magnitudes.specs.Magnitude.{interval_at, magnitude, more_magnitudes, narrowed, next_magnitudes}
use Rattle.tilt_stream.specs.Domain.{lies_in, on_grid}
use Rattle.tilt_stream.specs.Snap.{Snapshot}
use Rattle.tilt_stream.specs.Stream.{Stream, cell_at, covers, stream_of}
use Rattle.tilt_units.specs.Scaling.{later}
use Rattle.tilt_units.specs.Translation.{start_of}
use Rattle.tilt_units.specs.declared.place.Place.{Place}

-- what is known of sources
pub record Known (marks : ℕ → List ℕ) (sources : List Interval) (xs : List Stream) : Type 0 where
  pub bounds : BoundSources sources xs
  pub counted : HaveAllMarks marks xs

only_within : (n : ℤ) → Bounds (only n) n
only_within n = record { low = omega (arith, ints); high = omega (arith, ints) }

pub expression_within : (marks : ℕ → List ℕ) (sources : List Interval) (xs : List Stream) → Known marks sources xs → (place : Place) (e : CoreTree) (i : Interval)
    → magnitude marks sources place e ≡ Ok i → (tick : ℤ) → BoundsCell i ((body_of xs e).cell tick)
expression_within marks sources xs s place (Leaf (Const n)) i h tick =
    let is : only n ≡ i = cc h in
    subst (λ j. Bounds j n) is (only_within n)
expression_within marks sources xs s place (Leaf (Read source offset)) i h tick =
    let is : interval_at sources source ≡ i = cc h in
    subst (λ j. BoundsCell j ((source_of xs source).cell (tick +ℤ offset))) is (s.bounds source (tick +ℤ offset))
expression_within marks sources xs s place (Leaf (Reduce r source from to)) i h tick =
    let most = snapshots_met (int_gap from to) (marks (int_gap from to)) source in
    let x = source_of xs source in
    kept place (interval_reduced r most (interval_at sources source)) i ((body_of xs (Leaf (Reduce r source from to))).cell tick) h
    (reduced_within r most (interval_at sources source) (numbers (met x (tick +ℤ from) (tick +ℤ to)))
    (numbers_met (interval_at sources source) x (s.bounds source) (tick +ℤ from) (tick +ℤ to)) (few_numbers marks xs s.counted source from to tick))
expression_within marks sources xs s place (One op a) i h tick =
    after (magnitude marks sources (later place 1) a) (λ x. narrowed place (interval1 op x)) i h (λ x is done.
    kept place (interval1 op x) i (apply1 op ((body_of xs a).cell tick)) done
    (one_within op x ((body_of xs a).cell tick) (expression_within marks sources xs s (later place 1) a x is tick)))
expression_within marks sources xs s place (Two op a b) i h tick =
    let left = (body_of xs a).cell tick in
    let right = (body_of xs b).cell tick in
    after (magnitude marks sources (later place 1) a) _ i h (λ x is_x more.
    after (magnitude marks sources (later place (1 + nodes a)) b) (λ y. narrowed place (interval2 op x y)) i more (λ y is_y done.
    kept place (interval2 op x y) i (apply2 op left right) done
    (two_within op x y left right (expression_within marks sources xs s (later place 1) a x is_x tick)
    (expression_within marks sources xs s (later place (1 + nodes a)) b y is_y tick))))
expression_within marks sources xs s place (If c a b) i h tick =
    let test = (body_of xs c).cell tick in
    let left = (body_of xs a).cell tick in
    let right = (body_of xs b).cell tick in
    after (magnitude marks sources (later place 1) c) _ i h (λ z is_z next.
    after (magnitude marks sources (later place (1 + nodes c)) a) _ i next (λ x is_x more.
    after (magnitude marks sources (later place (1 + nodes c + nodes a)) b) (λ y. narrowed place (hull x y)) i more (λ y is_y done.
    kept place (hull x y) i (choose test left right) done
    (choice_within x y test left right (expression_within marks sources xs s (later place (1 + nodes c)) a x is_x tick)
    (expression_within marks sources xs s (later place (1 + nodes c + nodes a)) b y is_y tick)))))

restricted_by : (i : Interval) (lies : Bool) (cell : Option ℤ) → BoundsCell i cell → BoundsCell i (if lies then cell else None)
restricted_by i true cell h = h
restricted_by i false cell h = tt

taken_within : (i : Interval) (over : Option Span) (grid : GridPoints) (x : Stream) → BoundsStream i x → BoundsStream i (within over (on_grid grid x))
taken_within i None grid x h tick = h (ceil grid tick)
taken_within i (Some span) grid x h tick = restricted_by i (lies_in span.start span.end tick) (x.cell (ceil grid tick)) (h (ceil grid tick))

-- one source more
pub sources_push : (sources : List Interval) (xs : List Stream) (i : Interval) (x : Stream) → length sources ≡ length xs → BoundSources sources xs
    → BoundsStream i x → BoundSources (sources ++ i ∷ []) (xs ++ x ∷ [])
sources_push [] [] i x e h new zero tick = new tick
sources_push [] [] i x e h new (suc number) tick = tt
sources_push [] (y ∷ xs) i x e h new number tick = absurd (omega (arith, e))
sources_push (j ∷ sources) [] i x e h new number tick = absurd (omega (arith, e))
sources_push (j ∷ sources) (y ∷ xs) i x e h new zero tick = h 0 tick
sources_push (j ∷ sources) (y ∷ xs) i x e h new (suc number) tick =
    sources_push sources xs i x (omega (arith, e)) (λ k. h (suc k)) new number tick

pub definition_within : (marks : ℕ → List ℕ) (sources : List Interval) (xs : List Stream) → Known marks sources xs → (place : Place) (def : Definition) (i : Interval)
    → magnitude marks sources place def.body ≡ Ok i → BoundsStream i (definition_of xs def)
definition_within marks sources xs s place def i h =
    taken_within i def.over def.grid (body_of xs def.body) (λ tick. expression_within marks sources xs s place def.body i h tick)

pub definitions_within : (marks : ℕ → List ℕ) (number : ℕ) (sources all : List Interval) (xs : List Stream) (defs : List Definition)
    → length sources ≡ length xs → BoundSources sources xs → HaveAllMarks marks (with_definitions xs defs)
    → more_magnitudes marks number sources defs ≡ Ok all → BoundSources all (with_definitions xs defs)
definitions_within marks number sources all xs [] e s m h =
    let is : sources ≡ all = cc h in
    subst (λ given. BoundSources given xs) is s
definitions_within marks number sources all xs (def ∷ defs) e s m h =
    let known : Known marks sources xs = record { bounds = s; counted = λ n. earlier_marks n (marks n) xs (def ∷ defs) (m n) } in
    after (next_magnitudes marks number sources def) (λ next. more_magnitudes marks (suc number) next defs) all h (λ next is_next rest.
    after (magnitude marks sources (start_of number) def.body) (λ i. Ok (sources ++ i ∷ [])) next is_next (λ i is_i done.
    let is : sources ++ i ∷ [] ≡ next = cc done in
    let x = definition_of xs def in
    definitions_within marks (suc number) (sources ++ i ∷ []) all (xs ++ x ∷ []) defs
    (omega (arith, e, length_push sources i, length_push xs x))
    (sources_push sources xs i x e s (definition_within marks sources xs known (start_of number) def i is_i)) m
    (subst (λ given. more_magnitudes marks (suc number) given defs ≡ Ok all) (sym is) rest)))

covered_by : (i : Interval) (here : Bool) (c d : Option ℤ) → BoundsCell i c → BoundsCell i d → BoundsCell i (if here then c else d)
covered_by i true c d f g = f
covered_by i false c d f g = g

rows_within : (i : Interval) (rows : List Snapshot) → BoundsRows i rows → BoundsStream i (stream_of rows)
rows_within i [] h tick = tt
rows_within i (row ∷ rows) h tick = covered_by i (covers row tick) row.value (cell_at rows tick) h.0 (rows_within i rows h.1 tick)

pub inputs_within : (inputs : List Interval) (rows : List (List Snapshot)) → BoundInputs inputs rows → BoundSources inputs (map stream_of rows)
inputs_within [] [] h number tick = tt
inputs_within [] (list ∷ rows) h number tick = absurd h
inputs_within (i ∷ inputs) [] h number tick = absurd h
inputs_within (i ∷ inputs) (list ∷ rows) h zero tick = rows_within i list h.0 tick
inputs_within (i ∷ inputs) (list ∷ rows) h (suc number) tick = inputs_within inputs rows h.1 number tick

pub as_many : (inputs : List Interval) (rows : List (List Snapshot)) → BoundInputs inputs rows → length inputs ≡ length (map stream_of rows)
as_many [] [] h = refl
as_many [] (list ∷ rows) h = absurd h
as_many (i ∷ inputs) [] h = absurd h
as_many (i ∷ inputs) (list ∷ rows) h = ap suc (as_many inputs rows h.1)

pub query_within : (inputs all : List Interval) (rates : List Rate) (rows : List (List Snapshot)) (defs : List Definition)
    → BoundInputs inputs rows → HaveRates rates rows → AreGrids defs
    → more_magnitudes (marks_in rates defs) 0 inputs defs ≡ Ok all → BoundSources all (with_definitions (map stream_of rows) defs)
query_within inputs all rates rows defs b r g h =
    definitions_within (marks_in rates defs) 0 inputs all (map stream_of rows) defs (as_many inputs rows b) (inputs_within inputs rows b)
    (λ n. rows_marks n rates rows defs r g) h
