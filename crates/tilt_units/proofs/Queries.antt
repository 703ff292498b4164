-- The translation of a whole query keeps its meaning.
use Rattle.std.proofs.Common.{◌≡◌, ℕ, zero, suc, ◌+◌, ℤ, pos, ◌≤ℤ◌, Bool, true, false, if◌then◌else◌, List, [], ◌∷◌, ◌++◌, length, map, Option, Some, None, Result, Ok, Err, option_map, nat_lt, refl, sym, ap, ◌∙◌, subst, arith}
use Rattle.std.specs.Prelude.{option_and_then}
use Rattle.std.proofs.lemmas.Int.{ints}
use Rattle.std.proofs.lemmas.List.{append-nil, append_assoc, length_push}
use Rattle.tilt_base.specs.Grid.{GridPoints, ceil}
use Rattle.tilt_base.specs.declared.span.Span.{Span}
use Rattle.tilt_core.specs.CoreTree.{Definition, nodes}
use Rattle.tilt_core.specs.Meaning.{body_of, definition_of, source_of, with_definitions, within}
use Rattle.tilt_fractions.specs.Exact.{CellStandsFor}
use Rattle.tilt_fractions.specs.Fraction.{parts}
use Rattle.tilt_stream.specs.Domain.{lies_in, on_grid}
use Rattle.tilt_stream.specs.Stream.{Stream, cell_at, stream_of}
use Rattle.tilt_units.proofs.Kept.{Moment, after}
use Rattle.tilt_units.proofs.Marked.{expression_marked, taken_marked}
use Rattle.tilt_units.proofs.Meaning.{expression_kept}
use Rattle.tilt_units.specs.Exact.{ExactSource, ScaledRows, exact_body, exact_definition, exact_definitions, exact_input, exact_sources, quantities_of, quantity_after, rows_of, scale_in, scales_of, source_at}
use Rattle.tilt_units.specs.ExactStream.{ExactStream, read_at, ticks_of}
use Rattle.tilt_units.specs.Law.{Chosen, DefinitionStaysWithin, DefinitionsHaveScales, InputsHaveScales, LiteralsHaveScales, QueryStaysWithin, SourceStands, SourcesHaveScales, SourcesStand, clock}
use Rattle.tilt_units.specs.Scaling.{ScaledTree, and_then, scaled}
use Rattle.tilt_units.specs.Translation.{ScaledQuery, UnitDefinition, input_quantities, more_definitions, scaled_definition, start_of, translated}
use Rattle.tilt_units.specs.declared.fault.ScaleFault.{ScaleFault}
use Rattle.tilt_units.specs.declared.fault.ScaleFault.TheVariants as fault
use Rattle.tilt_units.specs.declared.place.Place.{Place}
use Rattle.tilt_units.specs.declared.quantity.Quantity.{Quantity}
use Rattle.tilt_units.specs.declared.quantity.Quantity.TheVariants as quantity

-- where a body is taken, the cells represent the exact ones, and elsewhere both are null
restricted_by : (s : ℕ) (lies : Bool) (point : ℤ) (x : Stream) (e : ExactStream)
    → ((taken : ℤ) → ◌≡◌ {A = Option ℤ} (if lies then Some point else None) (Some taken) → CellStandsFor s (x.cell taken) (e.cell taken))
    → CellStandsFor s (if lies then x.cell point else None) (option_and_then e.cell (if lies then Some point else None))
restricted_by s true point x e h = h point refl
restricted_by s false point x e h = tt

taken_stands : (s : ℕ) (over : Option Span) (grid : GridPoints) (x : Stream) (e : ExactStream) (tick : ℤ)
    → ((taken : ℤ) → (within over (on_grid grid clock)).cell tick ≡ Some taken → CellStandsFor s (x.cell taken) (e.cell taken))
    → CellStandsFor s ((within over (on_grid grid x)).cell tick) ((read_at (within over (on_grid grid (ticks_of e))) e).cell tick)
taken_stands s None grid x e tick h = h (ceil grid tick) refl
taken_stands s (Some span) grid x e tick h = restricted_by s (lies_in span.start span.end tick) (ceil grid tick) x e h

-- a definition over the whole numbers that an expression was translated to
abbrev whole_definition : UnitDefinition → ScaledTree → Definition
whole_definition def x = record { body = x.tree; over = def.over; grid = def.grid }

definition_stands : (chosen : Chosen) (xs : List Stream) (sources : List ExactSource) (place : Place) (def : UnitDefinition) (x : ScaledTree)
    → SourcesHaveScales sources → SourcesStand chosen xs sources → LiteralsHaveScales def.body → scaled (quantities_of sources) place def.body ≡ Ok x
    → DefinitionStaysWithin chosen xs (whole_definition def x)
    → SourceStands (chosen (length xs)) (definition_of xs (whole_definition def x)) (exact_definition sources place def)
definition_stands chosen xs sources place def x s l i h stays =
    let body = exact_body sources place def.body in
    record {
      cells = λ tick at.
          subst (λ q. CellStandsFor (scale_in q) ((definition_of xs (whole_definition def x)).cell tick) ((exact_definition sources place def).stream.cell tick))
          (sym (ap quantity_after h))
          (taken_stands (scale_in x.quantity) def.over def.grid (body_of xs x.tree) body tick (λ taken is.
          (expression_kept (record { chosen = chosen; sources = xs; tick = taken }) sources place def.body x s l i h).stands (stays tick taken at is)));
      marks = λ tick.
          taken_marked (body_of xs x.tree) (ticks_of body) (λ other. expression_marked xs other chosen sources l place def.body x h) def.over def.grid tick;
    }

-- one source more
sources_push : (chosen : Chosen) (xs : List Stream) (sources : List ExactSource) (x : Stream) (source : ExactSource) → length xs ≡ length sources
    → SourcesStand chosen xs sources → SourceStands (chosen (length xs)) x source → SourcesStand chosen (xs ++ x ∷ []) (sources ++ source ∷ [])
sources_push chosen [] [] x source e h new zero = new
sources_push chosen [] [] x source e h new (suc number) = record { cells = λ tick at. tt; marks = λ tick. refl }
sources_push chosen [] (t ∷ sources) x source e h new number = absurd (omega (arith, e))
sources_push chosen (y ∷ xs) [] x source e h new number = absurd (omega (arith, e))
sources_push chosen (y ∷ xs) (t ∷ sources) x source e h new zero = h 0
sources_push chosen (y ∷ xs) (t ∷ sources) x source e h new (suc number) =
    sources_push (λ k. chosen (suc k)) xs sources x source (omega (arith, e)) (λ k. h (suc k)) new number

scales_push : (sources : List ExactSource) (source : ExactSource) → SourcesHaveScales sources → pos 1 ≤ℤ pos (scale_in source.quantity)
    → SourcesHaveScales (sources ++ source ∷ [])
scales_push [] source h new zero = new
scales_push [] source h new (suc number) = h 0
scales_push (t ∷ sources) source h new zero = h 0
scales_push (t ∷ sources) source h new (suc number) = scales_push sources source (λ k. h (suc k)) new number

quantities_push : (sources : List ExactSource) (source : ExactSource) → quantities_of (sources ++ source ∷ []) ≡ quantities_of sources ++ source.quantity ∷ []
quantities_push [] source = refl
quantities_push (t ∷ sources) source = ap (λ qs. t.quantity ∷ qs) (quantities_push sources source)

unless_by : {A : Type 0} (many : Bool) (f : ScaleFault) (r : Result A ScaleFault) (a : A) → (if many then Err f else r) ≡ Ok a → r ≡ Ok a
unless_by true f r a h = absurd (cc h)
unless_by false f r a h = h

-- a query that got one more definition
record Defined (query next : ScaledQuery) (place : Place) (def : UnitDefinition) : Type 0 where
  tree : ScaledTree
  is : scaled query.quantities place def.body ≡ Ok tree
  defs : next.defs ≡ query.defs ++ whole_definition def tree ∷ []
  quantities : next.quantities ≡ query.quantities ++ tree.quantity ∷ []

defined : (query next : ScaledQuery) (def : UnitDefinition) → scaled_definition query def ≡ Ok next → Defined query next (start_of (length query.defs)) def
defined query next def h =
    let place = start_of (length query.defs) in
    let rest : ScaledTree → Result ScaledQuery ScaleFault = λ x. Ok (record {
      defs = query.defs ++ whole_definition def x ∷ [];
      quantities = query.quantities ++ x.quantity ∷ [];
    }) in
    after (scaled query.quantities place def.body) rest next
    (unless_by (nat_lt 256 (nodes def.body)) (fault.BodyTooLarge place) (and_then (scaled query.quantities place def.body) rest) next h) (λ x is done.
    let made : ScaledQuery = record {
      defs = query.defs ++ whole_definition def x ∷ [];
      quantities = query.quantities ++ x.quantity ∷ [];
    } in
    let same : ◌≡◌ {A = Result ScaledQuery ScaleFault} (Ok made) (Ok next) = done in
    let e : made ≡ next = cc same in
    record { tree = x; is = is; defs = sym (ap (λ (q : ScaledQuery). q.defs) e); quantities = sym (ap (λ (q : ScaledQuery). q.quantities) e) })

-- the definitions that were added, and what they mean
record DefinitionsStand (chosen : Chosen) (number : ℕ) (xs : List Stream) (sources : List ExactSource) (query final : ScaledQuery) (defs : List UnitDefinition) : Type 0 where
  rest : List Definition
  all : final.defs ≡ query.defs ++ rest
  quantities : final.quantities ≡ quantities_of (exact_definitions number sources defs)
  stand : SourcesHaveScales sources → SourcesStand chosen xs sources → QueryStaysWithin chosen xs rest
      → SourcesStand chosen (with_definitions xs rest) (exact_definitions number sources defs)

definitions_stand : (chosen : Chosen) (number : ℕ) (xs : List Stream) (sources : List ExactSource) (query final : ScaledQuery) (defs : List UnitDefinition)
    → number ≡ length query.defs → query.quantities ≡ quantities_of sources → length xs ≡ length sources
    → DefinitionsHaveScales defs → more_definitions query defs ≡ Ok final
    → DefinitionsStand chosen number xs sources query final defs
definitions_stand chosen number xs sources query final [] at same few i h =
    let e : query ≡ final = cc h in
    record {
      rest = [];
      all = sym (ap (λ (q : ScaledQuery). q.defs) e) ∙ sym (append-nil query.defs);
      quantities = sym (ap (λ (q : ScaledQuery). q.quantities) e) ∙ same;
      stand = λ s l stays. l;
    }
definitions_stand chosen number xs sources query final (def ∷ defs) at same few i h =
    after (scaled_definition query def) (λ next. more_definitions next defs) final h (λ next is more.
    let made = defined query next def is in
    let place = start_of number in
    let whole = whole_definition def made.tree in
    let source = exact_definition sources place def in
    let x = definition_of xs whole in
    let got : scaled (quantities_of sources) place def.body ≡ Ok made.tree =
    (let back = sym same in λ j. scaled (back j) (start_of (at j)) def.body) ∙ made.is in
    let listed : next.quantities ≡ quantities_of (sources ++ source ∷ []) =
    made.quantities ∙ (let back = sym got in λ j. same j ++ quantity_after (back j) ∷ []) ∙ sym (quantities_push sources source) in
    let later = definitions_stand chosen (suc number) (xs ++ x ∷ []) (sources ++ source ∷ []) next final defs
    (omega (arith, at, ap length made.defs, length_push query.defs whole)) listed
    (omega (arith, few, length_push xs x, length_push sources source)) i.1 more in
    record {
      rest = whole ∷ later.rest;
      all = later.all ∙ ap (λ ds. ds ++ later.rest) made.defs ∙ append_assoc query.defs (whole ∷ []) later.rest;
      quantities = later.quantities;
      stand = λ s l stays.
          let positive = (expression_kept (record { chosen = chosen; sources = xs; tick = pos 0 }) sources place def.body made.tree s l i.0 got).positive in
          later.stand
          (scales_push sources source s (subst (λ q. pos 1 ≤ℤ pos (scale_in q)) (sym (ap quantity_after got)) positive))
          (sources_push chosen xs sources x source few l (definition_stands chosen xs sources place def made.tree s l i.0 got stays.0))
          stays.1;
    })

cell_stands : (s : ℕ) (c : Option ℤ) → pos 1 ≤ℤ pos s → CellStandsFor s c (option_map (λ n. parts n s) c)
cell_stands s None h = tt
cell_stands s (Some n) h = record { under = h; same = refl }

inputs_stand : (chosen : Chosen) (inputs : List ScaledRows) → InputsHaveScales inputs
    → SourcesStand chosen (map stream_of (rows_of inputs)) (map exact_input inputs)
inputs_stand chosen [] h number = record { cells = λ tick at. tt; marks = λ tick. refl }
inputs_stand chosen (input ∷ inputs) h zero = record { cells = λ tick at. cell_stands input.scale (cell_at input.rows tick) h.0; marks = λ tick. refl }
inputs_stand chosen (input ∷ inputs) h (suc number) = inputs_stand (λ k. chosen (suc k)) inputs h.1 number

inputs_have_scales : (inputs : List ScaledRows) → InputsHaveScales inputs → SourcesHaveScales (map exact_input inputs)
inputs_have_scales [] h number = omega (arith, ints)
inputs_have_scales (input ∷ inputs) h zero = h.0
inputs_have_scales (input ∷ inputs) h (suc number) = inputs_have_scales inputs h.1 number

input_quantities_are : (inputs : List ScaledRows) → input_quantities (scales_of inputs) ≡ quantities_of (map exact_input inputs)
input_quantities_are [] = refl
input_quantities_are (input ∷ inputs) = ap (λ qs. quantity.Number input.scale ∷ qs) (input_quantities_are inputs)

as_many : (inputs : List ScaledRows) → length (map stream_of (rows_of inputs)) ≡ length (map exact_input inputs)
as_many [] = refl
as_many (input ∷ inputs) = ap suc (as_many inputs)

all_stand : (chosen : Chosen) (inputs : List ScaledRows) (defs : List UnitDefinition) (query : ScaledQuery)
    → DefinitionsHaveScales defs → translated (scales_of inputs) defs ≡ Ok query
    → DefinitionsStand chosen 0 (map stream_of (rows_of inputs)) (map exact_input inputs)
    (record { defs = []; quantities = input_quantities (scales_of inputs) }) query defs
all_stand chosen inputs defs query i h =
    let scales = scales_of inputs in
    definitions_stand chosen 0 (map stream_of (rows_of inputs)) (map exact_input inputs) (record { defs = []; quantities = input_quantities scales }) query defs
    refl (input_quantities_are inputs) (as_many inputs) i
    (unless_by (nat_lt 256 (length scales + length defs)) fault.TooManySources _ query h)

pub query_stands : (chosen : Chosen) (inputs : List ScaledRows) (defs : List UnitDefinition) (query : ScaledQuery)
    → InputsHaveScales inputs → DefinitionsHaveScales defs
    → translated (scales_of inputs) defs ≡ Ok query → QueryStaysWithin chosen (map stream_of (rows_of inputs)) query.defs
    → SourcesStand chosen (with_definitions (map stream_of (rows_of inputs)) query.defs) (exact_sources inputs defs)
query_stands chosen inputs defs query s i h stays =
    let all = all_stand chosen inputs defs query i h in
    let start = map stream_of (rows_of inputs) in
    subst (λ ds. SourcesStand chosen (with_definitions start ds) (exact_sources inputs defs)) (sym all.all)
    (all.stand (inputs_have_scales inputs s) (inputs_stand chosen inputs s) (subst (λ ds. QueryStaysWithin chosen start ds) all.all stays))

pub query_quantities : (inputs : List ScaledRows) (defs : List UnitDefinition) (query : ScaledQuery)
    → DefinitionsHaveScales defs → translated (scales_of inputs) defs ≡ Ok query
    → query.quantities ≡ quantities_of (exact_sources inputs defs)
query_quantities inputs defs query i h = (all_stand (λ number tick. true) inputs defs query i h).quantities
