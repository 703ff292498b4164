-- The core of a pipeline's query gives what the pipeline gives.
use Rattle.std.proofs.Common.{◌≡◌, inl, inr, ℕ, suc, ◌+◌, ◌==◌, Bool, true, false, List, [], ◌∷◌, ◌++◌, length, map, Option, Some, None, if◌then◌else◌, refl, sym, ap, ◌∙◌}
use Rattle.std.proofs.Common.{subst, arith, append-nil}
use Rattle.std.proofs.Common.{option_and_then, option_map}
use Rattle.std.specs.List.{AllByRecursion}
use Rattle.std.specs.Str.{bytes_eq}
use Rattle.std.proofs.lemmas.Bool.{cases_Bool, false≢true}
use Rattle.std.proofs.lemmas.List.{length-map}
use Rattle.tilt_base.proofs.Comparisons.{same_number}
use Rattle.tilt_base.specs.declared.span.Span.{Span}
use Rattle.tilt_core.specs.Core.{domain_of, emitted_number}
use Rattle.tilt_core.specs.Meaning.{emitted, output_of, source_of, with_definitions, meaning}
use Rattle.tilt_stream.proofs.Same.{same_is}
use Rattle.tilt_stream.proofs.Snapped.{snapshots-agree}
use Rattle.tilt_stream.specs.Agreement.{Agree}
use Rattle.tilt_stream.specs.Snap.{Snapshot, AreRows}
use Rattle.tilt_stream.specs.Snapshots.{snapshots}
use Rattle.tilt_stream.specs.Stream.{Stream, stream_of}
use Rattle.tilt_syntax.specs.Tree.{ExprTree, StatementTree, Input, Emit}
use Rattle.tilt_types.specs.Checked.{core_of, definitions, input_names, let_names, place_of, source_names}
use Rattle.tilt_operators.specs.Desugared.{query_of, reading, source_name, step_definitions}
use Rattle.tilt_operators.specs.Flow.{StepTree, FlowTree}
use Rattle.tilt_operators.specs.Inputs.{inputs_of}
use Rattle.tilt_operators.specs.Law.{AreSeries, KeepsMeaning}
use Rattle.tilt_operators.specs.Lists.{filled, flow_list, rows_of}
use Rattle.tilt_operators.specs.Steps.{IsFlow}
use Rattle.tilt_operators.proofs.Composed.{tail, steps-agree, IsAt}
use Rattle.tilt_operators.proofs.Known.{IsKnownFlow, flow-known}
use Rattle.tilt_operators.proofs.Names.{is_among, place_of-front, place_of-within, none_of-inputs}
use Rattle.tilt_operators.proofs.StepLists.{filled-same, filled-is_list}

-- inputs before other statements
module _ (query : List StatementTree) where
  pub inputs-names : (ins : List (List ℕ)) → input_names (map Input ins ++ query) ≡ ins ++ input_names query
  inputs-names [] = refl
  inputs-names (name ∷ ins) = ap (λ (ns : List (List ℕ)). name ∷ ns) (inputs-names ins)

  pub inputs-lets : (ins : List (List ℕ)) → let_names (map Input ins ++ query) ≡ let_names query
  inputs-lets [] = refl
  inputs-lets (name ∷ ins) = inputs-lets ins

  pub inputs-definitions : (names ins : List (List ℕ)) → definitions names (map Input ins ++ query) ≡ definitions names query
  inputs-definitions names [] = refl
  inputs-definitions names (name ∷ ins) = inputs-definitions names ins

-- definitions of steps, and what is emitted
module _ (first : List ℕ) (e : ExprTree) (domain : Span) where
  abbrev after : ℕ → List StepTree → List StatementTree
  after n steps = step_definitions first n steps ++ Emit e domain None ∷ []

  pub no_inputs : (n : ℕ) (steps : List StepTree) → input_names (after n steps) ≡ []
  no_inputs n [] = refl
  no_inputs n (s ∷ steps) = no_inputs (suc n) steps

  pub lets-count : (n : ℕ) (steps : List StepTree) → length (let_names (after n steps)) ≡ length steps
  lets-count n [] = refl
  lets-count n (s ∷ steps) = ap suc (lets-count (suc n) steps)

  pub last-domain : (names : List (List ℕ)) (n : ℕ) (steps : List StepTree) → domain_of (definitions names (after n steps)) ≡ Some domain
  last-domain names n [] = refl
  last-domain names n (s ∷ []) = refl
  last-domain names n (s ∷ next ∷ steps) = last-domain names (suc n) (next ∷ steps)

-- the rows of an input
rows-at : (ins : List (List ℕ)) (rows : List (List Snapshot)) (name : List ℕ) → length rows ≡ length ins → is_among ins name ≡ true
    → source_of (map stream_of rows) (place_of ins name) ≡ stream_of (rows_of ins rows name)
rows-at [] rows name count among = absurd (false≢true among)
rows-at (other ∷ ins) [] name count among = absurd (omega (arith, count))
rows-at (other ∷ ins) (series ∷ rows) name count among =
    elim (cases_Bool (bytes_eq other name)) [
      | inl same ↦ rw same refl
      | inr differs ↦ rw differs (rows-at ins rows name (omega (arith, count)) (rw differs at among))
    ]

series-by : (is : Bool) (a b : List Snapshot) → AreRows a → AreRows b → AreRows (if is then a else b)
series-by true a b h g = h
series-by false a b h g = g

rows-are : (ins : List (List ℕ)) (rows : List (List Snapshot)) (name : List ℕ) → AllByRecursion AreRows rows → AreRows (rows_of ins rows name)
rows-are [] rows name h = tt
rows-are (other ∷ ins) [] name h = tt
rows-are (other ∷ ins) (series ∷ rows) name h = series-by (bytes_eq other name) series (rows_of ins rows name) h.0 (rows-are ins rows name h.1)

module _ (flow : FlowTree) (known : IsKnownFlow flow) where
  abbrev ins : List (List ℕ)
  ins = inputs_of flow

  abbrev last : ExprTree
  last = reading (source_name flow.first (length flow.steps))

  abbrev rest : List StatementTree
  rest = step_definitions flow.first 0 flow.steps ++ Emit last flow.domain None ∷ []

  inputs-are : input_names (query_of flow) ≡ ins
  inputs-are = inputs-names rest ins ∙ ap (λ (ns : List (List ℕ)). ins ++ ns) (no_inputs flow.first last flow.domain 0 flow.steps) ∙ append-nil ins

  lets-are : let_names (query_of flow) ≡ let_names rest
  lets-are = inputs-lets rest ins

  names-are : source_names (query_of flow) ≡ ins ++ let_names rest
  names-are = (λ i. inputs-are i ++ lets-are i)

  definitions-are : definitions (source_names (query_of flow)) (query_of flow) ≡ definitions (source_names (query_of flow)) rest
  definitions-are = inputs-definitions rest (source_names (query_of flow)) ins

  domain-is : domain_of (core_of (query_of flow)).defs ≡ Some flow.domain
  domain-is = ap domain_of definitions-are ∙ last-domain flow.first last flow.domain (source_names (query_of flow)) 0 flow.steps

  number-is : emitted_number (core_of (query_of flow)) ≡ length ins + length flow.steps
  number-is =
      omega (arith, ap length inputs-are, ap length lets-are, lets-count flow.first last flow.domain 0 flow.steps)

  module _ (rows : List (List Snapshot)) (series : AreSeries flow rows) where
    abbrev whole : Stream
    whole = meaning rows (core_of (query_of flow)).defs (emitted_number (core_of (query_of flow)))

    abbrev of_name : List ℕ → List Snapshot
    of_name = rows_of ins rows

    abbrev xs : List Stream
    xs = map stream_of rows

    count : length xs ≡ length ins
    count = length-map rows stream_of ∙ series.one_each

    input-at : (name : List ℕ) → is_among ins name ≡ true → IsAt (source_names (query_of flow)) xs name (stream_of (of_name name))
    input-at name among =
        let place : place_of (source_names (query_of flow)) name ≡ place_of ins name =
        ap (λ (ns : List (List ℕ)). place_of ns name) names-are ∙ place_of-front ins (let_names rest) name among in
        let within = place_of-within ins name among in
        record {
          within = omega (arith, place, within, count);
          is = ap (source_of xs) place ∙ rows-at ins rows name series.one_each among;
        }

    from-first : IsAt (source_names (query_of flow)) xs flow.first (stream_of (filled (of_name flow.first)))
    from-first =
        let at = input-at flow.first known.has_first in
        record {
          within = at.within;
          is = at.is ∙ sym (same_is _ _ (filled-same (of_name flow.first) (rows-are ins rows flow.first series.each)));
        }

    agrees : Agree (stream_of (flow_list flow rows)) whole flow.domain.start flow.domain.end
    agrees =
        let none : 0 + length flow.steps ≡ length flow.steps = omega arith in
        let few = known.few in
        let split : source_names (query_of flow) ≡ ins ++ let_names (tail flow.first flow.domain 0 flow.steps) =
        rw none names-are in
        let all = steps-agree (source_names (query_of flow)) of_name (λ name. rows-are ins rows name series.each) ins flow.first flow.domain
        flow.steps 0 ins xs (filled (of_name flow.first)) split (sym count) (filled-is_list (of_name flow.first) (rows-are ins rows flow.first series.each))
        from-first input-at (λ m low small. none_of-inputs flow.first m ins known.open_names) (omega arith) known.known in
        let number : length xs + length flow.steps ≡ emitted_number (core_of (query_of flow)) = omega (arith, count, number-is) in
        let defs : definitions (source_names (query_of flow)) (tail flow.first flow.domain 0 flow.steps)
        ≡ (core_of (query_of flow)).defs = rw none (sym definitions-are) in
        subst (λ (x : Stream). Agree (stream_of (flow_list flow rows)) x flow.domain.start flow.domain.end)
        (λ i. source_of (with_definitions xs (defs i)) (number i)) all

    emitted-is : emitted (core_of (query_of flow)) rows ≡ Some whole
    emitted-is =
        let counts : length rows ≡ length (core_of (query_of flow)).inputs = series.one_each ∙ ap length (sym inputs-are) in
        let test : (length rows == length (core_of (query_of flow)).inputs) ≡ true =
        ap (λ (n : ℕ). n == length (core_of (query_of flow)).inputs) counts ∙ same_number (length (core_of (query_of flow)).inputs) in
        rw test refl

    output-is : output_of (core_of (query_of flow)) rows ≡ Some (snapshots (stream_of (flow_list flow rows)) flow.domain.start flow.domain.end)
    output-is =
        ap (λ (x : Option Stream). option_and_then (λ y. option_map (λ (d : Span). snapshots y d.start d.end) (domain_of (core_of (query_of flow)).defs)) x) emitted-is
        ∙ ap (λ (d : Option Span). option_map (λ (d : Span). snapshots whole d.start d.end) d) domain-is
        ∙ ap Some (sym (snapshots-agree (stream_of (flow_list flow rows)) whole flow.domain.start flow.domain.end agrees))

pub keeps : (flow : FlowTree) → IsFlow flow → KeepsMeaning flow (core_of (query_of flow))
keeps flow is =
    let known = flow-known flow is in
    record {
      inputs = inputs-are flow known;
      domain = domain-is flow known;
      same = λ rows series. (whole flow known rows series, emitted-is flow known rows series, agrees flow known rows series);
      output = λ rows series. output-is flow known rows series;
    }
