-- The definitions that those of a query are over whole numbers are beside them.
use Rattle.std.proofs.Common.{◌≡◌, inl, inr, ℕ, zero, suc, ◌+◌, ◌<◌, nat_lt, Bool, true, false, if◌then◌else◌, List, [], ◌∷◌, ◌++◌, length, Option, Some, None, option_map}
use Rattle.std.proofs.Common.{Ok, Err, refl, sym, ap, ◌∙◌, subst, arith}
use Rattle.std.specs.List.{AllByRecursion}
use Rattle.std.specs.Option.{option_or}
use Rattle.std.proofs.lemmas.List.{append_assoc, append-nil, length_push}
use Rattle.tilt_base.specs.declared.span.Span.{Span}
use Rattle.tilt_core.specs.CoreTree.{Definition, nodes}
use Rattle.tilt_lexer.specs.Word.{AreDistinct}
use Rattle.tilt_syntax.specs.Tree.{ExprTree, StatementTree, Input, Let, Emit}
use Rattle.tilt_syntax.specs.declared.every.Every.{Every}
use Rattle.tilt_types.proofs.Clear.{neither, expr-clear}
use Rattle.tilt_types.proofs.Distinct.{source_names-distinct}
use Rattle.tilt_types.specs.Checked.{definition, definitions, input_names, let_names, place_of, source_names}
use Rattle.tilt_types.specs.Types.{type_of}
use Rattle.tilt_types.specs.WellFormed.{declared_as, declared_by, domain_fault, expr_fault, fault_of, first_fault, name_fault}
use Rattle.tilt_types.specs.declared.declared.Declared.{Declared}
use Rattle.tilt_types.specs.declared.value_type.ValueType.{ValueType}
use Rattle.tilt_types.specs.declared.value_type.ValueType.TheVariants as value
use Rattle.tilt_units.proofs.Kept.{after}
use Rattle.tilt_units.specs.Scaling.{ScaledTree, and_then as scaled_then, scaled}
use Rattle.tilt_units.specs.Translation.{ScaledQuery, UnitDefinition, input_quantities, more_definitions, scaled_definition, start_of, translated}
use Rattle.tilt_units.specs.declared.fault.ScaleFault.TheVariants as fault
use Rattle.tilt_units.specs.declared.quantity.Quantity.{Quantity}
use Rattle.tilt_units.specs.declared.quantity.Quantity.TheVariants as quantity
use Rattle.tilt_unit_text.proofs.Beside.{Beside}
use Rattle.tilt_unit_text.proofs.BesideQueries.{AreBeside}
use Rattle.tilt_unit_text.proofs.Names.{LastEmits, declared_push, fits, get_end, get_front, long_is, place_front, place_once}
use Rattle.tilt_unit_text.proofs.ScaledBeside.{HaveFew, HaveKinds, IsSource, scaled_told}
use Rattle.tilt_unit_text.specs.Places.{grid_with, query_with, span_with, statement_with, with_numbers}
use Rattle.tilt_unit_text.specs.Units.{unit_definition_of, unit_definitions}
use Rattle.tilt_unit_text.specs.declared.written.Written.{Written}

-- sources are the same among more
source_front : (xs ys : List Quantity) (k : ℕ) (a : ValueType) → IsSource xs k a → IsSource (xs ++ ys) k a
source_front xs ys k a s = record { quantity = s.quantity; at = get_front xs ys k s.quantity s.at; kind = s.kind; small = s.small }

kinds_more : (names : List (List ℕ)) (declared : List Declared) (sources more : List Quantity) (x : List ℕ) (t : ValueType) → HaveKinds names declared sources
    → IsSource (sources ++ more) (place_of names x) t → HaveKinds names (declared ++ declared_as x (Some t)) (sources ++ more)
kinds_more names declared sources more x t h s = record {
  each = λ y a known.
      elim (declared_push declared (record { name = x; value_type = t }) y a known) [
        | inl before ↦ source_front sources more (place_of names y) a (h.each y a before)
        | inr now ↦
            let same : x ≡ y = now.0 in
            let type : t ≡ a = now.1 in
            subst (λ (z : List ℕ). IsSource (sources ++ more) (place_of names z) a) same
            (subst (λ (u : ValueType). IsSource (sources ++ more) (place_of names x) u) type s)
      ];
}

-- a query with one more definition
record Defined (query : ScaledQuery) (def : UnitDefinition) (next : ScaledQuery) : Type 0 where
  tree : ScaledTree
  is : scaled query.quantities (start_of (length query.defs)) def.body ≡ Ok tree
  next_is : next ≡ record {
    defs = query.defs ++ record { body = tree.tree; over = def.over; grid = def.grid } ∷ [];
    quantities = query.quantities ++ tree.quantity ∷ [];
  }

defined_by : (large : Bool) (query : ScaledQuery) (def : UnitDefinition) (next : ScaledQuery)
    → (if large then Err (fault.BodyTooLarge (start_of (length query.defs)))
    else scaled_then (scaled query.quantities (start_of (length query.defs)) def.body) (λ x. Ok (record {
      defs = query.defs ++ record { body = x.tree; over = def.over; grid = def.grid } ∷ [];
      quantities = query.quantities ++ x.quantity ∷ [];
    }))) ≡ Ok next → Defined query def next
defined_by true query def next h = absurd (cc h)
defined_by false query def next h =
    after (scaled query.quantities (start_of (length query.defs)) def.body) (λ x. Ok (record {
      defs = query.defs ++ record { body = x.tree; over = def.over; grid = def.grid } ∷ [];
      quantities = query.quantities ++ x.quantity ∷ [];
    })) next h (λ x is done.
    let w : ScaledQuery = record {
      defs = query.defs ++ record { body = x.tree; over = def.over; grid = def.grid } ∷ [];
      quantities = query.quantities ++ x.quantity ∷ [];
    } in
    let same : w ≡ next = cc done in
    record { tree = x; is = is; next_is = sym same })

-- what the definitions were made of
record Found (names : List (List ℕ)) (declared : List Declared) (q : List StatementTree) (query final : ScaledQuery) : Type 0 where
  made : List Definition
  is : final.defs ≡ query.defs ++ made
  beside : AreBeside names declared q made

module _ (names : List (List ℕ)) (numbers : List Written) (few : HaveFew numbers) (distinct : AreDistinct names) where
  abbrev digits : ExprTree → ExprTree
  digits e = with_numbers numbers e

  abbrev whole : List StatementTree → List StatementTree
  whole places = query_with numbers places

  abbrev AreInputs : List Quantity → List (List ℕ) → Type 0
  AreInputs sources inputs = AllByRecursion (λ x. IsSource sources (place_of names x) value.Int) inputs

  inputs_more : (sources more : List Quantity) (inputs : List (List ℕ)) → AreInputs sources inputs → AreInputs (sources ++ more) inputs
  inputs_more sources more [] h = tt
  inputs_more sources more (x ∷ inputs) h = (source_front sources more (place_of names x) value.Int h.0, inputs_more sources more inputs h.1)

  place_of_let : (front : List (List ℕ)) (x : List ℕ) (back : List (List ℕ)) → names ≡ front ++ x ∷ back → place_of names x ≡ length front
  place_of_let front x back is =
      subst (λ (xs : List (List ℕ)). place_of xs x ≡ length front) (sym is) (place_once front x back (subst AreDistinct is distinct))

  -- one definition
  record One (declared : List Declared) (query final : ScaledQuery) (e : ExprTree) (o : Option Span) (g : Option Every) (t : ValueType) (units : List UnitDefinition)
      : Type 0 where
    tree : ScaledTree
    def : Definition
    body : Beside names declared false (digits e) def.body
    span : def.over ≡ o
    grid : def.grid ≡ (definition names (digits e) o g).grid
    source : IsSource (query.quantities ++ tree.quantity ∷ []) (length query.quantities) t
    rest : more_definitions (record { defs = query.defs ++ def ∷ []; quantities = query.quantities ++ tree.quantity ∷ [] }) units ≡ Ok final

  one_beside : (declared : List Declared) (query final : ScaledQuery) (e : ExprTree) (o : Option Span) (g : Option Every) (t : ValueType) (units : List UnitDefinition)
      → HaveKinds names declared query.quantities → type_of declared (digits e) ≡ Some t
      → more_definitions query (unit_definition_of names numbers e (definition names (digits e) o g) ∷ units) ≡ Ok final
      → One declared query final e o g t units
  one_beside declared query final e o g t units kinds typed d =
      let unit = unit_definition_of names numbers e (definition names (digits e) o g) in
      after (scaled_definition query unit) (λ next. more_definitions next units) final d (λ next at rest.
      let one = defined_by (nat_lt 256 (nodes unit.body)) query unit next at in
      let told = scaled_told names declared query.quantities numbers kinds few (start_of (length query.defs)) e t one.tree typed one.is in
      record {
        tree = one.tree;
        def = record { body = one.tree.tree; over = unit.over; grid = unit.grid };
        body = told.beside;
        span = refl;
        grid = refl;
        source = record { quantity = one.tree.quantity; at = get_end query.quantities one.tree.quantity; kind = told.kind; small = told.small };
        rest = subst (λ (q : ScaledQuery). more_definitions q units ≡ Ok final) one.next_is rest;
      })

  then_found : (declared more : List Declared) (s : StatementTree) (q : List StatementTree) (query final : ScaledQuery) (def : Definition) (sources : List Quantity)
      → Found names more q (record { defs = query.defs ++ def ∷ []; quantities = sources }) final
      → ((made : List Definition) → AreBeside names more q made → AreBeside names declared (s ∷ q) (def ∷ made)) → Found names declared (s ∷ q) query final
  then_found declared more s q query final def sources f go = record {
    made = def ∷ f.made;
    is = f.is ∙ append_assoc query.defs (def ∷ []) f.made;
    beside = go f.made f.beside;
  }

  all_beside : (places : List StatementTree) (n : ℕ) (declared : List Declared) (query final : ScaledQuery) (front : List (List ℕ))
      → first_fault n declared (whole places) ≡ None → HaveKinds names declared query.quantities → AreInputs query.quantities (input_names (whole places))
      → names ≡ front ++ let_names (whole places) → length front ≡ length query.quantities → LastEmits (whole places)
      → more_definitions query (unit_definitions names numbers places (definitions names (whole places))) ≡ Ok final
      → Found names declared (whole places) query final
  all_beside [] n declared query final front h kinds inputs is many last d =
      let same : query ≡ final = cc d in
      record { made = []; is = sym (ap (λ (q : ScaledQuery). q.defs) same) ∙ sym (append-nil query.defs); beside = tt }
  all_beside (Input x ∷ places) n declared query final front h kinds inputs is many last d =
      let more = declared ++ declared_by declared (Input x) in
      let here = neither (fault_of n declared (Input x)) (first_fault (n + 1) more (whole places)) h in
      let all : query.quantities ++ [] ≡ query.quantities = append-nil query.quantities in
      let known = subst (λ (qs : List Quantity). IsSource qs (place_of names x) value.Int) (sym all) inputs.0 in
      let typed : HaveKinds names more query.quantities =
      subst (λ (qs : List Quantity). HaveKinds names more qs) all (kinds_more names declared query.quantities [] x value.Int kinds known) in
      let rest = all_beside places (n + 1) more query final front here.1 typed inputs.1 is many last d in
      record { made = rest.made; is = rest.is; beside = rest.beside }
  all_beside (Let x e o g ∷ places) n declared query final front h kinds inputs is many last d =
      let s = statement_with numbers (Let x e o g) in
      let wo = option_map (span_with numbers) o in
      let wg = option_map (grid_with numbers) g in
      let more = declared ++ declared_by declared s in
      let here = neither (fault_of n declared s) (first_fault (n + 1) more (whole places)) h in
      let parts = neither (option_or (name_fault n declared x) (expr_fault n declared false (digits e))) (domain_fault n wo wg) here.0 in
      let first = neither (name_fault n declared x) (expr_fault n declared false (digits e)) parts.0 in
      let t = fits false (type_of declared (digits e)) (expr-clear n declared false (digits e) first.1).typed in
      let one = one_beside declared query final e wo wg t.0 (unit_definitions names numbers places (definitions names (whole places))) kinds t.1 d in
      let sources = query.quantities ++ one.tree.quantity ∷ [] in
      let at : place_of names x ≡ length query.quantities = place_of_let front x (let_names (whole places)) is ∙ many in
      let known = subst (λ (k : ℕ). IsSource sources k t.0) (sym at) one.source in
      let typed : HaveKinds names more sources =
      subst (λ (u : Option ValueType). HaveKinds names (declared ++ declared_as x u) sources) (sym t.1)
      (kinds_more names declared query.quantities (one.tree.quantity ∷ []) x t.0 kinds known) in
      let behind : names ≡ (front ++ x ∷ []) ++ let_names (whole places) = is ∙ sym (append_assoc front (x ∷ []) (let_names (whole places))) in
      let count : length (front ++ x ∷ []) ≡ length sources = omega (arith, many, length_push front x, length_push query.quantities one.tree.quantity) in
      let rest = all_beside places (n + 1) more (record { defs = query.defs ++ one.def ∷ []; quantities = sources }) final (front ++ x ∷ []) here.1 typed
      (inputs_more query.quantities (one.tree.quantity ∷ []) (input_names (whole places)) inputs) behind count last one.rest in
      then_found declared more s (whole places) query final one.def sources rest (λ made b. (record { body = one.body; span = one.span; grid = one.grid }, b))
  all_beside (Emit e o g ∷ []) n declared query final front h kinds inputs is many last d =
      let s = statement_with numbers (Emit e o g) in
      let wo = Some (span_with numbers o) in
      let wg = option_map (grid_with numbers) g in
      let more = declared ++ declared_by declared s in
      let here = neither (fault_of n declared s) None h in
      let first = neither (expr_fault n declared true (digits e)) (domain_fault n wo wg) here.0 in
      let t = fits true (type_of declared (digits e)) (expr-clear n declared true (digits e) first.0).typed in
      let one = one_beside declared query final e wo wg t.0 [] kinds t.1 d in
      let sources = query.quantities ++ one.tree.quantity ∷ [] in
      let same : record { defs = query.defs ++ one.def ∷ []; quantities = sources } ≡ final = cc one.rest in
      let rest : Found names more [] (record { defs = query.defs ++ one.def ∷ []; quantities = sources }) final =
      record { made = []; is = sym (ap (λ (q : ScaledQuery). q.defs) same) ∙ sym (append-nil (query.defs ++ one.def ∷ [])); beside = tt } in
      then_found declared more s [] query final one.def sources rest (λ made b. (record { body = one.body; span = one.span; grid = one.grid }, b))
  all_beside (Emit e o g ∷ p ∷ places) n declared query final front h kinds inputs is many last d = absurd last

-- inputs are sources
get_input : (parts : List ℕ) (k : ℕ) → k < length parts → AllByRecursion (λ s. s < 9223372036854775808) parts → IsSource (input_quantities parts) k value.Int
get_input [] k h s = absurd (omega (arith, h))
get_input (part ∷ parts) zero h s = record { quantity = quantity.Number part; at = refl; kind = refl; small = s.0 }
get_input (part ∷ parts) (suc k) h s =
    let r = get_input parts k (omega (arith, h)) s.1 in
    record { quantity = r.quantity; at = r.at; kind = r.kind; small = r.small }

inputs_known : (parts : List ℕ) (front inputs lets all : List (List ℕ)) → AllByRecursion (λ s. s < 9223372036854775808) parts → length parts ≡ length all
    → all ≡ front ++ inputs → AllByRecursion (λ x. IsSource (input_quantities parts) (place_of (all ++ lets) x) value.Int) inputs
inputs_known parts front [] lets all s n e = tt
inputs_known parts front (x ∷ inputs) lets all s n e =
    let more : all ++ lets ≡ front ++ x ∷ (inputs ++ lets) = ap (λ xs. xs ++ lets) e ∙ append_assoc front (x ∷ inputs) lets in
    let below : place_of (all ++ lets) x < suc (length front) =
    subst (λ (xs : List (List ℕ)). place_of xs x < suc (length front)) (sym more) (place_front front x (inputs ++ lets)) in
    let long : length all ≡ length front + suc (length inputs) = ap length e ∙ long_is front x inputs in (
      get_input parts (place_of (all ++ lets) x) (omega (arith, below, long, n)) s,
      inputs_known parts (front ++ x ∷ []) inputs lets all s n (e ∙ sym (append_assoc front (x ∷ []) inputs)),
    )

quantities_length : (parts : List ℕ) → length (input_quantities parts) ≡ length parts
quantities_length [] = refl
quantities_length (part ∷ parts) = ap suc (quantities_length parts)

all_by : (many : Bool) (parts : List ℕ) (defs : List UnitDefinition) (final : ScaledQuery)
    → (if many then Err fault.TooManySources else more_definitions (record { defs = []; quantities = input_quantities parts }) defs) ≡ Ok final
    → more_definitions (record { defs = []; quantities = input_quantities parts }) defs ≡ Ok final
all_by true parts defs final h = absurd (cc h)
all_by false parts defs final h = h

-- the definitions of a query, over scales of its inputs
pub translation_beside : (numbers : List Written) (places : List StatementTree) (parts : List ℕ) (final : ScaledQuery) → HaveFew numbers
    → first_fault 1 [] (query_with numbers places) ≡ None → LastEmits (query_with numbers places)
    → AllByRecursion (λ s. s < 9223372036854775808) parts → length parts ≡ length (input_names (query_with numbers places))
    → translated parts (unit_definitions (source_names (query_with numbers places)) numbers places (definitions (source_names (query_with numbers places)) (query_with numbers places)))
    ≡ Ok final
    → AreBeside (source_names (query_with numbers places)) [] (query_with numbers places) final.defs
translation_beside numbers places parts final few none last small many h =
    let q = query_with numbers places in
    let names = source_names q in
    let inputs = input_names q in
    let units = unit_definitions names numbers places (definitions names q) in
    let start : ScaledQuery = record { defs = []; quantities = input_quantities parts } in
    let kinds : HaveKinds names [] start.quantities = record { each = λ x a known. absurd (cc known) } in
    let long : length inputs ≡ length start.quantities = sym many ∙ sym (quantities_length parts) in
    let found = all_beside names numbers few (source_names-distinct q none) places 1 [] start final inputs none kinds
    (inputs_known parts [] inputs (let_names q) inputs small many refl) refl long last
    (all_by (nat_lt 256 (length parts + length units)) parts units final h) in
    subst (λ (ds : List Definition). AreBeside names [] q ds) (sym found.is) found.beside
