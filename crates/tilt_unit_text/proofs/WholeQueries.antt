-- If all scales are 1 and no number has a point, a query in units is itself over whole numbers.
use Rattle.std.proofs.Common.{◌≡◌, inl, inr, ℕ, suc, ◌+◌, ◌≤◌, nat_lt, true, false, List, [], ◌∷◌, ◌++◌, length, Option, Some, None, option_map}
use Rattle.std.proofs.Common.{Ok, refl, sym, ap, ◌∙◌, subst, arith}
use Rattle.std.specs.Bool.{⊤}
use Rattle.std.specs.List.{AllByRecursion, slice_get}
use Rattle.std.specs.Option.{option_or}
use Rattle.std.proofs.lemmas.Bool.Decides.{nat_tests}
use Rattle.std.proofs.lemmas.List.{append_assoc, append-nil}
use Rattle.tilt_base.specs.Expression.{Leaf, One, Two, If}
use Rattle.tilt_base.specs.declared.span.Span.{Span}
use Rattle.tilt_core.specs.CoreTree.{Definition, nodes}
use Rattle.tilt_lexer.specs.Word.{AreDistinct}
use Rattle.tilt_syntax.specs.Tree.{ExprTree, StatementTree, Num, Truth, Read, Reduce, Input, Let, Emit}
use Rattle.tilt_syntax.specs.declared.every.Every.{Every}
use Rattle.tilt_types.proofs.Clear.{neither, expr-clear}
use Rattle.tilt_types.specs.Checked.{definition, definitions, input_names, let_names, place_of}
use Rattle.tilt_types.specs.Types.{type_of}
use Rattle.tilt_types.specs.WellFormed.{declared_as, declared_by, domain_fault, expr_fault, fault_of, first_fault, name_fault}
use Rattle.tilt_types.specs.declared.declared.Declared.{Declared}
use Rattle.tilt_types.specs.declared.value_type.ValueType.{ValueType}
use Rattle.tilt_types.specs.declared.value_type.ValueType.TheVariants as value
use Rattle.tilt_units.specs.Translation.{ScaledQuery, UnitDefinition, more_definitions, scaled_definition, start_of}
use Rattle.tilt_units.specs.declared.quantity.Quantity.{Quantity}
use Rattle.tilt_units.specs.declared.quantity.Quantity.TheVariants as quantity
use Rattle.tilt_unit_text.proofs.Names.{LastEmits, declared_push, fits, get_end, get_front, place_once}
use Rattle.tilt_unit_text.proofs.Ones.{AreWhole, HaveTypes, expression_ones, quantity_of}
use Rattle.tilt_unit_text.specs.Places.{grid_with, query_with, span_with, statement_with, with_numbers}
use Rattle.tilt_unit_text.specs.Units.{in_units, unit_definition_of, unit_definitions}
use Rattle.tilt_unit_text.specs.declared.written.Written.{Written}

nodes_units : (names : List (List ℕ)) (numbers : List Written) (e : ExprTree) → nodes (in_units names numbers e) ≡ nodes (with_numbers numbers e)
nodes_units names numbers (Leaf (Num n)) = refl
nodes_units names numbers (Leaf (Truth holds)) = refl
nodes_units names numbers (Leaf (Read x d)) = refl
nodes_units names numbers (Leaf (Reduce r x l k)) = refl
nodes_units names numbers (One op a) = omega (arith, nodes_units names numbers a)
nodes_units names numbers (Two op a b) = omega (arith, nodes_units names numbers a, nodes_units names numbers b)
nodes_units names numbers (If c a b) = omega (arith, nodes_units names numbers c, nodes_units names numbers a, nodes_units names numbers b)

module _ (names : List (List ℕ)) (declared : List Declared) (sources : List Quantity) (types : HaveTypes names declared sources) where
  types_more : (more : List Quantity) (x : List ℕ) (t : ValueType) → slice_get (sources ++ more) (place_of names x) ≡ Some (quantity_of t)
      → HaveTypes names (declared ++ declared_as x (Some t)) (sources ++ more)
  types_more more x t here = record {
    each = λ y a known.
        elim (declared_push declared (record { name = x; value_type = t }) y a known) [
          | inl before ↦ get_front sources more (place_of names y) (quantity_of a) (types.each y a before)
          | inr now ↦
              let same : x ≡ y = now.0 in
              let type : t ≡ a = now.1 in
              subst (λ (z : List ℕ). slice_get (sources ++ more) (place_of names z) ≡ Some (quantity_of a)) same
              (subst (λ (u : ValueType). slice_get (sources ++ more) (place_of names x) ≡ Some (quantity_of u)) type here)
        ];
  }

-- expressions are small
abbrev pub IsSmall : StatementTree → Type 0
IsSmall (Input x) = ⊤
IsSmall (Let x e o g) = nodes e ≤ 256
IsSmall (Emit e o g) = nodes e ≤ 256

pub record Done (query : ScaledQuery) (units : List UnitDefinition) (defs : List Definition) : Type 0 where
  pub quantities : List Quantity
  pub is : more_definitions query units ≡ Ok (record { defs = query.defs ++ defs; quantities = quantities })

module _ (names : List (List ℕ)) (numbers : List Written) (whole : AreWhole numbers) (distinct : AreDistinct names) where
  abbrev next_of : ScaledQuery → Definition → Quantity → ScaledQuery
  next_of query def q = record { defs = query.defs ++ def ∷ []; quantities = query.quantities ++ q ∷ [] }

  one_done : (declared : List Declared) (query : ScaledQuery) (e : ExprTree) (o : Option Span) (g : Option Every) (t : ValueType)
      → HaveTypes names declared query.quantities → nodes (with_numbers numbers e) ≤ 256 → type_of declared (with_numbers numbers e) ≡ Some t
      → scaled_definition query (unit_definition_of names numbers e (definition names (with_numbers numbers e) o g))
      ≡ Ok (next_of query (definition names (with_numbers numbers e) o g) (quantity_of t))
  one_done declared query e o g t types small typed =
      let n = nodes_units names numbers e in
      let few : nat_lt 256 (nodes (in_units names numbers e)) ≡ false = grind (arith, nat_tests) in
      let is = expression_ones names declared query.quantities numbers types whole (start_of (length query.defs)) e t typed in
      rw (few, is) refl

  then_done : (query : ScaledQuery) (def : UnitDefinition) (units : List UnitDefinition) (made : Definition) (defs : List Definition) (q : Quantity)
      → scaled_definition query def ≡ Ok (next_of query made q) → Done (next_of query made q) units defs → Done query (def ∷ units) (made ∷ defs)
  then_done query def units made defs q e d = record {
    quantities = d.quantities;
    is = rw e (d.is ∙ ap (λ ds. Ok (record { defs = ds; quantities = d.quantities })) (append_assoc query.defs (made ∷ []) defs));
  }

  none_done : (query : ScaledQuery) → Done query [] []
  none_done query = record {
    quantities = query.quantities;
    is = ap (λ ds. Ok (record { defs = ds; quantities = query.quantities })) (sym (append-nil query.defs));
  }

  inputs_more : (sources more : List Quantity) (inputs : List (List ℕ))
      → AllByRecursion (λ x. slice_get sources (place_of names x) ≡ Some (quantity.Number 1)) inputs
      → AllByRecursion (λ x. slice_get (sources ++ more) (place_of names x) ≡ Some (quantity.Number 1)) inputs
  inputs_more sources more [] h = tt
  inputs_more sources more (x ∷ inputs) h =
      (get_front sources more (place_of names x) (quantity.Number 1) h.0, inputs_more sources more inputs h.1)

  length_push : {A : Type 0} (xs : List A) (x : A) → length (xs ++ x ∷ []) ≡ suc (length xs)
  length_push [] x = refl
  length_push (y ∷ xs) x = ap suc (length_push xs x)

  pub all_done : (places : List StatementTree) (n : ℕ) (declared : List Declared) (query : ScaledQuery) (front : List (List ℕ))
      → first_fault n declared (query_with numbers places) ≡ None → HaveTypes names declared query.quantities
      → AllByRecursion (λ x. slice_get query.quantities (place_of names x) ≡ Some (quantity.Number 1)) (input_names (query_with numbers places))
      → names ≡ front ++ let_names (query_with numbers places) → length front ≡ length query.quantities
      → LastEmits (query_with numbers places) → AllByRecursion IsSmall (query_with numbers places)
      → Done query (unit_definitions names numbers places (definitions names (query_with numbers places))) (definitions names (query_with numbers places))
  all_done [] n declared query front h types inputs is many last small = none_done query
  all_done (Input x ∷ places) n declared query front h types inputs is many last small =
      let more = declared ++ declared_by declared (Input x) in
      let here = neither (fault_of n declared (Input x)) (first_fault (n + 1) more (query_with numbers places)) h in
      let all : query.quantities ++ [] ≡ query.quantities = append-nil query.quantities in
      let known : slice_get (query.quantities ++ []) (place_of names x) ≡ Some (quantity.Number 1) = rw all inputs.0 in
      let typed : HaveTypes names more query.quantities =
      subst (λ (qs : List Quantity). HaveTypes names more qs) all (types_more names declared query.quantities types [] x value.Int known) in
      all_done places (n + 1) more query front here.1 typed inputs.1 is many last small.1
  all_done (Let x e o g ∷ places) n declared query front h types inputs is many last small =
      let s = statement_with numbers (Let x e o g) in
      let we = with_numbers numbers e in
      let wo = option_map (span_with numbers) o in
      let wg = option_map (grid_with numbers) g in
      let more = declared ++ declared_by declared s in
      let here = neither (fault_of n declared s) (first_fault (n + 1) more (query_with numbers places)) h in
      let parts = neither (option_or (name_fault n declared x) (expr_fault n declared false we)) (domain_fault n wo wg) here.0 in
      let first = neither (name_fault n declared x) (expr_fault n declared false we) parts.0 in
      let t = fits false (type_of declared we) (expr-clear n declared false we first.1).typed in
      let one = one_done declared query e wo wg t.0 types small.0 t.1 in
      let q = quantity_of t.0 in
      let at : place_of names x ≡ length query.quantities = place_of_let front x places is ∙ many in
      let known : slice_get (query.quantities ++ q ∷ []) (place_of names x) ≡ Some q = rw at (get_end query.quantities q) in
      let typed : HaveTypes names more (query.quantities ++ q ∷ []) =
      subst (λ (u : Option ValueType). HaveTypes names (declared ++ declared_as x u) (query.quantities ++ q ∷ [])) (sym t.1)
      (types_more names declared query.quantities types (q ∷ []) x t.0 known) in
      let behind : names ≡ (front ++ x ∷ []) ++ let_names (query_with numbers places) = is ∙ sym (append_assoc front (x ∷ []) (let_names (query_with numbers places))) in
      let count : length (front ++ x ∷ []) ≡ length (query.quantities ++ q ∷ []) =
      length_push front x ∙ ap suc many ∙ sym (length_push query.quantities q) in
      let rest = all_done places (n + 1) more (next_of query (definition names we wo wg) q) (front ++ x ∷ []) here.1 typed
      (inputs_more query.quantities (q ∷ []) (input_names (query_with numbers places)) inputs) behind count last small.1 in
      then_done query (unit_definition_of names numbers e (definition names we wo wg)) _ (definition names we wo wg) _ q one rest
    where
      place_of_let : (front : List (List ℕ)) (x : List ℕ) (places : List StatementTree)
          → names ≡ front ++ x ∷ let_names (query_with numbers places) → place_of names x ≡ length front
      place_of_let front x places is =
          subst (λ (xs : List (List ℕ)). place_of xs x ≡ length front) (sym is)
          (place_once front x (let_names (query_with numbers places)) (subst AreDistinct is distinct))
  all_done (Emit e o g ∷ []) n declared query front h types inputs is many last small =
      let s = statement_with numbers (Emit e o g) in
      let we = with_numbers numbers e in
      let wo = Some (span_with numbers o) in
      let wg = option_map (grid_with numbers) g in
      let here = neither (fault_of n declared s) None h in
      let first = neither (expr_fault n declared true we) (domain_fault n wo wg) here.0 in
      let t = fits true (type_of declared we) (expr-clear n declared true we first.0).typed in
      let one = one_done declared query e wo wg t.0 types small.0 t.1 in
      let def = definition names we wo wg in
      then_done query (unit_definition_of names numbers e def) [] def [] (quantity_of t.0) one (none_done (next_of query def (quantity_of t.0)))
  all_done (Emit e o g ∷ p ∷ places) n declared query front h types inputs is many last small = absurd last
