-- Which numbers the names of a query become.
use Rattle.std.proofs.Common.{◌≡◌, ℕ, zero, suc, ◌+◌, ◌<◌, ◌≤◌, ◌<ℤ◌, int_lt, Bool, true, false, ◌&&◌, ◌||◌, if◌then◌else◌}
use Rattle.std.proofs.Common.{List, [], ◌∷◌, ◌++◌, length, get_or, Option, Some, None, refl, sym, ◌∙◌, arith, subst, append_assoc, append-nil, length-append}
use Rattle.std.specs.List.{AllByRecursion}
use Rattle.std.specs.Option.{option_or}
use Rattle.std.specs.Str.{bytes_eq}
use Rattle.std.proofs.lemmas.Int.{ints}
use Rattle.std.proofs.lemmas.List.Elements.{All-contains_itself, recursion_from_All}
use Rattle.std.proofs.lemmas.Slice.Eq.{bytes_eq-Decides}
use Rattle.std.specs.Prelude.{Contains, ℤ}
use Rattle.std.proofs.lemmas.Bool.{and_parts}
use Rattle.tilt_base.proofs.Comparisons.{same_bytes}
use Rattle.tilt_base.proofs.GridPoints.{tested-IsGrid}
use Rattle.tilt_base.specs.Expression.{Leaf, One, Two, If}
use Rattle.tilt_syntax.specs.Tree.{Num, Truth, Read, Reduce, ExprTree, StatementTree, Input, Let, Emit}
use Rattle.tilt_base.specs.declared.span.Span.{Span}
use Rattle.tilt_syntax.specs.declared.every.Every.{Every}
use Rattle.tilt_types.proofs.Clear.{IsClear, neither, expr-clear, domain-clear, domain-grid, domain-stretch, stretch-IsStretch}
use Rattle.tilt_types.proofs.Distinct.{is_declared-push}
use Rattle.tilt_types.proofs.Texts.{IsOfText}
use Rattle.tilt_types.specs.Checked.{definition, definitions, input_names, let_names, numbered, place_of, source_names}
use Rattle.tilt_core.specs.Core.{AreDefinitions, IsDefinition, ReadsBelow}
use Rattle.tilt_core.specs.CoreTree.{nodes}
use Rattle.tilt_types.specs.Types.{type_of}
use Rattle.tilt_types.specs.WellFormed.{declared_as, declared_by, domain_fault, expr_fault, fault_of, first_fault, grid_of, has_windows, is_declared, is_domain, knows_names, name_fault}
use Rattle.tilt_types.specs.declared.declared.Declared.{Declared}
use Rattle.tilt_types.specs.declared.value_type.ValueType.{ValueType}
use Rattle.tilt_types.specs.declared.value_type.ValueType.TheVariants as value

-- a name that is among the first names has a place there
place_of-at : (xs ys : List (List ℕ)) (x : List ℕ) (k : ℕ) → k < length xs → get_or xs k x ≡ x → place_of (xs ++ ys) x < length xs
place_of-at [] ys x k h is = absurd (omega (arith, h))
place_of-at (y ∷ xs) ys x zero h is =
    let same : bytes_eq y x ≡ true = (bytes_eq-Decides y x).1 is in
    rw same (omega arith)
place_of-at (y ∷ xs) ys x (suc k) h is =
    elim (bytes_eq y x) as (λ same. (if same then zero else suc (place_of (xs ++ ys) x)) < suc (length xs)) [
      | true ↦ omega arith
      | false ↦ omega (arith, place_of-at xs ys x k (omega (arith, h)) is)
    ]

-- each of the first names has one
place_of-front : (xs ys : List (List ℕ)) → AllByRecursion (λ x. place_of (xs ++ ys) x < length xs) xs
place_of-front xs ys = by xs (recursion_from_All (Contains xs) xs (All-contains_itself xs))
  where
    by : (zs : List (List ℕ)) → AllByRecursion (Contains xs) zs → AllByRecursion (λ x. place_of (xs ++ ys) x < length xs) zs
    by [] h = tt
    by (z ∷ zs) h = (place_of-at xs ys z h.0.0 h.0.1 h.0.2, by zs h.1)

-- a name after others has at most the place that it is at
place_of-behind : (front back : List (List ℕ)) (x : List ℕ) → place_of (front ++ x ∷ back) x ≤ length front
place_of-behind [] back x = rw (same_bytes x) (omega arith)
place_of-behind (y ∷ front) back x =
    elim (bytes_eq y x) as (λ same. (if same then zero else suc (place_of (front ++ x ∷ back) x)) ≤ suc (length front)) [
      | true ↦ omega arith
      | false ↦ omega (arith, place_of-behind front back x)
    ]

-- each declared name has a place below a number
pub record AreBelow (names : List (List ℕ)) (declared : List Declared) (bound : ℕ) : Type 0 where
  pub each : (x : List ℕ) → is_declared declared x ≡ true → place_of names x < bound

below-nil : (names : List (List ℕ)) (bound : ℕ) → AreBelow names [] bound
below-nil names bound = record { each = λ x known. absurd (cc known) }

below-more : (names : List (List ℕ)) (declared : List Declared) (bound : ℕ) → AreBelow names declared bound → AreBelow names declared (suc bound)
below-more names declared bound below = record { each = λ x known. omega (arith, below.each x known) }

below-push : (names : List (List ℕ)) (declared : List Declared) (bound : ℕ) (d : Declared) → place_of names d.name < bound → AreBelow names declared bound → AreBelow names (declared ++ d ∷ []) bound
below-push names declared bound d here below = record {
  each = λ x known. by x (is_declared declared x) (bytes_eq d.name x) refl refl (sym (is_declared-push declared d x) ∙ known);
}
  where
    by : (x : List ℕ) (before now : Bool) → is_declared declared x ≡ before → bytes_eq d.name x ≡ now → (before || now) ≡ true → place_of names x < bound
    by x true now was is h = below.each x was
    by x false true was is h = subst (λ (n : List ℕ). place_of names n < bound) ((bytes_eq-Decides d.name x).0 is) here
    by x false false was is h = absurd (cc h)

below-typed : (names : List (List ℕ)) (declared : List Declared) (bound : ℕ) (x : List ℕ) (o : Option ValueType)
    → place_of names x < bound → AreBelow names declared bound → AreBelow names (declared ++ declared_as x o) bound
below-typed names declared bound x None here below = subst (λ (ds : List Declared). AreBelow names ds bound) (sym (append-nil declared)) below
below-typed names declared bound x (Some a) here below = below-push names declared bound (record { name = x; value_type = a }) here below

-- an expression of declared names reads only below their places
numbered-reads : (names : List (List ℕ)) (declared : List Declared) (bound : ℕ) → AreBelow names declared bound
    → (e : ExprTree) → knows_names declared e ≡ true → has_windows e ≡ true → ReadsBelow bound (numbered names e)
numbered-reads names declared bound below (Leaf (Num n)) known windows = tt
numbered-reads names declared bound below (Leaf (Truth b)) known windows = tt
numbered-reads names declared bound below (Leaf (Read x offset)) known windows = below.each x known
numbered-reads names declared bound below (Leaf (Reduce r x from to)) known windows = (below.each x known, window_open from to windows)
  where
    window_open : (from to : ℤ) → int_lt from to ≡ true → from <ℤ to
    window_open from to h = grind (arith, ints)
numbered-reads names declared bound below (One op a) known windows = numbered-reads names declared bound below a known windows
numbered-reads names declared bound below (Two op a b) known windows =
    let k = and_parts (knows_names declared a) (knows_names declared b) known in
    let w = and_parts (has_windows a) (has_windows b) windows in
    (numbered-reads names declared bound below a k.0 w.0, numbered-reads names declared bound below b k.1 w.1)
numbered-reads names declared bound below (If c a b) known windows =
    let k = and_parts (knows_names declared c && knows_names declared a) (knows_names declared b) known in
    let w = and_parts (has_windows c && has_windows a) (has_windows b) windows in
    let k' = and_parts (knows_names declared c) (knows_names declared a) k.0 in
    let w' = and_parts (has_windows c) (has_windows a) w.0 in
    (numbered-reads names declared bound below c k'.0 w'.0, numbered-reads names declared bound below a k'.1 w'.1, numbered-reads names declared bound below b k.1 w.1)

numbered-nodes : (names : List (List ℕ)) (e : ExprTree) → nodes (numbered names e) ≡ nodes e
numbered-nodes names (Leaf (Num n)) = refl
numbered-nodes names (Leaf (Truth b)) = refl
numbered-nodes names (Leaf (Read x offset)) = refl
numbered-nodes names (Leaf (Reduce r x from to)) = refl
numbered-nodes names (One op a) = omega (arith, numbered-nodes names a)
numbered-nodes names (Two op a b) = omega (arith, numbered-nodes names a, numbered-nodes names b)
numbered-nodes names (If c a b) = omega (arith, numbered-nodes names c, numbered-nodes names a, numbered-nodes names b)

module _ (names : List (List ℕ)) (declared : List Declared) (bound : ℕ) (below : AreBelow names declared bound) where
  definition-IsDefinition : (emitted : Bool) (e : ExprTree) (over : Option Span) (every : Option Every) → IsClear declared emitted e
      → is_domain over every ≡ true → nodes e ≤ 256 → IsDefinition bound (definition names e over every)
  definition-IsDefinition emitted e over every clear domain small = record {
    reads = numbered-reads names declared bound below e clear.known clear.windows;
    small = omega (arith, numbered-nodes names e, small);
    stretch = stretch-IsStretch over (domain-stretch over every domain);
    grid = tested-IsGrid (grid_of every) (domain-grid over every domain);
  }

-- the definitions of statements, after which these names have been met, each over what comes before it; `low` is the number of the inputs
module _ (names : List (List ℕ)) (low : ℕ) where
  definitions-are : (query : List StatementTree) (n : ℕ) (declared : List Declared) (bound : ℕ) (front : List (List ℕ))
      → first_fault n declared query ≡ None → AllByRecursion IsOfText query → names ≡ front ++ let_names query
      → length front ≤ bound → low ≤ bound → AllByRecursion (λ x. place_of names x < low) (input_names query)
      → AreBelow names declared bound → AreDefinitions bound (definitions names query)
  definitions-are [] n declared bound front h text is behind from inputs below = tt
  definitions-are (Input x ∷ query) n declared bound front h text is behind from inputs below =
      let more : List Declared = declared ++ declared_by declared (Input x) in
      let here = neither (fault_of n declared (Input x)) (first_fault (n + 1) more query) h in
      let place = inputs.0 in
      definitions-are query (n + 1) more bound front here.1 text.1 is behind from inputs.1 (below-typed names declared bound x (Some value.Int) (omega (arith, place, from)) below)
  definitions-are (Let x e over every ∷ query) n declared bound front h text is behind from inputs below =
      let more : List Declared = declared ++ declared_by declared (Let x e over every) in
      let here = neither (fault_of n declared (Let x e over every)) (first_fault (n + 1) more query) h in
      let parts = neither (option_or (name_fault n declared x) (expr_fault n declared false e)) (domain_fault n over every) here.0 in
      let first = neither (name_fault n declared x) (expr_fault n declared false e) parts.0 in
      let place : place_of names x ≤ length front = subst (λ (ns : List (List ℕ)). place_of ns x ≤ length front) (sym is) (place_of-behind front (let_names query) x) in
      let next : names ≡ (front ++ x ∷ []) ++ let_names query = is ∙ sym (append_assoc front (x ∷ []) (let_names query)) in (
        definition-IsDefinition names declared bound below false e over every (expr-clear n declared false e first.1) (domain-clear n over every parts.1) text.0.0,
        definitions-are query (n + 1) more (suc bound) (front ++ x ∷ []) here.1 text.1 next (omega (arith, length-append front (x ∷ []), behind)) (omega (arith, from)) inputs
            (below-typed names declared (suc bound) x (type_of declared e) (omega (arith, place, behind)) (below-more names declared bound below)),
      )
  definitions-are (Emit e over every ∷ query) n declared bound front h text is behind from inputs below =
      let more : List Declared = declared ++ declared_by declared (Emit e over every) in
      let here = neither (fault_of n declared (Emit e over every)) (first_fault (n + 1) more query) h in
      let parts = neither (expr_fault n declared true e) (domain_fault n (Some over) every) here.0 in (
        definition-IsDefinition names declared bound below true e (Some over) every (expr-clear n declared true e parts.0) (domain-clear n (Some over) every parts.1) text.0,
        definitions-are query (n + 1) more (suc bound) front here.1 text.1 is (omega (arith, behind)) (omega (arith, from)) inputs
            (subst (λ (ds : List Declared). AreBelow names ds (suc bound)) (sym (append-nil declared)) (below-more names declared bound below)),
      )

-- the definitions of a well-formed query, each over what comes before it
pub query-definitions : (query : List StatementTree) → first_fault 1 [] query ≡ None → AllByRecursion IsOfText query
    → AreDefinitions (length (input_names query)) (definitions (source_names query) query)
query-definitions query h text =
    let inputs = input_names query in
    definitions-are (source_names query) (length inputs) query 1 [] (length inputs) inputs h text refl (omega arith) (omega arith)
    (place_of-front inputs (let_names query)) (below-nil (source_names query) (length inputs))
