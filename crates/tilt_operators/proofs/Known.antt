-- What is known of a pipeline that was read: its inputs, and the operands of its steps.
use Rattle.std.proofs.Common.{◌≡◌, inl, inr, ◌≤◌, ℕ, ◌+◌, pos, ◌≤ℤ◌, Bool, true, false, ◌||◌, List, [], ◌∷◌, ◌++◌, length, Option, Some, None, if◌then◌else◌, refl}
use Rattle.std.proofs.Common.{◌∙◌, arith, length-append, append-nil, append_assoc}
use Rattle.std.specs.List.{AllByRecursion}
use Rattle.std.specs.Prelude.{⊤}
use Rattle.std.specs.Str.{bytes_eq}
use Rattle.std.proofs.lemmas.Bool.{cases_Bool, or_left, or_right}
use Rattle.tilt_base.proofs.Comparisons.{same_bytes}
use Rattle.tilt_base.proofs.Lists.{all-push}
use Rattle.tilt_base.specs.declared.span.Span.{Span}
use Rattle.tilt_lexer.specs.declared.token.Tok.{Tok}
use Rattle.tilt_syntax.specs.Query.{statements}
use Rattle.tilt_types.specs.WellFormed.{is_stretch}
use Rattle.tilt_operators.specs.Flow.{StepTree, Select, Keep, Shift, Window, Join, FlowTree}
use Rattle.tilt_operators.specs.Inputs.{with_name, with_steps, inputs_of}
use Rattle.tilt_operators.specs.Steps.{AreFlow, AreSteps, IsFlow, first_untyped, is_kept_back, is_of_numbers, is_over, is_typed}
use Rattle.tilt_operators.specs.declared.operands.Operands.TheVariants.{Value, Both}
use Rattle.tilt_operators.proofs.Names.{is_among}

-- a step over these inputs
abbrev pub IsKnown : List (List ℕ) → StepTree → Type 0
IsKnown inputs (Select e) = is_over Value e ≡ true
IsKnown inputs (Keep e) = is_over Value e ≡ true
IsKnown inputs (Shift by) = ⊤
IsKnown inputs (Window r width) = (pos 1 ≤ℤ width) × (is_of_numbers r ≡ true)
IsKnown inputs (Join name e) = (is_over Both e ≡ true) × (is_among inputs name ≡ true) × (is_kept_back name ≡ false)

-- one more name, at the end
pub among-push : (names : List (List ℕ)) (name other : List ℕ) → is_among (names ++ name ∷ []) other ≡ (is_among names other || bytes_eq name other)
among-push [] name other = elim (bytes_eq name other) as (λ b. (b || false) ≡ b) [ true ↦ refl | false ↦ refl ]
among-push (x ∷ names) name other =
    rw (among-push names name other) (assoc (bytes_eq x other) (is_among names other) (bytes_eq name other))
  where
    assoc : (a b c : Bool) → (a || (b || c)) ≡ ((a || b) || c)
    assoc true b c = refl
    assoc false b c = refl

with_name-by : (names : List (List ℕ)) (name other : List ℕ) (is : Bool) → is_among names other ≡ true
    → is_among (if is then names else names ++ name ∷ []) other ≡ true
with_name-by names name other true h = h
with_name-by names name other false h = among-push names name other ∙ or_left _ _ h

-- names stay
pub with_name-stays : (names : List (List ℕ)) (name other : List ℕ) → is_among names other ≡ true → is_among (with_name names name) other ≡ true
with_name-stays names name other h = with_name-by names name other (is_among names name) h

with_name-has : (names : List (List ℕ)) (name : List ℕ) → is_among (with_name names name) name ≡ true
with_name-has names name =
    elim (cases_Bool (is_among names name)) [
      | inl is ↦ rw is is
      | inr none ↦ rw none (among-push names name name ∙ or_right _ _ (same_bytes name))
    ]

-- one step, and then the others
pub with_steps_cons : (names : List (List ℕ)) (s : StepTree) (steps : List StepTree)
    → with_steps names (s ∷ steps) ≡ with_steps (with_steps names (s ∷ [])) steps
with_steps_cons names (Join name e) steps = refl
with_steps_cons names (Select e) steps = refl
with_steps_cons names (Keep e) steps = refl
with_steps_cons names (Shift by) steps = refl
with_steps_cons names (Window r width) steps = refl

pub with_steps-stays : (names : List (List ℕ)) (steps : List StepTree) (other : List ℕ) → is_among names other ≡ true
    → is_among (with_steps names steps) other ≡ true
with_steps-stays names [] other h = h
with_steps-stays names (Join name e ∷ steps) other h = with_steps-stays (with_name names name) steps other (with_name-stays names name other h)
with_steps-stays names (Select e ∷ steps) other h = with_steps-stays names steps other h
with_steps-stays names (Keep e ∷ steps) other h = with_steps-stays names steps other h
with_steps-stays names (Shift by ∷ steps) other h = with_steps-stays names steps other h
with_steps-stays names (Window r width ∷ steps) other h = with_steps-stays names steps other h

-- what the tokens of steps say of them
pub steps-known : (n : ℕ) (ss : List (List Tok)) (steps : List StepTree) (domain : Span) (names inputs : List (List ℕ)) → AreSteps n ss steps domain
    → ((other : List ℕ) → is_among (with_steps names steps) other ≡ true → is_among inputs other ≡ true)
    → AllByRecursion (IsKnown inputs) steps
steps-known n [] steps domain names inputs h sub = absurd h
steps-known n (ts ∷ []) [] domain names inputs h sub = tt
steps-known n (ts ∷ []) (s ∷ steps) domain names inputs h sub = absurd h
steps-known n (ts ∷ next ∷ rest) [] domain names inputs h sub = absurd h
steps-known n (ts ∷ next ∷ rest) (Select e ∷ steps) domain names inputs h sub =
    (h.1.is.1.over, steps-known (n + 1) (next ∷ rest) steps domain names inputs h.2 sub)
steps-known n (ts ∷ next ∷ rest) (Keep e ∷ steps) domain names inputs h sub =
    (h.1.is.1.over, steps-known (n + 1) (next ∷ rest) steps domain names inputs h.2 sub)
steps-known n (ts ∷ next ∷ rest) (Shift by ∷ steps) domain names inputs h sub =
    (tt, steps-known (n + 1) (next ∷ rest) steps domain names inputs h.2 sub)
steps-known n (ts ∷ next ∷ rest) (Window r width ∷ steps) domain names inputs h sub =
    ((h.1.is.3, h.1.is.2), steps-known (n + 1) (next ∷ rest) steps domain names inputs h.2 sub)
steps-known n (ts ∷ next ∷ rest) (Join name e ∷ steps) domain names inputs h sub = (
  (h.1.is.4.over, sub name (with_steps-stays (with_name names name) steps name (with_name-has names name)), h.1.is.3),
  steps-known (n + 1) (next ∷ rest) steps domain (with_name names name) inputs h.2 sub,
)

-- there are few
pub steps-few : (n : ℕ) (ss : List (List Tok)) (steps : List StepTree) (domain : Span) → AreSteps n ss steps domain → n + length steps ≤ 100
steps-few n [] steps domain h = absurd h
steps-few n (ts ∷ []) [] domain h = let place = h.0.place in omega arith
steps-few n (ts ∷ []) (s ∷ steps) domain h = absurd h
steps-few n (ts ∷ next ∷ rest) [] domain h = absurd h
steps-few n (ts ∷ next ∷ rest) (s ∷ steps) domain h = let more = steps-few (n + 1) (next ∷ rest) steps domain h.2 in omega arith

-- no input has a name that begins with `_`
abbrev pub AreOpen : List (List ℕ) → Type 0
AreOpen names = AllByRecursion (λ name. is_kept_back name ≡ false) names

with_name-open : (names : List (List ℕ)) (name : List ℕ) (is : Bool) → AreOpen names → is_kept_back name ≡ false
    → AreOpen (if is then names else names ++ name ∷ [])
with_name-open names name true h new = h
with_name-open names name false h new = all-push (λ (n : List ℕ). is_kept_back n ≡ false) names name h new

pub with_steps-open : (names inputs : List (List ℕ)) (steps : List StepTree) → AreOpen names → AllByRecursion (IsKnown inputs) steps
    → AreOpen (with_steps names steps)
with_steps-open names inputs [] h known = h
with_steps-open names inputs (Join name e ∷ steps) h known =
    with_steps-open (with_name names name) inputs steps (with_name-open names name (is_among names name) h known.0.2) known.1
with_steps-open names inputs (Select e ∷ steps) h known = with_steps-open names inputs steps h known.1
with_steps-open names inputs (Keep e ∷ steps) h known = with_steps-open names inputs steps h known.1
with_steps-open names inputs (Shift by ∷ steps) h known = with_steps-open names inputs steps h known.1
with_steps-open names inputs (Window r width ∷ steps) h known = with_steps-open names inputs steps h known.1

-- there are no more inputs than steps
with_name-few : (names : List (List ℕ)) (name : List ℕ) (is : Bool) → length (if is then names else names ++ name ∷ []) ≤ length names + 1
with_name-few names name true = omega arith
with_name-few names name false = omega (arith, length-append names (name ∷ []))

pub with_steps-few : (names : List (List ℕ)) (steps : List StepTree) → length (with_steps names steps) ≤ length names + length steps
with_steps-few names [] = omega arith
with_steps-few names (Join name e ∷ steps) =
    omega (arith, with_steps-few (with_name names name) steps, with_name-few names name (is_among names name))
with_steps-few names (Select e ∷ steps) = omega (arith, with_steps-few names steps)
with_steps-few names (Keep e ∷ steps) = omega (arith, with_steps-few names steps)
with_steps-few names (Shift by ∷ steps) = omega (arith, with_steps-few names steps)
with_steps-few names (Window r width ∷ steps) = omega (arith, with_steps-few names steps)

-- the domain is a stretch
pub steps-stretch : (n : ℕ) (ss : List (List Tok)) (steps : List StepTree) (domain : Span) → AreSteps n ss steps domain
    → is_stretch (Some domain) ≡ true
steps-stretch n [] steps domain h = absurd h
steps-stretch n (ts ∷ []) [] domain h = h.1.3
steps-stretch n (ts ∷ []) (s ∷ steps) domain h = absurd h
steps-stretch n (ts ∷ next ∷ rest) [] domain h = absurd h
steps-stretch n (ts ∷ next ∷ rest) (s ∷ steps) domain h = steps-stretch (n + 1) (next ∷ rest) steps domain h.2

-- each step is typed
typed-by : (n : ℕ) (is : Bool) (found : Option ℕ) → (if is then found else Some n) ≡ None → (is ≡ true) × (found ≡ None)
typed-by n true found h = (refl, h)
typed-by n false found h = absurd (cc h)

pub steps-typed : (n : ℕ) (steps : List StepTree) → first_untyped n steps ≡ None → AllByRecursion (λ s. is_typed s ≡ true) steps
steps-typed n [] h = tt
steps-typed n (s ∷ steps) h =
    let here = typed-by n (is_typed s) (first_untyped (n + 1) steps) h in
    (here.0, steps-typed (n + 1) steps here.1)

-- no name occurs twice among names, and none of them is among the names before them
abbrev pub AreNew : List (List ℕ) → List (List ℕ) → Type 0
AreNew front [] = ⊤
AreNew front (name ∷ names) = (is_among front name ≡ false) × AreNew (front ++ name ∷ []) names

new-push : (front names : List (List ℕ)) (name : List ℕ) → AreNew front names → is_among (front ++ names) name ≡ false
    → AreNew front (names ++ name ∷ [])
new-push front [] name h new = (rw append-nil at new, tt)
new-push front (other ∷ names) name h new =
    (h.0, new-push (front ++ other ∷ []) names name h.1 (rw append_assoc new))

with_name-new : (names : List (List ℕ)) (name : List ℕ) (is : Bool) → is_among names name ≡ is → AreNew [] names
    → AreNew [] (if is then names else names ++ name ∷ [])
with_name-new names name true test h = h
with_name-new names name false test h = new-push [] names name h test

with_steps-new : (names : List (List ℕ)) (steps : List StepTree) → AreNew [] names → AreNew [] (with_steps names steps)
with_steps-new names [] h = h
with_steps-new names (Join name e ∷ steps) h =
    with_steps-new (with_name names name) steps (with_name-new names name (is_among names name) refl h)
with_steps-new names (Select e ∷ steps) h = with_steps-new names steps h
with_steps-new names (Keep e ∷ steps) h = with_steps-new names steps h
with_steps-new names (Shift by ∷ steps) h = with_steps-new names steps h
with_steps-new names (Window r width ∷ steps) h = with_steps-new names steps h

-- what is known of a whole pipeline
pub record IsKnownFlow (flow : FlowTree) : Type 0 where
  pub known : AllByRecursion (IsKnown (inputs_of flow)) flow.steps
  pub few : length flow.steps ≤ 98
  pub open_names : AreOpen (inputs_of flow)
  pub has_first : is_among (inputs_of flow) flow.first ≡ true
  pub new : AreNew [] (inputs_of flow)
  pub stretch : is_stretch (Some flow.domain) ≡ true
  pub typed : AllByRecursion (λ s. is_typed s ≡ true) flow.steps

flow-known_by : (ss : List (List Tok)) (flow : FlowTree) → AreFlow ss flow → first_untyped 2 flow.steps ≡ None → IsKnownFlow flow
flow-known_by [] flow h typed = absurd h
flow-known_by (ts ∷ rest) flow h typed =
    let known : AllByRecursion (IsKnown (inputs_of flow)) flow.steps =
    steps-known 2 rest flow.steps flow.domain (flow.first ∷ []) (inputs_of flow) h.2 (λ other is. is) in
    let few = steps-few 2 rest flow.steps flow.domain h.2 in
    record {
      known = known;
      few = omega arith;
      open_names = with_steps-open (flow.first ∷ []) (inputs_of flow) flow.steps (h.1.1, tt) known;
      has_first = with_steps-stays (flow.first ∷ []) flow.steps flow.first (or_left _ _ (same_bytes flow.first));
      new = with_steps-new (flow.first ∷ []) flow.steps (refl, tt);
      stretch = steps-stretch 2 rest flow.steps flow.domain h.2;
      typed = steps-typed 2 flow.steps typed;
    }

pub flow-known : (flow : FlowTree) → IsFlow flow → IsKnownFlow flow
flow-known flow is = flow-known_by (statements is.tokens) flow is.read.steps is.read.typed
