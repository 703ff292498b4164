-- The query of a pipeline is well formed: all its sources are numbers.
use Rattle.std.proofs.Common.{◌≡◌, inl, inr, ◌≤◌, ◌<◌, ◌^◌, ℕ, suc, ◌+◌, ℤ, pos, neg_ℤ, ◌+ℤ◌, ◌*ℤ◌, Bool, true, false, ◌&&◌, ◌||◌, List, [], ◌∷◌, ◌++◌, length, map, codes}
use Rattle.std.proofs.Common.{Option, Some, None, option_and_then, is_some, if◌then◌else◌, refl, sym, ap, ◌∙◌, arith, append_assoc, append-nil}
use Rattle.std.specs.List.{AllByRecursion}
use Rattle.std.specs.Ordering.{int_eq}
use Rattle.std.specs.Str.{bytes_eq}
use Rattle.std.proofs.lemmas.Bool.{cases_Bool, false≢true, and_parts, and_from, or_left, or_right, or_parts}
use Rattle.std.proofs.lemmas.Int.{ints}
use Rattle.tilt_base.proofs.Comparisons.{bytes_same, same_bytes, true_lt}
use Rattle.tilt_base.proofs.GridPoints.{is_point-Decides}
use Rattle.tilt_base.specs.Expression.{Leaf, One, Two, If}
use Rattle.tilt_base.specs.Grid.{GridPoints, is_point}
use Rattle.tilt_base.specs.declared.operator.Op1.TheVariants as op1
use Rattle.tilt_base.specs.declared.operator.Op2.TheVariants as op2
use Rattle.tilt_base.specs.declared.reducer.Reducer.{Reducer}
use Rattle.tilt_base.specs.declared.reducer.Reducer.TheVariants as reducer
use Rattle.tilt_base.specs.declared.span.Span.{Span}
use Rattle.tilt_syntax.specs.Tree.{ExprTree, Num, Truth, Read, Reduce, StatementTree, Input}
use Rattle.tilt_types.specs.Types.{type_declared, type_of, type_of_one, type_of_two, type_of_if, type_of_reducer}
use Rattle.tilt_types.specs.WellFormed.{first_fault, grid_of, has_bounds_on, has_windows, is_fitting, is_stretch, knows_names, IsWellFormed}
use Rattle.tilt_types.specs.declared.declared.Declared.{Declared}
use Rattle.tilt_types.specs.declared.value_type.ValueType.{ValueType}
use Rattle.tilt_types.specs.declared.value_type.ValueType.TheVariants as value
use Rattle.tilt_operators.specs.Desugared.{over_sources, query_of, reading, source_name, step_expr}
use Rattle.tilt_operators.specs.Flow.{StepTree, Select, Keep, Shift, Window, Join, FlowTree}
use Rattle.tilt_operators.specs.Inputs.{inputs_of}
use Rattle.tilt_operators.specs.Steps.{IsFlow, is_of_numbers, is_operand, is_over, is_typed, operand_types}
use Rattle.tilt_operators.specs.declared.operands.Operands.{Operands}
use Rattle.tilt_operators.specs.declared.operands.Operands.TheVariants.{Value, Both}
use Rattle.tilt_operators.proofs.Composed.{tail}
use Rattle.tilt_operators.proofs.Known.{AreNew, IsKnown, among-push, flow-known}
use Rattle.tilt_operators.proofs.Names.{is_among, IsNoneOf, none_of-inputs, none_of-push, numbers_differ}

-- names of numbers
abbrev numbers : List (List ℕ) → List Declared
numbers names = map (λ name. record { name = name; value_type = value.Int }) names

numbers-push : (names : List (List ℕ)) (name : List ℕ)
    → numbers names ++ record { name = name; value_type = value.Int } ∷ [] ≡ numbers (names ++ name ∷ [])
numbers-push [] name = refl
numbers-push (x ∷ names) name = ap (λ (ds : List Declared). record { name = x; value_type = value.Int } ∷ ds) (numbers-push names name)

declared : (names : List (List ℕ)) (x : List ℕ) → is_among names x ≡ true → type_declared (numbers names) x ≡ Some value.Int
declared [] x h = absurd (false≢true h)
declared (name ∷ names) x h =
    elim (cases_Bool (bytes_eq name x)) [
      | inl same ↦ rw same refl
      | inr differs ↦ rw differs (declared names x (rw differs at h))
    ]

undeclared : (names : List (List ℕ)) (x : List ℕ) → is_among names x ≡ false → type_declared (numbers names) x ≡ None
undeclared [] x h = refl
undeclared (name ∷ names) x h =
    let parts = or_parts (bytes_eq name x) (is_among names x) h in
    rw parts.0 (undeclared names x parts.1)

none-among : (names : List (List ℕ)) (x : List ℕ) → IsNoneOf names x → is_among names x ≡ false
none-among [] x h = refl
none-among (name ∷ names) x h = rw h.0 (none-among names x h.1)

-- expressions over sources
module _ (names : List (List ℕ)) (p q : List ℕ) (has_p : is_among names p ≡ true) (has_q : is_among names q ≡ true) where
  has-by : (b : Bool) → type_declared (numbers names) (if b then p else q) ≡ Some value.Int
  has-by true = declared names p has_p
  has-by false = declared names q has_q

  operand-by : (v w : Bool) → (v || w) ≡ true → (if v then Some value.Int else if w then Some value.Int else None) ≡ Some value.Int
  operand-by true w h = refl
  operand-by false true h = refl
  operand-by false false h = absurd (false≢true h)

  turned : (x y : List ℕ) → bytes_eq x y ≡ true → bytes_eq y x ≡ true
  turned x y h = rw (bytes_same x y h) (same_bytes y)

  is-operand : (operands : Operands) (x : List ℕ) → is_operand operands x ≡ true → type_declared operand_types x ≡ Some value.Int
  is-operand Value x h = rw (turned x (codes "v") h) refl
  is-operand Both x h =
      elim (cases_Bool (bytes_eq x (codes "v"))) [
        | inl v ↦ rw (turned x (codes "v") v) refl
        | inr other ↦
            let w : bytes_eq x (codes "w") ≡ true = rw other at h in
            operand-by (bytes_eq (codes "v") x) (bytes_eq (codes "w") x) (or_right _ _ (turned x (codes "w") w))
      ]

  module _ (operands : Operands) where
    type-over : (e : ExprTree) → is_over operands e ≡ true → type_of (numbers names) (over_sources p q e) ≡ type_of operand_types e
    type-over (Leaf (Num n)) h = refl
    type-over (Leaf (Truth b)) h = refl
    type-over (Leaf (Read x offset)) h =
        has-by (bytes_eq x (codes "v")) ∙ sym (is-operand operands x (and_parts (is_operand operands x) (int_eq offset (pos 0)) h).0)
    type-over (Leaf (Reduce r x from to)) h = absurd (false≢true h)
    type-over (One op a) h = ap (λ (t : Option ValueType). option_and_then (λ x. type_of_one op x) t) (type-over a h)
    type-over (Two op a b) h =
        let parts = and_parts (is_over operands a) (is_over operands b) h in
        let left = type-over a parts.0 in
        let right = type-over b parts.1 in
        (λ i. option_and_then (λ x. option_and_then (λ y. type_of_two op x y) (right i)) (left i))
    type-over (If c a b) h =
        let parts = and_parts (is_over operands c && is_over operands a) (is_over operands b) h in
        let more = and_parts (is_over operands c) (is_over operands a) parts.0 in
        let test = type-over c more.0 in
        let left = type-over a more.1 in
        let right = type-over b parts.1 in
        (λ i. option_and_then (λ x. option_and_then (λ y. option_and_then (λ z. type_of_if x y z) (right i)) (left i)) (test i))

    knows-over : (e : ExprTree) → is_over operands e ≡ true → knows_names (numbers names) (over_sources p q e) ≡ true
    knows-over (Leaf (Num n)) h = refl
    knows-over (Leaf (Truth b)) h = refl
    knows-over (Leaf (Read x offset)) h = ap is_some (has-by (bytes_eq x (codes "v")))
    knows-over (Leaf (Reduce r x from to)) h = absurd (false≢true h)
    knows-over (One op a) h = knows-over a h
    knows-over (Two op a b) h =
        let parts = and_parts (is_over operands a) (is_over operands b) h in
        and_from _ _ (knows-over a parts.0) (knows-over b parts.1)
    knows-over (If c a b) h =
        let parts = and_parts (is_over operands c && is_over operands a) (is_over operands b) h in
        let more = and_parts (is_over operands c) (is_over operands a) parts.0 in
        and_from _ _ (and_from _ _ (knows-over c more.0) (knows-over a more.1)) (knows-over b parts.1)

    windows-over : (e : ExprTree) → is_over operands e ≡ true → has_windows (over_sources p q e) ≡ true
    windows-over (Leaf (Num n)) h = refl
    windows-over (Leaf (Truth b)) h = refl
    windows-over (Leaf (Read x offset)) h = refl
    windows-over (Leaf (Reduce r x from to)) h = absurd (false≢true h)
    windows-over (One op a) h = windows-over a h
    windows-over (Two op a b) h =
        let parts = and_parts (is_over operands a) (is_over operands b) h in
        and_from _ _ (windows-over a parts.0) (windows-over b parts.1)
    windows-over (If c a b) h =
        let parts = and_parts (is_over operands c && is_over operands a) (is_over operands b) h in
        let more = and_parts (is_over operands c) (is_over operands a) parts.0 in
        and_from _ _ (and_from _ _ (windows-over c more.0) (windows-over a more.1)) (windows-over b parts.1)

number-type : (t : Option ValueType) → is_fitting true t ≡ true → t ≡ Some value.Int
number-type None h = absurd (false≢true h)
number-type (Some value.Int) h = refl
number-type (Some value.Bool) h = absurd (false≢true h)

truth-type : (t : Option ValueType) → is_fitting false (option_and_then (λ x. type_of_one op1.Not x) t) ≡ true → t ≡ Some value.Bool
truth-type None h = absurd (false≢true h)
truth-type (Some value.Int) h = absurd (false≢true h)
truth-type (Some value.Bool) h = refl

reducer-type : (r : Reducer) → is_of_numbers r ≡ true → type_of_reducer r value.Int ≡ Some value.Int
reducer-type reducer.Any h = absurd (false≢true h)
reducer-type reducer.All h = absurd (false≢true h)
reducer-type r h = refl

-- an expression over known names, with its type and its windows
record IsFine (names : List (List ℕ)) (e : ExprTree) (t : ValueType) : Type 0 where
  type : type_of (numbers names) e ≡ Some t
  knows : knows_names (numbers names) e ≡ true
  windows : has_windows e ≡ true

when-fine : (names : List (List ℕ)) (a c : ExprTree) → IsFine names a value.Int → IsFine names c value.Bool → IsFine names (Two op2.When a c) value.Int
when-fine names a c f g = record { type = rw (f.type, g.type) refl; knows = and_from _ _ f.knows g.knows; windows = and_from _ _ f.windows g.windows }

reading-fine : (names : List (List ℕ)) (x : List ℕ) → is_among names x ≡ true → IsFine names (reading x) value.Int
reading-fine names x h = record { type = declared names x h; knows = ap is_some (declared names x h); windows = refl }

over-fine : (names : List (List ℕ)) (p q : List ℕ) (operands : Operands) (e : ExprTree) (t : ValueType) → is_among names p ≡ true
    → is_among names q ≡ true → is_over operands e ≡ true → type_of operand_types e ≡ Some t → IsFine names (over_sources p q e) t
over-fine names p q operands e t has_p has_q over typed = record {
  type = type-over names p q has_p has_q operands e over ∙ typed;
  knows = knows-over names p q has_p has_q operands e over;
  windows = windows-over names p q has_p has_q operands e over;
}

step-fine : (names inputs : List (List ℕ)) (before : List ℕ) → is_among names before ≡ true
    → ((x : List ℕ) → is_among inputs x ≡ true → is_among names x ≡ true) → (s : StepTree) → IsKnown inputs s → is_typed s ≡ true
    → IsFine names (step_expr before s) value.Int
step-fine names inputs before has has_inputs (Select e) known typed =
    when-fine names _ _ (over-fine names before before Value e value.Int has has known (number-type (type_of operand_types e) typed))
    (record { type = rw (declared names before has) refl; knows = ap is_some (declared names before has); windows = refl })
step-fine names inputs before has has_inputs (Keep e) known typed =
    when-fine names _ _ (reading-fine names before has)
    (over-fine names before before Value e value.Bool has has known (truth-type (type_of operand_types e) typed))
step-fine names inputs before has has_inputs (Shift by) known typed =
    record { type = declared names before has; knows = ap is_some (declared names before has); windows = refl }
step-fine names inputs before has has_inputs (Window r width) known typed = record {
  type = rw (declared names before has) (reducer-type r known.1);
  knows = ap is_some (declared names before has);
  windows = true_lt (neg_ℤ width) (pos 0) (omega (arith, ints, known.0));
}
step-fine names inputs before has has_inputs (Join x e) known typed =
    let other = has_inputs x known.1 in
    when-fine names _ _ (over-fine names before x Both e value.Int has other known.0 (number-type (type_of operand_types e) typed))
    (record {
      type = rw (declared names before has, declared names x other) refl;
      knows = and_from _ _ (ap is_some (declared names before has)) (ap is_some (declared names x other));
      windows = refl;
    })

-- inputs before other statements
inputs-accepted : (n : ℕ) (front ins : List (List ℕ)) (query : List StatementTree) → AreNew front ins
    → ((k : ℕ) → first_fault k (numbers (front ++ ins)) query ≡ None) → first_fault n (numbers front) (map Input ins ++ query) ≡ None
inputs-accepted n front [] query new h = rw append-nil at (h n)
inputs-accepted n front (x ∷ ins) query new h =
    rw (undeclared front x new.0, numbers-push front x)
    (inputs-accepted (n + 1) (front ++ x ∷ []) ins query new.1 (λ k. rw append_assoc (h k)))

-- where no grid is written, each tick is a point of it
each-point : (tick : ℤ) → is_point (grid_of None) tick ≡ true
each-point tick =
    let grid : GridPoints = grid_of None in
    let same : tick ≡ pos 0 +ℤ tick *ℤ pos 1 = omega (arith, ints) in
    (is_point-Decides grid tick (omega (arith, ints))).1 (tick, same)

on-points : (span : Span) → has_bounds_on (Some span) (grid_of None) ≡ true
on-points span = and_from _ _ (each-point span.start) (each-point span.end)

module _ (inputs : List (List ℕ)) (first : List ℕ) (domain : Span) (stretch : is_stretch (Some domain) ≡ true) where
  steps-accepted : (k n : ℕ) (names : List (List ℕ)) (steps : List StepTree) → is_among names (source_name first n) ≡ true
      → ((x : List ℕ) → is_among inputs x ≡ true → is_among names x ≡ true)
      → ((m : ℕ) → n ≤ m → suc m < 2 ^ 64 → IsNoneOf names (source_name first (suc m))) → suc (n + length steps) < 2 ^ 64
      → AllByRecursion (IsKnown inputs) steps → AllByRecursion (λ s. is_typed s ≡ true) steps
      → first_fault k (numbers names) (tail first domain n steps) ≡ None
  steps-accepted k n names [] has has_inputs fresh few known typed =
      let whole : n + 0 ≡ n = omega arith in
      let fine = reading-fine names (source_name first n) has in
      rw (whole, fine.knows, fine.type, stretch, on-points domain) refl
  steps-accepted k n names (s ∷ steps) has has_inputs fresh few known typed =
      let name = source_name first (suc n) in
      let fine = step-fine names inputs (source_name first n) has has_inputs s known.0 typed.0 in
      let new = undeclared names name (none-among names name (fresh n (omega arith) (omega arith))) in
      let whole : n + suc (length steps) ≡ suc n + length steps = omega arith in
      rw (whole, new, fine.knows, fine.type, fine.windows, numbers-push names name)
      (steps-accepted (k + 1) (suc n) (names ++ name ∷ []) steps (among-push names name name ∙ or_right _ _ (same_bytes name))
      (λ x is. among-push names name x ∙ or_left _ _ (has_inputs x is))
      (λ m later small. none_of-push names name (source_name first (suc m)) (fresh m (omega arith) small)
      (numbers_differ first n m (λ same. absurd (omega arith)) (omega arith) small))
      (omega arith) known.1 typed.1)

-- the query of a pipeline is well formed
pub accepted : (flow : FlowTree) → IsFlow flow → IsWellFormed (query_of flow)
accepted flow is =
    let known = flow-known flow is in
    let few = known.few in
    let none : 0 + length flow.steps ≡ length flow.steps = omega arith in
    inputs-accepted 1 [] (inputs_of flow) _ known.new (λ k. rw none at
    (steps-accepted (inputs_of flow) flow.first flow.domain known.stretch k 0 (inputs_of flow) flow.steps known.has_first (λ x h. h)
    (λ m low small. none_of-inputs flow.first m (inputs_of flow) known.open_names) (omega arith) known.known known.typed))
