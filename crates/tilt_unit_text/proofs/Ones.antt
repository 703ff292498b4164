-- If all scales are 1, an expression in units is itself over whole numbers.
use Rattle.std.proofs.Common.{◌≡◌, ℕ, zero, suc, ◌+◌, ℤ, pos, ◌*ℤ◌, int_div, int_rem, List, Option, Some, None, option_and_then, Result, Ok}
use Rattle.std.proofs.Common.{refl, sym, ap, subst, arith}
use Rattle.std.specs.List.{slice_get}
use Rattle.std.proofs.lemmas.Int.{ints}
use Rattle.tilt_base.specs.Expression.{Leaf, One, Two, If}
use Rattle.tilt_base.specs.Number.{within_64_bits}
use Rattle.tilt_base.specs.declared.operator.Op1.{Op1}
use Rattle.tilt_base.specs.declared.operator.Op1.TheVariants.{Neg, Not, IsNull}
use Rattle.tilt_base.specs.declared.operator.Op2.{Op2}
use Rattle.tilt_base.specs.declared.operator.Op2.TheVariants.{Add, Sub, Mul, Div, Rem, Eq, Ne, Lt, Le, Gt, Ge, And, Or, When, IfNull}
use Rattle.tilt_base.specs.declared.reducer.Reducer.{Reducer}
use Rattle.tilt_base.specs.declared.reducer.Reducer.TheVariants as reducer
use Rattle.tilt_core.specs.CoreTree.{CoreTree, Const, nodes}
use Rattle.tilt_syntax.specs.Tree.{ExprTree, Num, Truth, Read, Reduce}
use Rattle.tilt_types.specs.Checked.{numbered, number_of, place_of}
use Rattle.tilt_types.specs.Types.{type_declared, type_of, type_of_if, type_of_one, type_of_reducer, type_of_two}
use Rattle.tilt_types.specs.declared.declared.Declared.{Declared}
use Rattle.tilt_types.specs.declared.value_type.ValueType.{ValueType}
use Rattle.tilt_types.specs.declared.value_type.ValueType.TheVariants as value
use Rattle.tilt_units.specs.DecimalTree.{UnitTree, literal_of}
use Rattle.tilt_units.specs.Scaling.{AlignedTrees, ScaledTree, aligned, aligned_numbers, and_then, exact_quotient, later, literal_at}
use Rattle.tilt_units.specs.Scaling.{quantity_of_reducer, scaled, scaled_aligned, scaled_if, scaled_one, scaled_two}
use Rattle.tilt_units.specs.declared.decimal.Decimal.{Decimal}
use Rattle.tilt_units.specs.declared.fault.ScaleFault.{ScaleFault}
use Rattle.tilt_units.specs.declared.place.Place.{Place}
use Rattle.tilt_units.specs.declared.quantity.Quantity.{Quantity}
use Rattle.tilt_units.specs.declared.quantity.Quantity.TheVariants as quantity
use Rattle.tilt_unit_text.specs.Numbers.{smallest}
use Rattle.tilt_unit_text.specs.Places.{decimals_of, digits_at, number_at, with_numbers}
use Rattle.tilt_unit_text.specs.Units.{in_units}
use Rattle.tilt_unit_text.specs.declared.written.Written.{Written}

-- what a type represents at the scale 1
abbrev pub quantity_of : ValueType → Quantity
quantity_of value.Int = quantity.Number 1
quantity_of value.Bool = quantity.Truth

abbrev pub as_type : CoreTree → ValueType → ScaledTree
as_type x t = record { tree = x; quantity = quantity_of t }

-- each declared name has the quantity of its type
pub record HaveTypes (names : List (List ℕ)) (declared : List Declared) (sources : List Quantity) : Type 0 where
  pub each : (x : List ℕ) (a : ValueType) → type_declared declared x ≡ Some a → slice_get sources (place_of names x) ≡ Some (quantity_of a)

-- the numbers of a text have no points, and fit
pub record AreWhole (numbers : List Written) : Type 0 where
  pub whole : (place : ℤ) → decimals_of (number_at numbers place) ≡ 0
  pub fit : (place : ℤ) → within_64_bits (digits_at numbers place) ≡ Some (digits_at numbers place)

-- a literal is the same over whole numbers
record SameLiteral (d : Option Decimal) (x : CoreTree) : Type 0 where
  given : (l : Decimal) → d ≡ Some l → (x ≡ Leaf (Const l.number)) × (l.scale ≡ 1) × (within_64_bits l.number ≡ Some l.number)

no_literal : (x : CoreTree) → SameLiteral None x
no_literal x = record { given = λ l e. absurd (cc e) }

rem_one : (n : ℤ) → int_rem (n *ℤ pos 1) (pos 1) ≡ pos 0
rem_one n = omega (arith, ints)

div_one : (n : ℤ) → int_div (n *ℤ pos 1) (pos 1) ≡ n
div_one n = omega (arith, ints)

quotient_one : (n : ℤ) → exact_quotient (n *ℤ pos 1) (pos 1) ≡ Some n
quotient_one n = rw (rem_one n, div_one n) refl

literal_by : (place : Place) (n : ℤ) (s : ℕ) → s ≡ 1 → within_64_bits n ≡ Some n
    → literal_at place (record { number = n; scale = s }) 1 ≡ Ok n
literal_by place n s e w = rw (e, quotient_one n, w) refl

literal_one : (place : Place) (d : Decimal) (x : CoreTree) → SameLiteral (Some d) x → literal_at place d 1 ≡ Ok d.number
literal_one place d x l = let g = l.given d refl in literal_by place d.number d.scale g.1 g.2

module _ (place : Place) where
  abbrev whole_pair : CoreTree → CoreTree → AlignedTrees
  whole_pair x y = record { left = x; right = y; quantity = quantity.Number 1 }

  aligned_ones : (d e : Option Decimal) (x y : CoreTree) → SameLiteral d x → SameLiteral e y
      → aligned_numbers place d e x 1 y 1 ≡ Ok (whole_pair x y)
  aligned_ones (Some d) None x y k l =
      let e : x ≡ Leaf (Const d.number) = (k.given d refl).0 in rw (literal_one place d x k, e) refl
  aligned_ones None (Some d) x y k l =
      let e : y ≡ Leaf (Const d.number) = (l.given d refl).0 in rw (literal_one place d y l, e) refl
  aligned_ones None None x y k l = refl
  aligned_ones (Some d) (Some e) x y k l = refl

  numbers_ones : (op : Op2) (q : Quantity) (d e : Option Decimal) (x y : CoreTree) → SameLiteral d x → SameLiteral e y
      → scaled_aligned place op (whole_pair x y) ≡ Ok (record { tree = Two op x y; quantity = q })
      → and_then (aligned place d e (as_type x value.Int) (as_type y value.Int)) (λ a. scaled_aligned place op a)
      ≡ Ok (record { tree = Two op x y; quantity = q })
  numbers_ones op q d e x y k l h = rw (aligned_ones d e x y k l) h

  typed : (op : Op2) (d e : Option Decimal) (x y : ScaledTree) (s t : ValueType) → ◌≡◌ {A = Option ValueType} (Some s) (Some t)
      → scaled_two place op d e x y ≡ Ok (as_type (Two op x.tree y.tree) s)
      → scaled_two place op d e x y ≡ Ok (as_type (Two op x.tree y.tree) t)
  typed op d e x y s t h k = let w : s ≡ t = cc h in subst (λ u. scaled_two place op d e x y ≡ Ok (as_type (Two op x.tree y.tree) u)) w k

  two_ones : (op : Op2) (a b t : ValueType) (d e : Option Decimal) (x y : CoreTree) → type_of_two op a b ≡ Some t
      → SameLiteral d x → SameLiteral e y → scaled_two place op d e (as_type x a) (as_type y b) ≡ Ok (as_type (Two op x y) t)
  two_ones Add value.Int value.Int t d e x y h k l = typed Add d e (as_type x value.Int) (as_type y value.Int) value.Int t h (numbers_ones Add (quantity.Number 1) d e x y k l refl)
  two_ones Sub value.Int value.Int t d e x y h k l = typed Sub d e (as_type x value.Int) (as_type y value.Int) value.Int t h (numbers_ones Sub (quantity.Number 1) d e x y k l refl)
  two_ones Rem value.Int value.Int t d e x y h k l = typed Rem d e (as_type x value.Int) (as_type y value.Int) value.Int t h (numbers_ones Rem (quantity.Number 1) d e x y k l refl)
  two_ones Mul value.Int value.Int t d e x y h k l = typed Mul d e (as_type x value.Int) (as_type y value.Int) value.Int t h refl
  two_ones Div value.Int value.Int t d e x y h k l = typed Div d e (as_type x value.Int) (as_type y value.Int) value.Int t h refl
  two_ones Lt value.Int value.Int t d e x y h k l = typed Lt d e (as_type x value.Int) (as_type y value.Int) value.Bool t h (numbers_ones Lt quantity.Truth d e x y k l refl)
  two_ones Le value.Int value.Int t d e x y h k l = typed Le d e (as_type x value.Int) (as_type y value.Int) value.Bool t h (numbers_ones Le quantity.Truth d e x y k l refl)
  two_ones Gt value.Int value.Int t d e x y h k l = typed Gt d e (as_type x value.Int) (as_type y value.Int) value.Bool t h (numbers_ones Gt quantity.Truth d e x y k l refl)
  two_ones Ge value.Int value.Int t d e x y h k l = typed Ge d e (as_type x value.Int) (as_type y value.Int) value.Bool t h (numbers_ones Ge quantity.Truth d e x y k l refl)
  two_ones Eq value.Int value.Int t d e x y h k l = typed Eq d e (as_type x value.Int) (as_type y value.Int) value.Bool t h (numbers_ones Eq quantity.Truth d e x y k l refl)
  two_ones Ne value.Int value.Int t d e x y h k l = typed Ne d e (as_type x value.Int) (as_type y value.Int) value.Bool t h (numbers_ones Ne quantity.Truth d e x y k l refl)
  two_ones Eq value.Bool value.Bool t d e x y h k l = typed Eq d e (as_type x value.Bool) (as_type y value.Bool) value.Bool t h refl
  two_ones Ne value.Bool value.Bool t d e x y h k l = typed Ne d e (as_type x value.Bool) (as_type y value.Bool) value.Bool t h refl
  two_ones And value.Bool value.Bool t d e x y h k l = typed And d e (as_type x value.Bool) (as_type y value.Bool) value.Bool t h refl
  two_ones Or value.Bool value.Bool t d e x y h k l = typed Or d e (as_type x value.Bool) (as_type y value.Bool) value.Bool t h refl
  two_ones When a value.Bool t d e x y h k l = typed When d e (as_type x a) (as_type y value.Bool) a t h refl
  two_ones IfNull value.Int value.Int t d e x y h k l = typed IfNull d e (as_type x value.Int) (as_type y value.Int) value.Int t h (numbers_ones IfNull (quantity.Number 1) d e x y k l refl)
  two_ones IfNull value.Bool value.Bool t d e x y h k l = typed IfNull d e (as_type x value.Bool) (as_type y value.Bool) value.Bool t h refl
  two_ones op a b t d e x y h k l = absurd (cc h)

  one_ones : (op : Op1) (a t : ValueType) (x : CoreTree) → type_of_one op a ≡ Some t → scaled_one place op (as_type x a) ≡ Ok (as_type (One op x) t)
  one_ones Neg value.Int t x h = let w : value.Int ≡ t = cc h in subst (λ u. scaled_one place Neg (as_type x value.Int) ≡ Ok (as_type (One Neg x) u)) w refl
  one_ones Not value.Bool t x h = let w : value.Bool ≡ t = cc h in subst (λ u. scaled_one place Not (as_type x value.Bool) ≡ Ok (as_type (One Not x) u)) w refl
  one_ones IsNull a t x h = let w : value.Bool ≡ t = cc h in subst (λ u. scaled_one place IsNull (as_type x a) ≡ Ok (as_type (One IsNull x) u)) w refl
  one_ones Neg value.Bool t x h = absurd (cc h)
  one_ones Not value.Int t x h = absurd (cc h)

  if_ones : (c a b t : ValueType) (d e : Option Decimal) (z x y : CoreTree) → type_of_if c a b ≡ Some t → SameLiteral d x → SameLiteral e y
      → scaled_if place d e (as_type z c) (as_type x a) (as_type y b) ≡ Ok (as_type (If z x y) t)
  if_ones value.Bool value.Int value.Int t d e z x y h k l =
      let w : value.Int ≡ t = cc h in
      subst (λ u. scaled_if place d e (as_type z value.Bool) (as_type x value.Int) (as_type y value.Int) ≡ Ok (as_type (If z x y) u)) w
      (rw (aligned_ones d e x y k l) refl)
  if_ones value.Bool value.Bool value.Bool t d e z x y h k l =
      let w : value.Bool ≡ t = cc h in
      subst (λ u. scaled_if place d e (as_type z value.Bool) (as_type x value.Bool) (as_type y value.Bool) ≡ Ok (as_type (If z x y) u)) w refl
  if_ones value.Bool value.Int value.Bool t d e z x y h k l = absurd (cc h)
  if_ones value.Bool value.Bool value.Int t d e z x y h k l = absurd (cc h)
  if_ones value.Int a b t d e z x y h k l = absurd (cc h)

  reducer_ones : (r : Reducer) (a t : ValueType) → type_of_reducer r a ≡ Some t → quantity_of_reducer place r (quantity_of a) ≡ Ok (quantity_of t)
  reducer_ones reducer.Sum value.Int t h = ap (λ u. Ok (quantity_of u)) (let w : value.Int ≡ t = cc h in w)
  reducer_ones reducer.Avg value.Int t h = ap (λ u. Ok (quantity_of u)) (let w : value.Int ≡ t = cc h in w)
  reducer_ones reducer.Min value.Int t h = ap (λ u. Ok (quantity_of u)) (let w : value.Int ≡ t = cc h in w)
  reducer_ones reducer.Max value.Int t h = ap (λ u. Ok (quantity_of u)) (let w : value.Int ≡ t = cc h in w)
  reducer_ones reducer.Count a t h = ap (λ u. Ok (quantity_of u)) (let w : value.Int ≡ t = cc h in w)
  reducer_ones reducer.First a t h = ap (λ u. Ok (quantity_of u)) (let w : a ≡ t = cc h in w)
  reducer_ones reducer.Last a t h = ap (λ u. Ok (quantity_of u)) (let w : a ≡ t = cc h in w)
  reducer_ones reducer.Any value.Bool t h = ap (λ u. Ok (quantity_of u)) (let w : value.Bool ≡ t = cc h in w)
  reducer_ones reducer.All value.Bool t h = ap (λ u. Ok (quantity_of u)) (let w : value.Bool ≡ t = cc h in w)
  reducer_ones r a t h = absurd (cc h)

some_type : {A B : Type 0} {P : Type 0} (o : Option A) (next : A → Option B) (b : B) → option_and_then next o ≡ Some b
    → ((a : A) → o ≡ Some a → next a ≡ Some b → P) → P
some_type None next b h go = absurd (cc h)
some_type (Some a) next b h go = go a refl h

literal_by_digits : (v : ℤ) (k : ℕ) → k ≡ 0 → within_64_bits v ≡ Some v → SameLiteral (Some (smallest v k)) (Leaf (Const v))
literal_by_digits v zero e w = record {
  given = λ l p.
      let d : Decimal = record { number = v; scale = 1 } in
      let q : d ≡ l = cc p in
      (ap (λ (x : Decimal). Leaf (Const x.number)) q, sym (ap (λ (x : Decimal). x.scale) q), subst (λ (x : Decimal). within_64_bits x.number ≡ Some x.number) q w);
}
literal_by_digits v (suc k) e w = absurd (omega arith)

number_by_digits : (v : ℤ) (k : ℕ) (t : ValueType) → k ≡ 0 → ◌≡◌ {A = Option ValueType} (Some value.Int) (Some t)
    → ◌≡◌ {A = Result ScaledTree ScaleFault} (Ok (record { tree = Leaf (Const (smallest v k).number); quantity = quantity.Number (smallest v k).scale }))
    (Ok (as_type (Leaf (Const v)) t))
number_by_digits v zero t e h = let w : value.Int ≡ t = cc h in ap (λ u. Ok (as_type (Leaf (Const v)) u)) w
number_by_digits v (suc k) t e h = absurd (omega arith)

module _ (names : List (List ℕ)) (declared : List Declared) (sources : List Quantity) (numbers : List Written)
    (types : HaveTypes names declared sources) (whole : AreWhole numbers) where
  abbrev whole_tree : ExprTree → CoreTree
  whole_tree e = numbered names (with_numbers numbers e)

  same_literal : (e : ExprTree) → SameLiteral (literal_of (in_units names numbers e)) (whole_tree e)
  same_literal (Leaf (Num n)) = literal_by_digits (digits_at numbers n) (decimals_of (number_at numbers n)) (whole.whole n) (whole.fit n)
  same_literal (Leaf (Truth holds)) = no_literal _
  same_literal (Leaf (Read x d)) = no_literal _
  same_literal (Leaf (Reduce r x l h)) = no_literal _
  same_literal (One op a) = no_literal _
  same_literal (Two op a b) = no_literal _
  same_literal (If c a b) = no_literal _

  abbrev units : ExprTree → UnitTree
  units e = in_units names numbers e

  pub expression_ones : (place : Place) (e : ExprTree) (t : ValueType) → type_of declared (with_numbers numbers e) ≡ Some t
      → scaled sources place (in_units names numbers e) ≡ Ok (as_type (whole_tree e) t)
  expression_ones place (Leaf (Num n)) t h = number_by_digits (digits_at numbers n) (decimals_of (number_at numbers n)) t (whole.whole n) h
  expression_ones place (Leaf (Truth holds)) t h = let w : value.Bool ≡ t = cc h in ap (λ u. Ok (as_type (Leaf (Const (number_of holds))) u)) w
  expression_ones place (Leaf (Read x d)) t h = rw (types.each x t h) refl
  expression_ones place (Leaf (Reduce r x l k)) t h =
      some_type (type_declared declared x) (λ a. type_of_reducer r a) t h (λ a is so.
      rw (types.each x a is, reducer_ones place r a t so) refl)
  expression_ones place (One op a) t h =
      some_type (type_of declared (with_numbers numbers a)) (λ x. type_of_one op x) t h (λ s is so.
      rw (expression_ones (later place 1) a s is) (one_ones place op s t (whole_tree a) so))
  expression_ones place (Two op a b) t h =
      some_type (type_of declared (with_numbers numbers a)) (λ x. option_and_then (λ y. type_of_two op x y) (type_of declared (with_numbers numbers b))) t h (λ s is rest.
      some_type (type_of declared (with_numbers numbers b)) (λ y. type_of_two op s y) t rest (λ u so it.
      rw (expression_ones (later place 1) a s is, expression_ones (later place (1 + nodes (units a))) b u so)
      (two_ones place op s u t (literal_of (units a)) (literal_of (units b)) (whole_tree a) (whole_tree b) it (same_literal a) (same_literal b))))
  expression_ones place (If c a b) t h =
      some_type (type_of declared (with_numbers numbers c)) (λ x. option_and_then (λ y. option_and_then (λ z. type_of_if x y z)
      (type_of declared (with_numbers numbers b))) (type_of declared (with_numbers numbers a))) t h (λ r is rest.
      some_type (type_of declared (with_numbers numbers a)) (λ y. option_and_then (λ z. type_of_if r y z) (type_of declared (with_numbers numbers b))) t rest (λ s so more.
      some_type (type_of declared (with_numbers numbers b)) (λ z. type_of_if r s z) t more (λ u it last.
      rw (
        expression_ones (later place 1) c r is,
        expression_ones (later place (1 + nodes (units c))) a s so,
        expression_ones (later place (1 + nodes (units c) + nodes (units a))) b u it,
      )
      (if_ones place r s u t (literal_of (units a)) (literal_of (units b)) (whole_tree c) (whole_tree a) (whole_tree b) last (same_literal a) (same_literal b)))))
