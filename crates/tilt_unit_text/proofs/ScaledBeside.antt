-- What an expression in units is over whole numbers is beside the query's expression.
use Rattle.std.proofs.Common.{◌≡◌, ℕ, zero, suc, ◌+◌, ◌*◌, ◌/◌, ◌%◌, ◌==◌, ◌<◌, ◌≤◌, ◌^◌, ℤ, pos, negsuc, ◌*ℤ◌, ◌≤ℤ◌, int_div, int_rem, nat_lt, Bool, true, false, ◌&&◌, if◌then◌else◌}
use Rattle.std.proofs.Common.{List, Option, Some, None, option_and_then, Result, Ok, refl, sym, ap, ◌∙◌, subst, arith}
use Rattle.std.specs.Bool.{⊤}
use Rattle.std.specs.List.{slice_get}
use Rattle.std.specs.Ordering.{int_eq}
use Rattle.std.proofs.Math.Nat.{div-le_self}
use Rattle.std.proofs.lemmas.Bool.Decides.{nat_tests}
use Rattle.std.proofs.lemmas.Int.{ints}
use Rattle.tilt_base.specs.Expression.{Leaf, One, Two, If}
use Rattle.tilt_base.specs.Number.{within_64_bits}
use Rattle.tilt_base.specs.declared.operator.Op1.{Op1}
use Rattle.tilt_base.specs.declared.operator.Op1.TheVariants.{Neg, Not, IsNull}
use Rattle.tilt_base.specs.declared.operator.Op2.{Op2}
use Rattle.tilt_base.specs.declared.operator.Op2.TheVariants.{Add, Sub, Mul, Div, Rem, Eq, Ne, And, Or, When, IfNull}
use Rattle.tilt_base.specs.declared.reducer.Reducer.{Reducer}
use Rattle.tilt_base.specs.declared.reducer.Reducer.TheVariants as reducer
use Rattle.tilt_core.specs.CoreTree.{CoreTree, Const, Read as CoreRead, Reduce as CoreReduce, nodes}
use Rattle.tilt_syntax.specs.Tree.{ExprTree, Num, Truth, Read, Reduce}
use Rattle.tilt_types.specs.Checked.{number_of, place_of}
use Rattle.tilt_types.specs.Types.{same_type, type_declared, type_of, type_of_if, type_of_one, type_of_reducer, type_of_two}
use Rattle.tilt_types.specs.declared.declared.Declared.{Declared}
use Rattle.tilt_types.specs.declared.value_type.ValueType.{ValueType}
use Rattle.tilt_types.specs.declared.value_type.ValueType.TheVariants as value
use Rattle.tilt_units.proofs.Kept.{after, found}
use Rattle.tilt_units.specs.DecimalTree.{UnitTree, literal_of}
use Rattle.tilt_units.specs.Scale.{common_scale, dividend_factor, product_scale, quotient_scale}
use Rattle.tilt_units.specs.Scaling.{AlignedTrees, ScaledTree, aligned, aligned_by, aligned_numbers, and_then, exact_quotient, in_common}
use Rattle.tilt_units.specs.Scaling.{joined_truths, later, literal_at, numbers_of, or_fault, product_of, quantity_at, quantity_of_reducer, quotient_of}
use Rattle.tilt_units.specs.Scaling.{raised, scale_of, scaled, scaled_aligned, scaled_if, scaled_one, scaled_two, truth_of}
use Rattle.tilt_units.specs.declared.decimal.Decimal.{Decimal}
use Rattle.tilt_units.specs.declared.fault.ScaleFault.{ScaleFault}
use Rattle.tilt_units.specs.declared.fault.ScaleFault.TheVariants as fault
use Rattle.tilt_units.specs.declared.place.Place.{Place}
use Rattle.tilt_units.specs.declared.quantity.Quantity.{Quantity}
use Rattle.tilt_units.specs.declared.quantity.Quantity.TheVariants as quantity
use Rattle.tilt_unit_text.proofs.Beside.{Beside, IsNumber, choice, is_product, itself, literal, one, product, raised_by, reading, truth, two, window}
use Rattle.tilt_unit_text.proofs.Literals.{ten_small}
use Rattle.tilt_unit_text.specs.Numbers.{smallest}
use Rattle.tilt_unit_text.specs.Places.{decimals_of, digits_at, number_at, with_numbers}
use Rattle.tilt_unit_text.specs.Units.{in_units}
use Rattle.tilt_unit_text.specs.declared.written.Written.{Written}

-- the type of a quantity, and that its scale is one of 64 bits
abbrev pub kind_of : Quantity → ValueType
kind_of quantity.Truth = value.Bool
kind_of (quantity.Number s) = value.Int

abbrev pub IsSmall : Quantity → Type 0
IsSmall quantity.Truth = ⊤
IsSmall (quantity.Number s) = s < 9223372036854775808

-- each declared name has a quantity of its type
pub record IsSource (sources : List Quantity) (place : ℕ) (a : ValueType) : Type 0 where
  pub quantity : Quantity
  pub at : slice_get sources place ≡ Some quantity
  pub kind : kind_of quantity ≡ a
  pub small : IsSmall quantity

pub record HaveKinds (names : List (List ℕ)) (declared : List Declared) (sources : List Quantity) : Type 0 where
  pub each : (x : List ℕ) (a : ValueType) → type_declared declared x ≡ Some a → IsSource sources (place_of names x) a

-- at most 18 digits come after each point
pub record HaveFew (numbers : List Written) : Type 0 where
  pub few : (place : ℤ) → decimals_of (number_at numbers place) ≤ 18

-- the value that a type is given as
given_as : (c : Bool) (g t : ValueType) → (if c then Some g else None) ≡ Some t → g ≡ t
given_as true g t h = cc h
given_as false g t h = absurd (cc h)

some_type : (o : Option ValueType) (next : ValueType → Option ValueType) (t : ValueType) {P : Type 0} → option_and_then next o ≡ Some t
    → ((a : ValueType) → o ≡ Some a → next a ≡ Some t → P) → P
some_type None next t h go = absurd (cc h)
some_type (Some a) next t h go = go a refl h

-- literals
number_small : (k : ℕ) → k < 9223372036854775808 → IsNumber (pos k)
number_small k h = (omega (arith, ints), omega (arith, ints))

within_number : (n m : ℤ) → pos 0 ≤ℤ n → within_64_bits n ≡ Some m → IsNumber m
within_number (pos n) m h e = by_test (nat_lt n (2 ^ 63)) refl e
  where
    by_test : (is : Bool) → nat_lt n (2 ^ 63) ≡ is → (if is then Some (pos n) else None) ≡ Some m → IsNumber m
    by_test true small e =
        let same : pos n ≡ m = cc e in
        let below : n < 2 ^ 63 = grind (arith, nat_tests) in
        subst IsNumber same (number_small n (omega arith))
    by_test false small e = absurd (cc e)
within_number (negsuc n) m h e = absurd (omega (arith, ints, h))

quotient_positive : (a b : ℤ) (n : ℤ) → pos 0 ≤ℤ int_div a b → exact_quotient a b ≡ Some n → pos 0 ≤ℤ n
quotient_positive a b n h e = by_test (int_eq (int_rem a b) (pos 0)) e
  where
    by_test : (is : Bool) → (if is then Some (int_div a b) else None) ≡ Some n → pos 0 ≤ℤ n
    by_test true e = let same : int_div a b ≡ n = cc e in subst (λ m. pos 0 ≤ℤ m) same h
    by_test false e = absurd (cc e)

divided_positive : (a : ℤ) (s t : ℕ) → pos 0 ≤ℤ a → pos 0 ≤ℤ int_div (a *ℤ pos s) (pos t)
divided_positive (pos a) s zero h = omega (arith, ints)
divided_positive (pos a) s (suc t) h = omega (arith, ints)
divided_positive (negsuc a) s t h = absurd (omega (arith, ints, h))

literal_number : (place : Place) (d : Decimal) (scale : ℕ) (n : ℤ) → pos 0 ≤ℤ d.number → literal_at place d scale ≡ Ok n → IsNumber n
literal_number place d scale n h e =
    after (or_fault (fault.LiteralNotWhole place) (exact_quotient (d.number *ℤ pos scale) (pos d.scale)))
    (λ m. or_fault (fault.LiteralTooLarge place) (within_64_bits m)) n e (λ m is rest.
    let whole = found (fault.LiteralNotWhole place) (exact_quotient (d.number *ℤ pos scale) (pos d.scale)) m is in
    let some = quotient_positive (d.number *ℤ pos scale) (pos d.scale) m (divided_positive d.number scale d.scale h) whole in
    within_number m n some (found (fault.LiteralTooLarge place) (within_64_bits m) n rest))

record IsLiteral (digits : ℤ) (d : Decimal) : Type 0 where
  positive : pos 0 ≤ℤ digits → pos 0 ≤ℤ d.number
  below : pos 0 ≤ℤ digits → d.number ≤ℤ digits
  small : d.scale < 9223372036854775808

smallest_is : (digits : ℤ) (n : ℕ) → n ≤ 18 → IsLiteral digits (smallest digits n)
smallest_is digits zero few = record { positive = λ h. h; below = λ h. omega (arith, ints); small = omega arith }
smallest_is digits (suc n) few = by_test (int_eq (int_rem digits (pos 10)) (pos 0)) (smallest (int_div digits (pos 10)) n) (smallest_is (int_div digits (pos 10)) n (omega arith))
  where
    by_test : (is : Bool) (d : Decimal) → IsLiteral (int_div digits (pos 10)) d → IsLiteral digits (if is then d else record { number = digits; scale = 10 ^ suc n })
    by_test true d r = record {
      positive = λ h. r.positive (omega (arith, ints, h));
      below = λ h.
          let less : pos 0 ≤ℤ int_div digits (pos 10) = omega (arith, ints, h) in
          let more = r.below less in
          omega (arith, ints, h, more);
      small = r.small;
    }
    by_test false d r = record { positive = λ h. h; below = λ h. omega (arith, ints); small = ten_small (suc n) few }

-- what is known of an operand that may be a literal
record IsFrom (l : Decimal) (e : ExprTree) : Type 0 where
  number : ℤ
  is : e ≡ Leaf (Num number)
  positive : IsNumber number → pos 0 ≤ℤ l.number

record MayBeLiteral (d : Option Decimal) (e : ExprTree) : Type 0 where
  given : (l : Decimal) → d ≡ Some l → IsFrom l e

not_literal : (e : ExprTree) → MayBeLiteral None e
not_literal e = record { given = λ l h. absurd (cc h) }

-- scales stay small
common_small : (s t c : ℕ) → s < 9223372036854775808 → t < 9223372036854775808 → common_scale s t ≡ Some c → c < 9223372036854775808
common_small s t c h k e = by_tests (t % s == 0) (s % t == 0) e
  where
    by_tests : (p q : Bool) → (if p then Some t else if q then Some s else None) ≡ Some c → c < 9223372036854775808
    by_tests true q e = let same : t ≡ c = cc e in omega (arith, same, k)
    by_tests false true e = let same : s ≡ c = cc e in omega (arith, same, h)
    by_tests false false e = absurd (cc e)

product_small : (s t c : ℕ) → product_scale s t ≡ Some c → c < 9223372036854775808
product_small s t c e = by_test (nat_lt (s * t) (2 ^ 63)) refl e
  where
    by_test : (is : Bool) → nat_lt (s * t) (2 ^ 63) ≡ is → (if is then Some (s * t) else None) ≡ Some c → c < 9223372036854775808
    by_test true small e =
        let same : s * t ≡ c = cc e in
        let below : s * t < 2 ^ 63 = grind (arith, nat_tests) in
        omega (arith, same, below)
    by_test false small e = absurd (cc e)

factor_small : (s t : ℕ) → t < 9223372036854775808 → dividend_factor s t < 9223372036854775808
factor_small s t h = by_test (s % t == 0)
  where
    by_test : (is : Bool) → (if is then 1 else t) < 9223372036854775808
    by_test true = omega arith
    by_test false = h

quotient_small : (s t : ℕ) → s < 9223372036854775808 → quotient_scale s t < 9223372036854775808
quotient_small s t h = by_test (s % t == 0)
  where
    by_test : (is : Bool) → (if is then s / t else s) < 9223372036854775808
    by_test true = omega (arith, div-le_self s t, h)
    by_test false = h

divided_small : (c s : ℕ) → c < 9223372036854775808 → c / s < 9223372036854775808
divided_small c s h = omega (arith, div-le_self c s, h)

-- the quantities that are asked
is_number : (place : Place) (q r : Quantity) → numbers_of place q ≡ Ok r → (kind_of q ≡ value.Int) × (q ≡ r)
is_number place quantity.Truth r h = absurd (cc h)
is_number place (quantity.Number s) r h = (refl, cc h)

is_scale : (place : Place) (q : Quantity) (s : ℕ) → scale_of place q ≡ Ok s → q ≡ quantity.Number s
is_scale place quantity.Truth s h = absurd (cc h)
is_scale place (quantity.Number r) s h = let same : r ≡ s = cc h in ap quantity.Number same

is_truth_value : (place : Place) (q r : Quantity) → truth_of place q ≡ Ok r → (q ≡ quantity.Truth) × (r ≡ quantity.Truth)
is_truth_value place quantity.Truth r h = (refl, sym (cc h))
is_truth_value place (quantity.Number s) r h = absurd (cc h)

-- operators whose operands are brought to one quantity
abbrev is_aligned : Op2 → Bool
is_aligned Mul = false
is_aligned Div = false
is_aligned And = false
is_aligned Or = false
is_aligned When = false
is_aligned op = true

no_product : (op : Op2) → is_aligned op ≡ true → is_product op ≡ false
no_product Mul h = absurd (cc h)
no_product op h = refl

module _ (names : List (List ℕ)) (declared : List Declared) where
  abbrev Is : Bool → ExprTree → CoreTree → Type 0
  Is b e t = Beside names declared b e t

  abbrev IsInt : ExprTree → Type 0
  IsInt e = type_of declared e ≡ Some value.Int

  -- what was made of an expression of this type
  pub record Told (e : ExprTree) (a : ValueType) (z : ScaledTree) : Type 0 where
    pub beside : Beside names declared false e z.tree
    pub kind : kind_of z.quantity ≡ a
    pub small : IsSmall z.quantity

  made : (e : ExprTree) (t : CoreTree) (q : Quantity) (a : ValueType) (z : ScaledTree)
      → ◌≡◌ {A = Result ScaledTree ScaleFault} (Ok (record { tree = t; quantity = q })) (Ok z) → Is false e t → kind_of q ≡ a → IsSmall q → Told e a z
  made e t q a z h i k s =
      let w : ScaledTree = record { tree = t; quantity = q } in
      let same : w ≡ z = cc h in
      let told : Told e a w = record { beside = i; kind = k; small = s } in
      subst (Told e a) same told

  -- two operands brought to one quantity
  record Pair (e f : ExprTree) (k l : ValueType) (a : AlignedTrees) : Type 0 where
    left : Is true e a.left
    right : Is true f a.right
    first : kind_of a.quantity ≡ k
    second : kind_of a.quantity ≡ l
    small : IsSmall a.quantity

  paired : (e f : ExprTree) (k l : ValueType) (x y : CoreTree) (q : Quantity) (a : AlignedTrees)
      → ◌≡◌ {A = Result AlignedTrees ScaleFault} (Ok (record { left = x; right = y; quantity = q })) (Ok a)
      → Is true e x → Is true f y → kind_of q ≡ k → kind_of q ≡ l → IsSmall q → Pair e f k l a
  paired e f k l x y q a h i j m n s =
      let w : AlignedTrees = record { left = x; right = y; quantity = q } in
      let same : w ≡ a = cc h in
      let pair : Pair e f k l w = record { left = i; right = j; first = m; second = n; small = s } in
      subst (Pair e f k l) same pair

  raised_test : (is : Bool) (k : ℕ) (e : ExprTree) (t : CoreTree) → k < 9223372036854775808 → IsInt e → Is false e t
      → Is true e (if is then t else Two Mul (Leaf (Const (pos k))) t)
  raised_test true k e t s i h = itself h
  raised_test false k e t s i h = raised_by (number_small k s) i h

  raised_beside : (k : ℕ) (e : ExprTree) (t : CoreTree) → k < 9223372036854775808 → IsInt e → Is false e t → Is true e (raised k t)
  raised_beside k e t s i h = raised_test (k == 1) k e t s i h

  literal_beside : (place : Place) (l : Decimal) (scale : ℕ) (n : ℤ) (e : ExprTree) → IsFrom l e → literal_at place l scale ≡ Ok n
      → Is true e (Leaf (Const n))
  literal_beside place l scale n e from h =
      let number = from.number in
      let there : Is true (Leaf (Num number)) (Leaf (Const n)) = itself (literal (λ i. literal_number place l scale n (from.positive i) h)) in
      subst (λ u. Is true u (Leaf (Const n))) (sym from.is) there

  module _ (place : Place) where
    common_beside : (e f : ExprTree) (x : CoreTree) (s : ℕ) (y : CoreTree) (t : ℕ) (a : AlignedTrees) → IsInt e → IsInt f → Is false e x → Is false f y
        → s < 9223372036854775808 → t < 9223372036854775808 → in_common place x s y t ≡ Ok a → Pair e f value.Int value.Int a
    common_beside e f x s y t a i j g k m n h =
        after (or_fault (fault.ScalesDiffer place) (common_scale s t))
        (λ common. Ok (record { left = raised (common / s) x; right = raised (common / t) y; quantity = quantity.Number common })) a h (λ common is done.
        let small = common_small s t common m n (found (fault.ScalesDiffer place) (common_scale s t) common is) in
        paired e f value.Int value.Int (raised (common / s) x) (raised (common / t) y) (quantity.Number common) a done
        (raised_beside (common / s) e x (divided_small common s small) i g) (raised_beside (common / t) f y (divided_small common t small) j k)
        refl refl small)

    numbers_beside : (d c : Option Decimal) (e f : ExprTree) (x : CoreTree) (s : ℕ) (y : CoreTree) (t : ℕ) (a : AlignedTrees)
        → MayBeLiteral d e → MayBeLiteral c f → IsInt e → IsInt f → Is false e x → Is false f y → s < 9223372036854775808 → t < 9223372036854775808
        → aligned_numbers place d c x s y t ≡ Ok a → Pair e f value.Int value.Int a
    numbers_beside (Some d) None e f x s y t a p q i j g k m n h =
        after (literal_at place d t) (λ z. Ok (record { left = Leaf (Const z); right = y; quantity = quantity.Number t })) a h (λ z is done.
        paired e f value.Int value.Int (Leaf (Const z)) y (quantity.Number t) a done (literal_beside place d t z e (p.given d refl) is) (itself k) refl refl n)
    numbers_beside None (Some d) e f x s y t a p q i j g k m n h =
        after (literal_at place d s) (λ z. Ok (record { left = x; right = Leaf (Const z); quantity = quantity.Number s })) a h (λ z is done.
        paired e f value.Int value.Int x (Leaf (Const z)) (quantity.Number s) a done (itself g) (literal_beside place d s z f (q.given d refl) is) refl refl m)
    numbers_beside None None e f x s y t a p q i j g k m n h = common_beside e f x s y t a i j g k m n h
    numbers_beside (Some d) (Some c) e f x s y t a p q i j g k m n h = common_beside e f x s y t a i j g k m n h

    aligned_beside : (d c : Option Decimal) (e f : ExprTree) (x : CoreTree) (r : Quantity) (y : CoreTree) (o : Quantity) (a : AlignedTrees)
        → MayBeLiteral d e → MayBeLiteral c f → type_of declared e ≡ Some (kind_of r) → type_of declared f ≡ Some (kind_of o) → Is false e x → Is false f y
        → IsSmall r → IsSmall o → aligned_by place d c x r y o ≡ Ok a → Pair e f (kind_of r) (kind_of o) a
    aligned_beside d c e f x quantity.Truth y quantity.Truth a p q i j g k m n h =
        paired e f value.Bool value.Bool x y quantity.Truth a h (itself g) (itself k) refl refl tt
    aligned_beside d c e f x (quantity.Number s) y (quantity.Number t) a p q i j g k m n h =
        numbers_beside d c e f x s y t a p q i j g k m n h
    aligned_beside d c e f x quantity.Truth y (quantity.Number t) a p q i j g k m n h = absurd (cc h)
    aligned_beside d c e f x (quantity.Number s) y quantity.Truth a p q i j g k m n h = absurd (cc h)

    -- an operator on aligned operands
    operator_told : (op : Op2) (e f : ExprTree) (x y : CoreTree) (q : Quantity) (t : ValueType) (z : ScaledTree) → is_aligned op ≡ true
        → Is true e x → Is true f y → IsSmall q → scaled_aligned place op (record { left = x; right = y; quantity = q }) ≡ Ok z
        → type_of_two op (kind_of q) (kind_of q) ≡ Some t → Told (Two op e f) t z
    operator_told Eq e f x y quantity.Truth t z n g k s h i = made (Two Eq e f) (Two Eq x y) quantity.Truth t z h (two Eq refl g k) (cc i) tt
    operator_told Ne e f x y quantity.Truth t z n g k s h i = made (Two Ne e f) (Two Ne x y) quantity.Truth t z h (two Ne refl g k) (cc i) tt
    operator_told IfNull e f x y quantity.Truth t z n g k s h i = made (Two IfNull e f) (Two IfNull x y) quantity.Truth t z h (two IfNull refl g k) (cc i) tt
    operator_told op e f x y quantity.Truth t z n g k s h i = absurd (cc (n, h))
    operator_told Add e f x y (quantity.Number c) t z n g k s h i = made (Two Add e f) (Two Add x y) (quantity.Number c) t z h (two Add refl g k) (cc i) s
    operator_told Sub e f x y (quantity.Number c) t z n g k s h i = made (Two Sub e f) (Two Sub x y) (quantity.Number c) t z h (two Sub refl g k) (cc i) s
    operator_told Rem e f x y (quantity.Number c) t z n g k s h i = made (Two Rem e f) (Two Rem x y) (quantity.Number c) t z h (two Rem refl g k) (cc i) s
    operator_told IfNull e f x y (quantity.Number c) t z n g k s h i = made (Two IfNull e f) (Two IfNull x y) (quantity.Number c) t z h (two IfNull refl g k) (cc i) s
    operator_told Mul e f x y (quantity.Number c) t z n g k s h i = absurd (cc n)
    operator_told Div e f x y (quantity.Number c) t z n g k s h i = absurd (cc n)
    operator_told And e f x y (quantity.Number c) t z n g k s h i = absurd (cc n)
    operator_told Or e f x y (quantity.Number c) t z n g k s h i = absurd (cc n)
    operator_told When e f x y (quantity.Number c) t z n g k s h i = absurd (cc n)
    operator_told op e f x y (quantity.Number c) t z n g k s h i = made (Two op e f) (Two op x y) quantity.Truth t z h (two op refl g k) (cc i) tt

    side_by_side : (op : Op2) (d c : Option Decimal) (e f : ExprTree) (x y z : ScaledTree) (t : ValueType) → is_aligned op ≡ true
        → MayBeLiteral d e → MayBeLiteral c f → type_of declared e ≡ Some (kind_of x.quantity) → type_of declared f ≡ Some (kind_of y.quantity)
        → Told e (kind_of x.quantity) x → Told f (kind_of y.quantity) y → type_of_two op (kind_of x.quantity) (kind_of y.quantity) ≡ Some t
        → and_then (aligned place d c x y) (λ a. scaled_aligned place op a) ≡ Ok z → Told (Two op e f) t z
    side_by_side op d c e f x y z t n p q i j g k typed h =
        after (aligned place d c x y) (λ a. scaled_aligned place op a) z h (λ a is done.
        let pair = aligned_beside d c e f x.tree x.quantity y.tree y.quantity a p q i j g.beside k.beside g.small k.small is in
        let types = (λ v. type_of_two op (pair.first v) (pair.second v)) ∙ typed in
        operator_told op e f a.left a.right a.quantity t z n pair.left pair.right pair.small done types)

    truths_told : (op : Op2) (e f : ExprTree) (x y z : ScaledTree) (t : ValueType) → is_product op ≡ false → Is false e x.tree → Is false f y.tree
        → value.Bool ≡ t → joined_truths place op x y ≡ Ok z → Told (Two op e f) t z
    truths_told op e f x y z t n g k i h =
        after (truth_of place x.quantity) (λ p. and_then (truth_of place y.quantity)
        (λ q. Ok (record { tree = Two op x.tree y.tree; quantity = quantity.Truth }))) z h (λ p is rest.
        after (truth_of place y.quantity) (λ q. Ok (record { tree = Two op x.tree y.tree; quantity = quantity.Truth })) z rest (λ q so done.
        made (Two op e f) (Two op x.tree y.tree) quantity.Truth t z done (two op n (itself g) (itself k)) i tt))

    product_told : (e f : ExprTree) (x y z : ScaledTree) (t : ValueType) → Is false e x.tree → Is false f y.tree → value.Int ≡ t
        → product_of place x y ≡ Ok z → Told (Two Mul e f) t z
    product_told e f x y z t g k i h =
        after (scale_of place x.quantity) (λ r. and_then (scale_of place y.quantity) (λ s.
        and_then (or_fault (fault.ScaleTooLarge place) (product_scale r s))
        (λ scale. Ok (record { tree = Two Mul x.tree y.tree; quantity = quantity.Number scale })))) z h (λ r is rest.
        after (scale_of place y.quantity) (λ s. and_then (or_fault (fault.ScaleTooLarge place) (product_scale r s))
        (λ scale. Ok (record { tree = Two Mul x.tree y.tree; quantity = quantity.Number scale }))) z rest (λ s so more.
        after (or_fault (fault.ScaleTooLarge place) (product_scale r s))
        (λ scale. Ok (record { tree = Two Mul x.tree y.tree; quantity = quantity.Number scale })) z more (λ scale it done.
        made (Two Mul e f) (Two Mul x.tree y.tree) (quantity.Number scale) t z done (product g k) i
        (product_small r s scale (found (fault.ScaleTooLarge place) (product_scale r s) scale it)))))

    quotient_told : (e f : ExprTree) (x y z : ScaledTree) (t : ValueType) → type_of declared e ≡ Some (kind_of x.quantity)
        → Told e (kind_of x.quantity) x → Told f (kind_of y.quantity) y → value.Int ≡ t → quotient_of place x y ≡ Ok z → Told (Two Div e f) t z
    quotient_told e f x y z t typed g k i h =
        after (scale_of place x.quantity) (λ r. and_then (scale_of place y.quantity) (λ s.
        Ok (record { tree = Two Div (raised (dividend_factor r s) x.tree) y.tree; quantity = quantity.Number (quotient_scale r s) }))) z h (λ r is rest.
        after (scale_of place y.quantity) (λ s.
        Ok (record { tree = Two Div (raised (dividend_factor r s) x.tree) y.tree; quantity = quantity.Number (quotient_scale r s) })) z rest (λ s so done.
        let p = is_scale place x.quantity r is in
        let q = is_scale place y.quantity s so in
        let small : r < 9223372036854775808 = subst IsSmall p g.small in
        let few : s < 9223372036854775808 = subst IsSmall q k.small in
        let int : IsInt e = typed ∙ ap (λ u. Some (kind_of u)) p in
        made (Two Div e f) (Two Div (raised (dividend_factor r s) x.tree) y.tree) (quantity.Number (quotient_scale r s)) t z done
        (two Div refl (raised_beside (dividend_factor r s) e x.tree (factor_small r s few) int g.beside) (itself k.beside)) i (quotient_small r s small)))

    when_told : (e f : ExprTree) (x y z : ScaledTree) (t : ValueType) → Told e (kind_of x.quantity) x → Told f (kind_of y.quantity) y
        → kind_of x.quantity ≡ t
        → and_then (truth_of place y.quantity) (λ q. Ok (record { tree = Two When x.tree y.tree; quantity = x.quantity })) ≡ Ok z
        → Told (Two When e f) t z
    when_told e f x y z t g k i h =
        after (truth_of place y.quantity) (λ q. Ok (record { tree = Two When x.tree y.tree; quantity = x.quantity })) z h (λ q is done.
        made (Two When e f) (Two When x.tree y.tree) x.quantity t z done (two When refl (itself g.beside) (itself k.beside)) i g.small)

    two_told : (op : Op2) (d c : Option Decimal) (e f : ExprTree) (x y z : ScaledTree) (t : ValueType)
        → MayBeLiteral d e → MayBeLiteral c f → type_of declared e ≡ Some (kind_of x.quantity) → type_of declared f ≡ Some (kind_of y.quantity)
        → Told e (kind_of x.quantity) x → Told f (kind_of y.quantity) y → type_of_two op (kind_of x.quantity) (kind_of y.quantity) ≡ Some t
        → scaled_two place op d c x y ≡ Ok z → Told (Two op e f) t z
    two_told Mul d c e f x y z t p q i j g k typed h = product_told e f x y z t g.beside k.beside (given_as _ value.Int t typed) h
    two_told Div d c e f x y z t p q i j g k typed h = quotient_told e f x y z t i g k (given_as _ value.Int t typed) h
    two_told And d c e f x y z t p q i j g k typed h = truths_told And e f x y z t refl g.beside k.beside (given_as _ value.Bool t typed) h
    two_told Or d c e f x y z t p q i j g k typed h = truths_told Or e f x y z t refl g.beside k.beside (given_as _ value.Bool t typed) h
    two_told When d c e f x y z t p q i j g k typed h = when_told e f x y z t g k (given_as _ (kind_of x.quantity) t typed) h
    two_told op d c e f x y z t p q i j g k typed h = side_by_side op d c e f x y z t refl p q i j g k typed h

    if_told : (d c : Option Decimal) (b e f : ExprTree) (w x y z : ScaledTree) (t : ValueType)
        → MayBeLiteral d e → MayBeLiteral c f → type_of declared e ≡ Some (kind_of x.quantity) → type_of declared f ≡ Some (kind_of y.quantity)
        → Is false b w.tree → Told e (kind_of x.quantity) x → Told f (kind_of y.quantity) y
        → type_of_if (kind_of w.quantity) (kind_of x.quantity) (kind_of y.quantity) ≡ Some t
        → scaled_if place d c w x y ≡ Ok z → Told (If b e f) t z
    if_told d c b e f w x y z t p q i j m g k typed h =
        after (truth_of place w.quantity) (λ o. and_then (aligned place d c x y)
        (λ a. Ok (record { tree = If w.tree a.left a.right; quantity = a.quantity }))) z h (λ o is rest.
        after (aligned place d c x y) (λ a. Ok (record { tree = If w.tree a.left a.right; quantity = a.quantity })) z rest (λ a so done.
        let pair = aligned_beside d c e f x.tree x.quantity y.tree y.quantity a p q i j g.beside k.beside g.small k.small so in
        let kind = pair.first ∙ given_as (same_type (kind_of w.quantity) value.Bool && same_type (kind_of x.quantity) (kind_of y.quantity)) (kind_of x.quantity) t typed in
        made (If b e f) (If w.tree a.left a.right) a.quantity t z done (choice m pair.left pair.right) kind pair.small))

    one_told : (op : Op1) (e : ExprTree) (x z : ScaledTree) (t : ValueType) → Told e (kind_of x.quantity) x
        → type_of_one op (kind_of x.quantity) ≡ Some t → scaled_one place op x ≡ Ok z → Told (One op e) t z
    one_told Neg e x z t g typed h =
        after (numbers_of place x.quantity) (λ q. Ok (record { tree = One Neg x.tree; quantity = q })) z h (λ q is done.
        let n = is_number place x.quantity q is in
        let kind = ap kind_of (sym n.1) ∙ n.0 ∙ given_as (same_type (kind_of x.quantity) value.Int) value.Int t typed in
        made (One Neg e) (One Neg x.tree) q t z done (one g.beside) kind (subst IsSmall n.1 g.small))
    one_told Not e x z t g typed h =
        after (truth_of place x.quantity) (λ q. Ok (record { tree = One Not x.tree; quantity = q })) z h (λ q is done.
        let n = is_truth_value place x.quantity q is in
        let kind = ap kind_of n.1 ∙ given_as (same_type (kind_of x.quantity) value.Bool) value.Bool t typed in
        made (One Not e) (One Not x.tree) q t z done (one g.beside) kind (subst IsSmall (sym n.1) tt))
    one_told IsNull e x z t g typed h = made (One IsNull e) (One IsNull x.tree) quantity.Truth t z h (one g.beside) (cc typed) tt

    reducer_kind : (r : Reducer) (p q : Quantity) (t : ValueType) → IsSmall p → quantity_of_reducer place r p ≡ Ok q → type_of_reducer r (kind_of p) ≡ Some t
        → (kind_of q ≡ t) × IsSmall q
    reducer_kind reducer.Sum p q t s h typed = let n = is_number place p q h in (ap kind_of (sym n.1) ∙ n.0 ∙ given_as _ value.Int t typed, subst IsSmall n.1 s)
    reducer_kind reducer.Avg p q t s h typed = let n = is_number place p q h in (ap kind_of (sym n.1) ∙ n.0 ∙ given_as _ value.Int t typed, subst IsSmall n.1 s)
    reducer_kind reducer.Min p q t s h typed = let n = is_number place p q h in (ap kind_of (sym n.1) ∙ n.0 ∙ given_as _ value.Int t typed, subst IsSmall n.1 s)
    reducer_kind reducer.Max p q t s h typed = let n = is_number place p q h in (ap kind_of (sym n.1) ∙ n.0 ∙ given_as _ value.Int t typed, subst IsSmall n.1 s)
    reducer_kind reducer.Count p q t s h typed =
        let same : quantity.Number 1 ≡ q = cc h in
        (subst (λ u. kind_of u ≡ t) same (cc typed), subst IsSmall same (omega arith))
    reducer_kind reducer.First p q t s h typed =
        let same : p ≡ q = cc h in
        let type : kind_of p ≡ t = cc typed in
        (subst (λ u. kind_of u ≡ t) same type, subst IsSmall same s)
    reducer_kind reducer.Last p q t s h typed =
        let same : p ≡ q = cc h in
        let type : kind_of p ≡ t = cc typed in
        (subst (λ u. kind_of u ≡ t) same type, subst IsSmall same s)
    reducer_kind reducer.Any p q t s h typed = let n = is_truth_value place p q h in (ap kind_of n.1 ∙ given_as _ value.Bool t typed, subst IsSmall (sym n.1) tt)
    reducer_kind reducer.All p q t s h typed = let n = is_truth_value place p q h in (ap kind_of n.1 ∙ given_as _ value.Bool t typed, subst IsSmall (sym n.1) tt)

  -- the source that a name is
  source_is : (sources : List Quantity) (place : Place) (k : ℕ) (a : ValueType) (q : Quantity) → IsSource sources k a → quantity_at place sources k ≡ Ok q
      → (kind_of q ≡ a) × IsSmall q
  source_is sources place k a q s h =
      let there = found (fault.UnknownSource place) (slice_get sources k) q h in
      let same : s.quantity ≡ q = cc (s.at, there) in
      (subst (λ u. kind_of u ≡ a) same s.kind, subst IsSmall same s.small)

  told_kind : (e : ExprTree) (a : ValueType) (x : ScaledTree) → type_of declared e ≡ Some a → Told e a x
      → (type_of declared e ≡ Some (kind_of x.quantity)) × Told e (kind_of x.quantity) x
  told_kind e a x typed t = (typed ∙ ap (λ k. Some k) (sym t.kind), record { beside = t.beside; kind = refl; small = t.small })

  may_be : (numbers : List Written) → HaveFew numbers → (e : ExprTree) → MayBeLiteral (literal_of (in_units names numbers e)) (with_numbers numbers e)
  may_be numbers few (Leaf (Num place)) = record {
    given = λ l h.
        let digits = digits_at numbers place in
        let made = smallest_is digits (decimals_of (number_at numbers place)) (few.few place) in
        let same : smallest digits (decimals_of (number_at numbers place)) ≡ l = cc h in
        record { number = digits; is = refl; positive = λ i. subst (λ (d : Decimal). pos 0 ≤ℤ d.number) same (made.positive i.0) };
  }
  may_be numbers few (Leaf (Truth holds)) = not_literal _
  may_be numbers few (Leaf (Read x d)) = not_literal _
  may_be numbers few (Leaf (Reduce r x l k)) = not_literal _
  may_be numbers few (One op a) = not_literal _
  may_be numbers few (Two op a b) = not_literal _
  may_be numbers few (If c a b) = not_literal _

  module _ (sources : List Quantity) (numbers : List Written) (kinds : HaveKinds names declared sources) (few : HaveFew numbers) where
    abbrev units : ExprTree → UnitTree
    units e = in_units names numbers e

    abbrev digits : ExprTree → ExprTree
    digits e = with_numbers numbers e

    -- an expression over whole numbers is beside the query's
    pub scaled_told : (place : Place) (e : ExprTree) (t : ValueType) (z : ScaledTree) → type_of declared (digits e) ≡ Some t
        → scaled sources place (units e) ≡ Ok z → Told (digits e) t z
    scaled_told place (Leaf (Num n)) t z typed h =
        let value = digits_at numbers n in
        let l = smallest_is value (decimals_of (number_at numbers n)) (few.few n) in
        let d = smallest value (decimals_of (number_at numbers n)) in
        let fits : IsNumber value → IsNumber d.number = λ i. (l.positive i.0, omega (arith, ints, l.below i.0, i.1)) in
        made (Leaf (Num value)) (Leaf (Const d.number)) (quantity.Number d.scale) t z h (literal fits) (cc typed) l.small
    scaled_told place (Leaf (Truth holds)) t z typed h =
        made (Leaf (Truth holds)) (Leaf (Const (number_of holds))) quantity.Truth t z h truth (cc typed) tt
    scaled_told place (Leaf (Read x d)) t z typed h =
        after (quantity_at place sources (place_of names x)) (λ q. Ok (record { tree = Leaf (CoreRead (place_of names x) (digits_at numbers d)); quantity = q })) z h
        (λ q is done.
        let known = source_is sources place (place_of names x) t q (kinds.each x t typed) is in
        made (Leaf (Read x (digits_at numbers d))) (Leaf (CoreRead (place_of names x) (digits_at numbers d))) q t z done reading known.0 known.1)
    scaled_told place (Leaf (Reduce r x l k)) t z typed h =
        let from = digits_at numbers l in
        let to = digits_at numbers k in
        some_type (type_declared declared x) (λ a. type_of_reducer r a) t typed (λ a there type.
        after (quantity_at place sources (place_of names x)) (λ p. and_then (quantity_of_reducer place r p)
        (λ q. Ok (record { tree = Leaf (CoreReduce r (place_of names x) from to); quantity = q }))) z h (λ p is rest.
        after (quantity_of_reducer place r p) (λ q. Ok (record { tree = Leaf (CoreReduce r (place_of names x) from to); quantity = q })) z rest (λ q so done.
        let known = source_is sources place (place_of names x) a p (kinds.each x a there) is in
        let kind = reducer_kind place r p q t known.1 so (ap (λ u. type_of_reducer r u) known.0 ∙ type) in
        made (Leaf (Reduce r x from to)) (Leaf (CoreReduce r (place_of names x) from to)) q t z done window kind.0 kind.1)))
    scaled_told place (One op a) t z typed h =
        some_type (type_of declared (digits a)) (λ u. type_of_one op u) t typed (λ r is type.
        after (scaled sources (later place 1) (units a)) (λ x. scaled_one place op x) z h (λ x so rest.
        let g = scaled_told (later place 1) a r x is so in
        let p = told_kind (digits a) r x is g in
        one_told place op (digits a) x z t p.1 (ap (λ u. type_of_one op u) g.kind ∙ type) rest))
    scaled_told place (Two op a b) t z typed h =
        some_type (type_of declared (digits a)) (λ u. option_and_then (λ v. type_of_two op u v) (type_of declared (digits b))) t typed (λ r is rest.
        some_type (type_of declared (digits b)) (λ v. type_of_two op r v) t rest (λ s so type.
        after (scaled sources (later place 1) (units a)) (λ x. and_then (scaled sources (later place (1 + nodes (units a))) (units b))
        (λ y. scaled_two place op (literal_of (units a)) (literal_of (units b)) x y)) z h (λ x it more.
        after (scaled sources (later place (1 + nodes (units a))) (units b))
        (λ y. scaled_two place op (literal_of (units a)) (literal_of (units b)) x y) z more (λ y there done.
        let g = scaled_told (later place 1) a r x is it in
        let k = scaled_told (later place (1 + nodes (units a))) b s y so there in
        let p = told_kind (digits a) r x is g in
        let q = told_kind (digits b) s y so k in
        two_told place op (literal_of (units a)) (literal_of (units b)) (digits a) (digits b) x y z t (may_be numbers few a) (may_be numbers few b) p.0 q.0 p.1 q.1
        ((λ v. type_of_two op (g.kind v) (k.kind v)) ∙ type) done))))
    scaled_told place (If c a b) t z typed h =
        some_type (type_of declared (digits c))
        (λ o. option_and_then (λ u. option_and_then (λ v. type_of_if o u v) (type_of declared (digits b))) (type_of declared (digits a))) t typed (λ o at rest.
        some_type (type_of declared (digits a)) (λ u. option_and_then (λ v. type_of_if o u v) (type_of declared (digits b))) t rest (λ r is more.
        some_type (type_of declared (digits b)) (λ v. type_of_if o r v) t more (λ s so type.
        after (scaled sources (later place 1) (units c)) (λ w. and_then (scaled sources (later place (1 + nodes (units c))) (units a))
        (λ x. and_then (scaled sources (later place (1 + nodes (units c) + nodes (units a))) (units b))
        (λ y. scaled_if place (literal_of (units a)) (literal_of (units b)) w x y))) z h (λ w first next.
        after (scaled sources (later place (1 + nodes (units c))) (units a))
        (λ x. and_then (scaled sources (later place (1 + nodes (units c) + nodes (units a))) (units b))
        (λ y. scaled_if place (literal_of (units a)) (literal_of (units b)) w x y)) z next (λ x second last.
        after (scaled sources (later place (1 + nodes (units c) + nodes (units a))) (units b))
        (λ y. scaled_if place (literal_of (units a)) (literal_of (units b)) w x y) z last (λ y third done.
        let f = scaled_told (later place 1) c o w at first in
        let g = scaled_told (later place (1 + nodes (units c))) a r x is second in
        let k = scaled_told (later place (1 + nodes (units c) + nodes (units a))) b s y so third in
        let p = told_kind (digits a) r x is g in
        let q = told_kind (digits b) s y so k in
        if_told place (literal_of (units a)) (literal_of (units b)) (digits c) (digits a) (digits b) w x y z t (may_be numbers few a) (may_be numbers few b)
        p.0 q.0 f.beside p.1 q.1 ((λ v. type_of_if (f.kind v) (g.kind v) (k.kind v)) ∙ type) done))))))
