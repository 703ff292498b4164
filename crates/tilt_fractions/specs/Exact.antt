-- The scalar operators on exact cells: null or a fraction. A truth value is 1 or 0, and any number but 0 is true.
use Rattle.std.specs.Prelude.{ℕ, ℤ, pos, neg_ℤ, ◌+ℤ◌, ◌-ℤ◌, ◌*ℤ◌, Bool, true, false, not, ◌&&◌, ◌||◌, if◌then◌else◌, Option, Some, None, option_map}
use Rattle.std.specs.Prelude.{option_and_then, int_div, ⊤}
use Rattle.std.specs.Ordering.{int_eq}
use Rattle.tilt_base.specs.declared.operator.Op1.{Op1}
use Rattle.tilt_base.specs.declared.operator.Op1.TheVariants.{Neg, Not, IsNull}
use Rattle.tilt_base.specs.declared.operator.Op2.{Op2}
use Rattle.tilt_base.specs.declared.operator.Op2.TheVariants.{Add, Sub, Mul, Div, Rem, Eq, Ne, Lt, Le, Gt, Ge, And, Or, When, IfNull}
use Rattle.tilt_base.specs.Scalar.{apply1, apply2, of_both}
use Rattle.tilt_fractions.specs.Fraction.{Fraction, StandsFor, parts, negated, sum, difference, product, quotient_in, remainder, is_less, is_equal, is_zero}

-- 1 where a test holds, else 0
abbrev pub truth_value : Bool → Fraction
truth_value holds = parts (if holds then pos 1 else pos 0) 1

abbrev pub exact_truth : Bool → Option Fraction
exact_truth holds = Some (truth_value holds)

-- what an operator on two fractions gives: null where one of them is null
abbrev pub of_fractions : (Fraction → Fraction → Option Fraction) → Option Fraction → Option Fraction → Option Fraction
of_fractions f a b = option_and_then (λ p. option_and_then (λ q. f p q) b) a

abbrev pub exact_if_null : Option Fraction → Option Fraction → Option Fraction
exact_if_null None other = other
exact_if_null (Some p) other = Some p

abbrev pub exact_when : Option Fraction → Option Fraction → Option Fraction
exact_when None cell = None
exact_when (Some c) cell = if is_zero c then None else cell

-- the operators on one cell
abbrev pub exact1 : Op1 → Option Fraction → Option Fraction
exact1 Neg a = option_map negated a
exact1 Not None = None
exact1 Not (Some p) = exact_truth (is_zero p)
exact1 IsNull None = exact_truth true
exact1 IsNull (Some p) = exact_truth false

-- the operators on two cells; a quotient is truncated toward zero to whole parts at a scale
abbrev pub exact2 : ℕ → Op2 → Option Fraction → Option Fraction → Option Fraction
exact2 scale Add a b = of_fractions (λ p q. Some (sum p q)) a b
exact2 scale Sub a b = of_fractions (λ p q. Some (difference p q)) a b
exact2 scale Mul a b = of_fractions (λ p q. Some (product p q)) a b
exact2 scale Div a b = of_fractions (λ p q. if is_zero q then None else Some (quotient_in scale p q)) a b
exact2 scale Rem a b = of_fractions (λ p q. if is_zero q then None else Some (remainder p q)) a b
exact2 scale Eq a b = of_fractions (λ p q. exact_truth (is_equal p q)) a b
exact2 scale Ne a b = of_fractions (λ p q. exact_truth (not (is_equal p q))) a b
exact2 scale Lt a b = of_fractions (λ p q. exact_truth (is_less p q)) a b
exact2 scale Le a b = of_fractions (λ p q. exact_truth (not (is_less q p))) a b
exact2 scale Gt a b = of_fractions (λ p q. exact_truth (is_less q p)) a b
exact2 scale Ge a b = of_fractions (λ p q. exact_truth (not (is_less p q))) a b
exact2 scale And a b = of_fractions (λ p q. exact_truth (not (is_zero p) && not (is_zero q))) a b
exact2 scale Or a b = of_fractions (λ p q. exact_truth (not (is_zero p) || not (is_zero q))) a b
exact2 scale When a c = exact_when c a
exact2 scale IfNull a b = exact_if_null a b

-- `if c then a else b`: the branch that isn't chosen isn't looked at
abbrev pub exact_choose : Option Fraction → Option Fraction → Option Fraction → Option Fraction
exact_choose None a b = None
exact_choose (Some c) a b = if is_zero c then b else a

-- the operators on whole numbers of any size
abbrev pub wide1 : Op1 → Option ℤ → Option ℤ
wide1 Neg a = option_map neg_ℤ a
wide1 Not a = apply1 Not a
wide1 IsNull a = apply1 IsNull a

abbrev pub wide2 : Op2 → Option ℤ → Option ℤ → Option ℤ
wide2 Add a b = of_both (λ x y. Some (x +ℤ y)) a b
wide2 Sub a b = of_both (λ x y. Some (x -ℤ y)) a b
wide2 Mul a b = of_both (λ x y. Some (x *ℤ y)) a b
wide2 Div a b = of_both (λ x y. if int_eq y (pos 0) then None else Some (int_div x y)) a b
wide2 op a b = apply2 op a b

-- a cell of whole numbers stands for an exact cell: both are null, or the number stands for the fraction
abbrev pub CellStandsFor : ℕ → Option ℤ → Option Fraction → Type 0
CellStandsFor scale None None = ⊤
CellStandsFor scale (Some n) (Some p) = StandsFor scale n p
CellStandsFor scale None (Some p) = ⊥
CellStandsFor scale (Some n) None = ⊥

-- the scale of what an operator gives on one operand, or on two at one scale
abbrev pub scale1 : Op1 → ℕ → ℕ
scale1 Neg scale = scale
scale1 Not scale = 1
scale1 IsNull scale = 1

abbrev pub scale2 : Op2 → ℕ → ℕ
scale2 Add scale = scale
scale2 Sub scale = scale
scale2 Rem scale = scale
scale2 When scale = scale
scale2 IfNull scale = scale
scale2 Mul scale = scale
scale2 Div scale = scale
scale2 op scale = 1

-- whether an operator needs its operands at one scale, if they are numbers
abbrev pub needs_one_scale : Op2 → Bool
needs_one_scale Mul = false
needs_one_scale Div = false
needs_one_scale When = false
needs_one_scale op = true
