-- Operands that are brought to one scale represent the same fractions.
use Rattle.std.proofs.Common.{◌≡◌, ℕ, ◌*◌, ◌/◌, ◌%◌, ◌==◌, ◌<◌, ◌^◌, ℤ, pos, negsuc, ◌*ℤ◌, ◌≤ℤ◌, Bool, true, false, if◌then◌else◌, List, Option, Some, None, Result, Ok, Err, int_div, int_rem, refl, sym, ap, ◌∙◌, subst, arith, nat_lt}
use Rattle.std.specs.Ordering.{int_eq}
use Rattle.std.proofs.Math.Nat.{div_self}
use Rattle.std.proofs.lemmas.Bool.Decides.{nat_tests}
use Rattle.std.proofs.lemmas.Int.{ints, quot-rem}
use Rattle.tilt_base.specs.Expression.{Leaf, Two}
use Rattle.tilt_base.specs.Number.{within_64_bits}
use Rattle.tilt_base.specs.declared.operator.Op2.TheVariants.{Mul}
use Rattle.tilt_core.specs.CoreTree.{CoreTree, Const}
use Rattle.tilt_core.specs.Meaning.{body_of}
use Rattle.tilt_fractions.specs.Exact.{CellStandsFor, wide2}
use Rattle.tilt_fractions.specs.Fraction.{Fraction, StandsFor, parts}
use Rattle.tilt_fractions.proofs.Pairs.{raised_cells_stand}
use Rattle.tilt_stream.specs.Stream.{Stream}
use Rattle.tilt_units.specs.Exact.{scale_in}
use Rattle.tilt_units.specs.Law.{Chosen, StaysWithin}
use Rattle.tilt_units.specs.Scale.{common_scale}
use Rattle.tilt_units.specs.Scaling.{AlignedTrees, and_then, exact_quotient, literal_at, or_fault, raised}
use Rattle.tilt_units.specs.declared.decimal.Decimal.{Decimal}
use Rattle.tilt_units.specs.declared.fault.ScaleFault.{ScaleFault}
use Rattle.tilt_units.specs.declared.fault.ScaleFault.TheVariants as fault
use Rattle.tilt_units.specs.declared.place.Place.{Place}
use Rattle.tilt_units.specs.declared.quantity.Quantity.{Quantity}
use Rattle.tilt_units.specs.declared.quantity.Quantity.TheVariants as quantity

-- a tick, and the sources that are read there
pub record Moment : Type 0 where
  pub chosen : Chosen
  pub sources : List Stream
  pub tick : ℤ

abbrev pub Within : Moment → CoreTree → Type 0
Within now tree = StaysWithin now.chosen now.sources now.tick tree

abbrev pub cell_of : Moment → CoreTree → Option ℤ
cell_of now tree = (body_of now.sources tree).cell now.tick

-- a whole expression at a scale that represents an exact cell
pub record Kept (now : Moment) (tree : CoreTree) (q : Quantity) (p : Option Fraction) : Type 0 where
  pub positive : pos 1 ≤ℤ pos (scale_in q)
  pub stands : Within now tree → CellStandsFor (scale_in q) (cell_of now tree) p

pub record KeptPair (now : Moment) (a : AlignedTrees) (p q : Option Fraction) : Type 0 where
  pub left : Kept now a.left a.quantity p
  pub right : Kept now a.right a.quantity q

-- what is known of an operand that may be a literal
pub record MayBeLiteral (d : Option Decimal) (p : Option Fraction) : Type 0 where
  pub given : (decimal : Decimal) → d ≡ Some decimal → (p ≡ Some (parts decimal.number decimal.scale)) × (pos 1 ≤ℤ pos decimal.scale)

pub after : {A B : Type 0} {P : Type 0} (r : Result A ScaleFault) (next : A → Result B ScaleFault) (b : B) → and_then r next ≡ Ok b
    → ((a : A) → r ≡ Ok a → next a ≡ Ok b → P) → P
after (Ok a) next b h go = go a refl h
after (Err f) next b h go = absurd (cc h)

pub found : {A : Type 0} (f : ScaleFault) (o : Option A) (a : A) → or_fault f o ≡ Ok a → o ≡ Some a
found f None a h = absurd (cc h)
found f (Some b) a h = cc h

within_by : (holds : Bool) (n m : ℤ) → (if holds then Some n else None) ≡ Some m → n ≡ m
within_by true n m h = cc h
within_by false n m h = absurd (cc h)

within_is : (n m : ℤ) → within_64_bits n ≡ Some m → n ≡ m
within_is (pos n) m h = within_by (nat_lt n (2 ^ 63)) (pos n) m h
within_is (negsuc n) m h = within_by (nat_lt n (2 ^ 63)) (negsuc n) m h

whole_cases : (is : Bool) (r z n : ℤ) → int_eq r (pos 0) ≡ is → (if is then Some z else None) ≡ Some n → (r ≡ pos 0) × (z ≡ n)
whole_cases true r z n e h = (grind (arith, ints), cc h)
whole_cases false r z n e h = absurd (cc h)

whole_by : (r z n : ℤ) → (if int_eq r (pos 0) then Some z else None) ≡ Some n → (r ≡ pos 0) × (z ≡ n)
whole_by r z n h = whole_cases (int_eq r (pos 0)) r z n refl h

exact_is : (a b n : ℤ) → exact_quotient a b ≡ Some n → a ≡ n *ℤ b
exact_is a b n h =
    let f = whole_by (int_rem a b) (int_div a b) n h in
    let g = quot-rem a b in
    let i = ap (λ z. z *ℤ b) f.1 in
    let j = f.0 in
    omega (arith, ints)

-- a literal at a scale represents what it represents
literal_stands : (place : Place) (d : Decimal) (s : ℕ) (n : ℤ) → pos 1 ≤ℤ pos d.scale → literal_at place d s ≡ Ok n
    → StandsFor s n (parts d.number d.scale)
literal_stands place d s n h e =
    after (or_fault (fault.LiteralNotWhole place) (exact_quotient (d.number *ℤ pos s) (pos d.scale)))
    (λ m. or_fault (fault.LiteralTooLarge place) (within_64_bits m)) n e
    (λ m is fits. record {
      under = h;
      same = exact_is (d.number *ℤ pos s) (pos d.scale) m (found (fault.LiteralNotWhole place) (exact_quotient (d.number *ℤ pos s) (pos d.scale)) m is)
          ∙ ap (λ z. z *ℤ pos d.scale) (within_is m n (found (fault.LiteralTooLarge place) (within_64_bits m) n fits));
    })

pub literal_kept : (now : Moment) (place : Place) (d : Decimal) (s : ℕ) (n : ℤ) (p : Option Fraction)
    → pos 1 ≤ℤ pos s → MayBeLiteral (Some d) p → literal_at place d s ≡ Ok n
    → Kept now (Leaf (Const n)) (quantity.Number s) p
literal_kept now place d s n p h l e = record {
  positive = h;
  stands = λ _. subst (λ r. CellStandsFor s (Some n) r) (sym (l.given d refl).0) (literal_stands place d s n (l.given d refl).1 e);
}

raised_by : (is : Bool) (now : Moment) (k s : ℕ) (tree : CoreTree) (p : Option Fraction) → (k == 1) ≡ is
    → (Within now tree → CellStandsFor s (cell_of now tree) p)
    → Within now (if is then tree else Two Mul (Leaf (Const (pos k))) tree)
    → CellStandsFor (k * s) (cell_of now (if is then tree else Two Mul (Leaf (Const (pos k))) tree)) p
raised_by true now k s tree p e f stays =
    let same : s ≡ k * s = (let one : k ≡ 1 = grind (arith, nat_tests) in rw one (omega arith)) in
    subst (λ z. CellStandsFor z (cell_of now tree) p) same (f stays)
raised_by false now k s tree p e f stays =
    subst (λ c. CellStandsFor (k * s) c p) (sym stays.2)
    (raised_cells_stand s k (cell_of now tree) p (f stays.1))

pub raised_kept : (now : Moment) (k s t : ℕ) (tree : CoreTree) (p : Option Fraction) → k * s ≡ t
    → pos 1 ≤ℤ pos t → Kept now tree (quantity.Number s) p → Kept now (raised k tree) (quantity.Number t) p
raised_kept now k s t tree p e h f = record {
  positive = h;
  stands = λ stays. subst (λ z. CellStandsFor z (cell_of now (raised k tree)) p) e (raised_by (k == 1) now k s tree p refl f.stands stays);
}

-- the scale that both are brought to is a multiple of both
pub record IsCommon (s t common : ℕ) : Type 0 where
  pub left : common / s * s ≡ common
  pub right : common / t * t ≡ common
  pub positive : pos 1 ≤ℤ pos common

self_times : (s : ℕ) → 0 < s → s / s * s ≡ s
self_times s h = ap (λ z. z * s) (div_self h) ∙ omega arith

common_by : (first second : Bool) (s t common : ℕ) → 0 < s → 0 < t → (t % s == 0) ≡ first → (s % t == 0) ≡ second
    → (if first then Some t else if second then Some s else None) ≡ Some common → IsCommon s t common
common_by true second s t common h g e f i =
    let z : t % s ≡ 0 = grind (arith, nat_tests) in
    subst (λ c. IsCommon s t c) (cc i) (record { left = omega arith; right = self_times t g; positive = omega (arith, ints) })
common_by false true s t common h g e f i =
    let z : s % t ≡ 0 = grind (arith, nat_tests) in
    subst (λ c. IsCommon s t c) (cc i) (record { left = self_times s h; right = omega arith; positive = omega (arith, ints) })
common_by false false s t common h g e f i = absurd (cc i)

pub common_is : (s t common : ℕ) → 0 < s → 0 < t → common_scale s t ≡ Some common → IsCommon s t common
common_is s t common h g e = common_by (t % s == 0) (s % t == 0) s t common h g refl refl e
