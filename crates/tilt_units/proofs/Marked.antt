-- A translated expression has the marks of the exact one.
use Rattle.std.proofs.Common.{◌≡◌, ℕ, zero, suc, ◌+◌, ◌/◌, ◌==◌, ℤ, pos, ◌+ℤ◌, ◌-ℤ◌, Bool, true, false, ◌||◌, ◌&&◌, if◌then◌else◌, List, Option, Some, None, Result, Ok, unsigned_abs, refl, sym, ap, ◌∙◌, subst}
use Rattle.std.specs.Ordering.{int_eq}
use Rattle.tilt_base.specs.Expression.{Leaf, One, Two, If}
use Rattle.tilt_base.specs.Grid.{GridPoints, is_point}
use Rattle.tilt_base.specs.declared.operator.Op1.{Op1}
use Rattle.tilt_base.specs.declared.operator.Op2.{Op2}
use Rattle.tilt_base.specs.declared.operator.Op2.TheVariants.{Add, Sub, Mul, Div, Rem, Eq, Ne, Lt, Le, Gt, Ge, And, Or, When, IfNull}
use Rattle.tilt_base.specs.declared.span.Span.{Span}
use Rattle.tilt_core.specs.CoreTree.{CoreTree, Const, Read as CoreRead, Reduce as CoreReduce, nodes}
use Rattle.tilt_core.specs.Meaning.{body_of, within}
use Rattle.tilt_stream.specs.Domain.{lies_in, on_grid, some_mark}
use Rattle.tilt_stream.specs.Stream.{Stream}
use Rattle.tilt_units.proofs.Kept.{after}
use Rattle.tilt_units.specs.DecimalTree.{UnitTree, Literal, Truth, Read, Reduce, literal_of}
use Rattle.tilt_units.specs.Exact.{ExactSource, exact_body, quantities_of}
use Rattle.tilt_units.specs.Law.{Chosen, SourcesStand}
use Rattle.tilt_units.specs.Scale.{common_scale, dividend_factor, product_scale, quotient_scale}
use Rattle.tilt_units.specs.Scaling.{AlignedTrees, ScaledTree, aligned, aligned_by, aligned_numbers, and_then, compared_numbers, in_common, joined_numbers, joined_truths, later, literal_at, numbers_of, or_fault, product_of, quantity_at, quantity_of_one, quantity_of_reducer, quotient_of, raised, scale_of, scaled, scaled_aligned, scaled_if, scaled_one, scaled_two, truth_of}
use Rattle.tilt_units.specs.declared.decimal.Decimal.{Decimal}
use Rattle.tilt_units.specs.declared.fault.ScaleFault.{ScaleFault}
use Rattle.tilt_units.specs.declared.fault.ScaleFault.TheVariants as fault
use Rattle.tilt_units.specs.declared.place.Place.{Place}
use Rattle.tilt_units.specs.declared.quantity.Quantity.{Quantity}
use Rattle.tilt_units.specs.declared.quantity.Quantity.TheVariants as quantity

-- a literal has no mark
pub record LacksMark (d : Option Decimal) (mark : Bool) : Type 0 where
  pub given : (decimal : Decimal) → d ≡ Some decimal → mark ≡ false

-- what was translated, as the tree that was made
tree_told : (P : CoreTree → Type 0) (t : CoreTree) (q : Quantity) (z : ScaledTree)
    → ◌≡◌ {A = Result ScaledTree ScaleFault} (Ok (record { tree = t; quantity = q })) (Ok z) → P t → P z.tree
tree_told P t q z h k =
    let w : ScaledTree = record { tree = t; quantity = q } in
    let e : w ≡ z = cc h in
    subst (λ x. P x.tree) e k

-- the same of two trees
pair_told : (P : CoreTree → CoreTree → Type 0) (l r : CoreTree) (q : Quantity) (a : AlignedTrees)
    → ◌≡◌ {A = Result AlignedTrees ScaleFault} (Ok (record { left = l; right = r; quantity = q })) (Ok a) → P l r → P a.left a.right
pair_told P l r q a h k =
    let w : AlignedTrees = record { left = l; right = r; quantity = q } in
    let e : w ≡ a = cc h in
    subst (λ b. P b.left b.right) e k

or_is : (a b m n : Bool) → a ≡ m → b ≡ n → (a || b) ≡ (m || n)
or_is a b m n e f = λ i. e i || f i

-- at one tick
module _ (xs : List Stream) (tick : ℤ) where
  abbrev mark_of : CoreTree → Bool
  mark_of t = (body_of xs t).mark tick

  abbrev PairMarked : AlignedTrees → Bool → Bool → Type 0
  PairMarked a m n = (mark_of a.left ≡ m) × (mark_of a.right ≡ n)

  pair_marked : (l r : CoreTree) (q : Quantity) (a : AlignedTrees) (m n : Bool)
      → ◌≡◌ {A = Result AlignedTrees ScaleFault} (Ok (record { left = l; right = r; quantity = q })) (Ok a)
      → mark_of l ≡ m → mark_of r ≡ n → PairMarked a m n
  pair_marked l r q a m n h f g = pair_told (λ t o. (mark_of t ≡ m) × (mark_of o ≡ n)) l r q a h (f, g)

  raised_by : (is : Bool) (k : ℕ) (t : CoreTree) → mark_of (if is then t else Two Mul (Leaf (Const (pos k))) t) ≡ mark_of t
  raised_by true k t = refl
  raised_by false k t = refl

  raised_marked : (k : ℕ) (t : CoreTree) → mark_of (raised k t) ≡ mark_of t
  raised_marked k t = raised_by (k == 1) k t

  common_marked : (place : Place) (x : CoreTree) (s : ℕ) (y : CoreTree) (t : ℕ) (a : AlignedTrees) (m n : Bool) → mark_of x ≡ m → mark_of y ≡ n
      → in_common place x s y t ≡ Ok a → PairMarked a m n
  common_marked place x s y t a m n f g h =
      after (or_fault (fault.ScalesDiffer place) (common_scale s t))
      (λ common. Ok (record { left = raised (common / s) x; right = raised (common / t) y; quantity = quantity.Number common })) a h (λ common is done.
      pair_marked (raised (common / s) x) (raised (common / t) y) (quantity.Number common) a m n done
      (raised_marked (common / s) x ∙ f) (raised_marked (common / t) y ∙ g))

  numbers_marked : (place : Place) (d e : Option Decimal) (x : CoreTree) (s : ℕ) (y : CoreTree) (t : ℕ) (a : AlignedTrees) (m n : Bool)
      → LacksMark d m → LacksMark e n → mark_of x ≡ m → mark_of y ≡ n → aligned_numbers place d e x s y t ≡ Ok a → PairMarked a m n
  numbers_marked place (Some d) None x s y t a m n k l f g h =
      after (literal_at place d t) (λ z. Ok (record { left = Leaf (Const z); right = y; quantity = quantity.Number t })) a h (λ z is done.
      pair_marked (Leaf (Const z)) y (quantity.Number t) a m n done (sym (k.given d refl)) g)
  numbers_marked place None (Some d) x s y t a m n k l f g h =
      after (literal_at place d s) (λ z. Ok (record { left = x; right = Leaf (Const z); quantity = quantity.Number s })) a h (λ z is done.
      pair_marked x (Leaf (Const z)) (quantity.Number s) a m n done f (sym (l.given d refl)))
  numbers_marked place None None x s y t a m n k l f g h = common_marked place x s y t a m n f g h
  numbers_marked place (Some d) (Some i) x s y t a m n k l f g h = common_marked place x s y t a m n f g h

  aligned_marked : (place : Place) (d e : Option Decimal) (x : CoreTree) (r : Quantity) (y : CoreTree) (o : Quantity) (a : AlignedTrees) (m n : Bool)
      → LacksMark d m → LacksMark e n → mark_of x ≡ m → mark_of y ≡ n → aligned_by place d e x r y o ≡ Ok a → PairMarked a m n
  aligned_marked place d e x quantity.Truth y quantity.Truth a m n k l f g h = pair_marked x y quantity.Truth a m n h f g
  aligned_marked place d e x (quantity.Number s) y (quantity.Number t) a m n k l f g h = numbers_marked place d e x s y t a m n k l f g h
  aligned_marked place d e x quantity.Truth y (quantity.Number t) a m n k l f g h = absurd (cc h)
  aligned_marked place d e x (quantity.Number s) y quantity.Truth a m n k l f g h = absurd (cc h)

  -- an operator that was made has the marks of its operands
  made : (op : Op2) (x y : CoreTree) (q : Quantity) (z : ScaledTree) (m n : Bool) → mark_of x ≡ m → mark_of y ≡ n
      → ◌≡◌ {A = Result ScaledTree ScaleFault} (Ok (record { tree = Two op x y; quantity = q })) (Ok z) → mark_of z.tree ≡ (m || n)
  made op x y q z m n f g h = tree_told (λ t. mark_of t ≡ (m || n)) (Two op x y) q z h (or_is (mark_of x) (mark_of y) m n f g)

  joined_marked : (place : Place) (op : Op2) (a : AlignedTrees) (z : ScaledTree) (m n : Bool) → PairMarked a m n → joined_numbers place op a ≡ Ok z
      → mark_of z.tree ≡ (m || n)
  joined_marked place op a z m n f h =
      after (numbers_of place a.quantity) (λ q. Ok (record { tree = Two op a.left a.right; quantity = q })) z h (λ q is done.
      made op a.left a.right q z m n f.0 f.1 done)

  compared_marked : (place : Place) (op : Op2) (a : AlignedTrees) (z : ScaledTree) (m n : Bool) → PairMarked a m n → compared_numbers place op a ≡ Ok z
      → mark_of z.tree ≡ (m || n)
  compared_marked place op a z m n f h =
      after (scale_of place a.quantity) (λ s. Ok (record { tree = Two op a.left a.right; quantity = quantity.Truth })) z h (λ s is done.
      made op a.left a.right quantity.Truth z m n f.0 f.1 done)

  operator_marked : (place : Place) (op : Op2) (a : AlignedTrees) (z : ScaledTree) (m n : Bool) → PairMarked a m n → scaled_aligned place op a ≡ Ok z
      → mark_of z.tree ≡ (m || n)
  operator_marked place Add a z m n f h = joined_marked place Add a z m n f h
  operator_marked place Sub a z m n f h = joined_marked place Sub a z m n f h
  operator_marked place Rem a z m n f h = joined_marked place Rem a z m n f h
  operator_marked place Lt a z m n f h = compared_marked place Lt a z m n f h
  operator_marked place Le a z m n f h = compared_marked place Le a z m n f h
  operator_marked place Gt a z m n f h = compared_marked place Gt a z m n f h
  operator_marked place Ge a z m n f h = compared_marked place Ge a z m n f h
  operator_marked place IfNull a z m n f h = made IfNull a.left a.right a.quantity z m n f.0 f.1 h
  operator_marked place Eq a z m n f h = made Eq a.left a.right quantity.Truth z m n f.0 f.1 h
  operator_marked place Ne a z m n f h = made Ne a.left a.right quantity.Truth z m n f.0 f.1 h
  operator_marked place And a z m n f h = made And a.left a.right quantity.Truth z m n f.0 f.1 h
  operator_marked place Or a z m n f h = made Or a.left a.right quantity.Truth z m n f.0 f.1 h
  operator_marked place Mul a z m n f h = made Mul a.left a.right quantity.Truth z m n f.0 f.1 h
  operator_marked place Div a z m n f h = made Div a.left a.right quantity.Truth z m n f.0 f.1 h
  operator_marked place When a z m n f h = made When a.left a.right quantity.Truth z m n f.0 f.1 h

  aligning_marked : (place : Place) (op : Op2) (d e : Option Decimal) (x y z : ScaledTree) (m n : Bool) → LacksMark d m → LacksMark e n
      → mark_of x.tree ≡ m → mark_of y.tree ≡ n → and_then (aligned place d e x y) (λ a. scaled_aligned place op a) ≡ Ok z → mark_of z.tree ≡ (m || n)
  aligning_marked place op d e x y z m n k l f g h =
      after (aligned place d e x y) (λ a. scaled_aligned place op a) z h (λ a is done.
      operator_marked place op a z m n (aligned_marked place d e x.tree x.quantity y.tree y.quantity a m n k l f g is) done)

  product_marked : (place : Place) (x y z : ScaledTree) (m n : Bool) → mark_of x.tree ≡ m → mark_of y.tree ≡ n → product_of place x y ≡ Ok z
      → mark_of z.tree ≡ (m || n)
  product_marked place x y z m n f g h =
      after (scale_of place x.quantity) _ z h (λ s is_s more.
      after (scale_of place y.quantity) _ z more (λ t is_t rest.
      after (or_fault (fault.ScaleTooLarge place) (product_scale s t)) (λ u. Ok (record { tree = Two Mul x.tree y.tree; quantity = quantity.Number u })) z rest (λ u is done.
      made Mul x.tree y.tree (quantity.Number u) z m n f g done)))

  quotient_marked : (place : Place) (x y z : ScaledTree) (m n : Bool) → mark_of x.tree ≡ m → mark_of y.tree ≡ n → quotient_of place x y ≡ Ok z
      → mark_of z.tree ≡ (m || n)
  quotient_marked place x y z m n f g h =
      after (scale_of place x.quantity) _ z h (λ s is_s more.
      after (scale_of place y.quantity) (λ t. Ok (record { tree = Two Div (raised (dividend_factor s t) x.tree) y.tree; quantity = quantity.Number (quotient_scale s t) })) z more (λ t is_t done.
      made Div (raised (dividend_factor s t) x.tree) y.tree (quantity.Number (quotient_scale s t)) z m n (raised_marked (dividend_factor s t) x.tree ∙ f) g done))

  truths_marked : (place : Place) (op : Op2) (x y z : ScaledTree) (m n : Bool) → mark_of x.tree ≡ m → mark_of y.tree ≡ n → joined_truths place op x y ≡ Ok z
      → mark_of z.tree ≡ (m || n)
  truths_marked place op x y z m n f g h =
      after (truth_of place x.quantity) _ z h (λ r is_r more.
      after (truth_of place y.quantity) (λ o. Ok (record { tree = Two op x.tree y.tree; quantity = quantity.Truth })) z more (λ o is_o done.
      made op x.tree y.tree quantity.Truth z m n f g done))

  when_marked : (place : Place) (x y z : ScaledTree) (m n : Bool) → mark_of x.tree ≡ m → mark_of y.tree ≡ n
      → and_then (truth_of place y.quantity) (λ q. Ok (record { tree = Two When x.tree y.tree; quantity = x.quantity })) ≡ Ok z → mark_of z.tree ≡ (m || n)
  when_marked place x y z m n f g h =
      after (truth_of place y.quantity) (λ q. Ok (record { tree = Two When x.tree y.tree; quantity = x.quantity })) z h (λ q is done.
      made When x.tree y.tree x.quantity z m n f g done)

  two_marked : (place : Place) (op : Op2) (d e : Option Decimal) (x y z : ScaledTree) (m n : Bool) → LacksMark d m → LacksMark e n
      → mark_of x.tree ≡ m → mark_of y.tree ≡ n → scaled_two place op d e x y ≡ Ok z → mark_of z.tree ≡ (m || n)
  two_marked place Mul d e x y z m n k l f g h = product_marked place x y z m n f g h
  two_marked place Div d e x y z m n k l f g h = quotient_marked place x y z m n f g h
  two_marked place And d e x y z m n k l f g h = truths_marked place And x y z m n f g h
  two_marked place Or d e x y z m n k l f g h = truths_marked place Or x y z m n f g h
  two_marked place When d e x y z m n k l f g h = when_marked place x y z m n f g h
  two_marked place Add d e x y z m n k l f g h = aligning_marked place Add d e x y z m n k l f g h
  two_marked place Sub d e x y z m n k l f g h = aligning_marked place Sub d e x y z m n k l f g h
  two_marked place Rem d e x y z m n k l f g h = aligning_marked place Rem d e x y z m n k l f g h
  two_marked place Eq d e x y z m n k l f g h = aligning_marked place Eq d e x y z m n k l f g h
  two_marked place Ne d e x y z m n k l f g h = aligning_marked place Ne d e x y z m n k l f g h
  two_marked place Lt d e x y z m n k l f g h = aligning_marked place Lt d e x y z m n k l f g h
  two_marked place Le d e x y z m n k l f g h = aligning_marked place Le d e x y z m n k l f g h
  two_marked place Gt d e x y z m n k l f g h = aligning_marked place Gt d e x y z m n k l f g h
  two_marked place Ge d e x y z m n k l f g h = aligning_marked place Ge d e x y z m n k l f g h
  two_marked place IfNull d e x y z m n k l f g h = aligning_marked place IfNull d e x y z m n k l f g h

  if_marked : (place : Place) (d e : Option Decimal) (c x y z : ScaledTree) (o m n : Bool) → LacksMark d m → LacksMark e n
      → mark_of c.tree ≡ o → mark_of x.tree ≡ m → mark_of y.tree ≡ n → scaled_if place d e c x y ≡ Ok z → mark_of z.tree ≡ (o || m || n)
  if_marked place d e c x y z o m n k l i f g h =
      after (truth_of place c.quantity) _ z h (λ q is_q more.
      after (aligned place d e x y) (λ a. Ok (record { tree = If c.tree a.left a.right; quantity = a.quantity })) z more (λ a is done.
      let pair = aligned_marked place d e x.tree x.quantity y.tree y.quantity a m n k l f g is in
      tree_told (λ t. mark_of t ≡ (o || m || n)) (If c.tree a.left a.right) a.quantity z done (let left = pair.0 in let right = pair.1 in λ j. i j || left j || right j)))

  lacks_mark : (sources : List ExactSource) (place : Place) (e : UnitTree) → LacksMark (literal_of e) ((exact_body sources place e).mark tick)
  lacks_mark sources place (Leaf (Literal d)) = record { given = λ decimal same. refl }
  lacks_mark sources place (Leaf (Truth holds)) = record { given = λ decimal same. absurd (cc same) }
  lacks_mark sources place (Leaf (Read source offset)) = record { given = λ decimal same. absurd (cc same) }
  lacks_mark sources place (Leaf (Reduce r source from to)) = record { given = λ decimal same. absurd (cc same) }
  lacks_mark sources place (One op a) = record { given = λ decimal same. absurd (cc same) }
  lacks_mark sources place (Two op a b) = record { given = λ decimal same. absurd (cc same) }
  lacks_mark sources place (If c a b) = record { given = λ decimal same. absurd (cc same) }

  pub expression_marked : (chosen : Chosen) (sources : List ExactSource) → SourcesStand chosen xs sources → (place : Place) (e : UnitTree) (x : ScaledTree)
      → scaled (quantities_of sources) place e ≡ Ok x → (body_of xs x.tree).mark tick ≡ (exact_body sources place e).mark tick
  expression_marked chosen sources l place (Leaf (Literal d)) x h =
      tree_told (λ t. mark_of t ≡ false) (Leaf (Const d.number)) (quantity.Number d.scale) x h refl
  expression_marked chosen sources l place (Leaf (Truth holds)) x h =
      tree_told (λ t. mark_of t ≡ false) (Leaf (Const (if holds then pos 1 else pos 0))) quantity.Truth x h refl
  expression_marked chosen sources l place (Leaf (Read source offset)) x h =
      after (quantity_at place (quantities_of sources) source) (λ q. Ok (record { tree = Leaf (CoreRead source offset); quantity = q })) x h (λ q is done.
      tree_told (λ t. mark_of t ≡ (exact_body sources place (Leaf (Read source offset))).mark tick) (Leaf (CoreRead source offset)) q x done
      ((l source).marks (tick +ℤ offset)))
  expression_marked chosen sources l place (Leaf (Reduce r source from to)) x h =
      after (quantity_at place (quantities_of sources) source) _ x h (λ p is more.
      after (quantity_of_reducer place r p) (λ q. Ok (record { tree = Leaf (CoreReduce r source from to); quantity = q })) x more (λ q gives done.
      let last = (l source).marks (tick +ℤ to) in
      let first = (l source).marks (tick +ℤ from +ℤ pos 1) in
      tree_told (λ t. mark_of t ≡ (exact_body sources place (Leaf (Reduce r source from to))).mark tick) (Leaf (CoreReduce r source from to)) q x done
      (λ i. last i || first i)))
  expression_marked chosen sources l place (One op a) x h =
      after (scaled (quantities_of sources) (later place 1) a) (λ y. scaled_one place op y) x h (λ y is more.
      after (quantity_of_one place op y.quantity) (λ q. Ok (record { tree = One op y.tree; quantity = q })) x more (λ q gives done.
      tree_told (λ t. mark_of t ≡ (exact_body sources (later place 1) a).mark tick) (One op y.tree) q x done
      (expression_marked chosen sources l (later place 1) a y is)))
  expression_marked chosen sources l place (Two op a b) x h =
      after (scaled (quantities_of sources) (later place 1) a) _ x h (λ y is_y more.
      after (scaled (quantities_of sources) (later place (1 + nodes a)) b) (λ z. scaled_two place op (literal_of a) (literal_of b) y z) x more (λ z is_z done.
      two_marked place op (literal_of a) (literal_of b) y z x
      ((exact_body sources (later place 1) a).mark tick) ((exact_body sources (later place (1 + nodes a)) b).mark tick)
      (lacks_mark sources (later place 1) a) (lacks_mark sources (later place (1 + nodes a)) b)
      (expression_marked chosen sources l (later place 1) a y is_y) (expression_marked chosen sources l (later place (1 + nodes a)) b z is_z) done))
  expression_marked chosen sources l place (If c a b) x h =
      after (scaled (quantities_of sources) (later place 1) c) _ x h (λ w is_w next.
      after (scaled (quantities_of sources) (later place (1 + nodes c)) a) _ x next (λ y is_y more.
      after (scaled (quantities_of sources) (later place (1 + nodes c + nodes a)) b) (λ z. scaled_if place (literal_of a) (literal_of b) w y z) x more (λ z is_z done.
      if_marked place (literal_of a) (literal_of b) w y z x ((exact_body sources (later place 1) c).mark tick)
      ((exact_body sources (later place (1 + nodes c)) a).mark tick) ((exact_body sources (later place (1 + nodes c + nodes a)) b).mark tick)
      (lacks_mark sources (later place (1 + nodes c)) a) (lacks_mark sources (later place (1 + nodes c + nodes a)) b)
      (expression_marked chosen sources l (later place 1) c w is_w) (expression_marked chosen sources l (later place (1 + nodes c)) a y is_y)
      (expression_marked chosen sources l (later place (1 + nodes c + nodes a)) b z is_z) done)))

-- streams with the same marks, on a grid and within a span
module _ (x y : Stream) (same : (tick : ℤ) → x.mark tick ≡ y.mark tick) where
  some_marked : (tick : ℤ) (n : ℕ) → some_mark x tick n ≡ some_mark y tick n
  some_marked tick zero = refl
  some_marked tick (suc n) = let here = same (tick +ℤ pos 1) in let rest = some_marked (tick +ℤ pos 1) n in λ i. here i || rest i

  on_grid_marked : (grid : GridPoints) (tick : ℤ) → (on_grid grid x).mark tick ≡ (on_grid grid y).mark tick
  on_grid_marked grid tick = ap (λ b. is_point grid (tick -ℤ pos 1) && b) (some_marked (tick -ℤ pos 1) (unsigned_abs grid.period))

  pub taken_marked : (over : Option Span) (grid : GridPoints) (tick : ℤ) → (within over (on_grid grid x)).mark tick ≡ (within over (on_grid grid y)).mark tick
  taken_marked None grid tick = on_grid_marked grid tick
  taken_marked (Some span) grid tick =
      ap (λ b. int_eq tick (span.start +ℤ pos 1) || int_eq tick (span.end +ℤ pos 1) || (lies_in span.start span.end tick && b)) (on_grid_marked grid tick)
