-- A translated expression reads what the expression in units reads.
use Rattle.std.proofs.Common.{◌≡◌, ℕ, ◌+◌, ◌/◌, ◌==◌, ◌<◌, pos, ◌<ℤ◌, Bool, true, false, if◌then◌else◌, List, Option, Some, None, Result, Ok, subst}
use Rattle.tilt_base.specs.Expression.{Leaf, One, Two, If}
use Rattle.tilt_base.specs.declared.operator.Op2.{Op2}
use Rattle.tilt_base.specs.declared.operator.Op2.TheVariants.{Add, Sub, Mul, Div, Rem, Eq, Ne, Lt, Le, Gt, Ge, And, Or, When, IfNull}
use Rattle.tilt_core.specs.Core.{ReadsBelow}
use Rattle.tilt_core.specs.CoreTree.{CoreTree, Const, Read as CoreRead, Reduce as CoreReduce, nodes}
use Rattle.tilt_units.proofs.Kept.{after}
use Rattle.tilt_units.specs.DecimalTree.{UnitTree, Literal, Truth, Read, Reduce, literal_of}
use Rattle.tilt_units.specs.Scale.{common_scale, dividend_factor, product_scale, quotient_scale}
use Rattle.tilt_units.specs.Scaling.{AlignedTrees, ScaledTree, aligned, aligned_by, aligned_numbers, and_then, compared_numbers, in_common, joined_numbers, joined_truths, later, literal_at}
use Rattle.tilt_units.specs.Scaling.{numbers_of, or_fault, product_of, quantity_at, quantity_of_one, quantity_of_reducer, quotient_of, raised, scale_of, scaled, scaled_aligned, scaled_if}
use Rattle.tilt_units.specs.Scaling.{scaled_one, scaled_two, truth_of}
use Rattle.tilt_units.specs.declared.decimal.Decimal.{Decimal}
use Rattle.tilt_units.specs.declared.fault.ScaleFault.{ScaleFault}
use Rattle.tilt_units.specs.declared.fault.ScaleFault.TheVariants as fault
use Rattle.tilt_units.specs.declared.place.Place.{Place}
use Rattle.tilt_units.specs.declared.quantity.Quantity.{Quantity}
use Rattle.tilt_units.specs.declared.quantity.Quantity.TheVariants as quantity
use Rattle.std.specs.Bool.{⊤}

-- an expression in units reads only sources below a number, and each window ends after its start
abbrev pub UnitReadsBelow : ℕ → UnitTree → Type 0
UnitReadsBelow bound (Leaf (Literal d)) = ⊤
UnitReadsBelow bound (Leaf (Truth holds)) = ⊤
UnitReadsBelow bound (Leaf (Read source offset)) = source < bound
UnitReadsBelow bound (Leaf (Reduce r source from to)) = (source < bound) × (from <ℤ to)
UnitReadsBelow bound (One op a) = UnitReadsBelow bound a
UnitReadsBelow bound (Two op a b) = UnitReadsBelow bound a × UnitReadsBelow bound b
UnitReadsBelow bound (If c a b) = UnitReadsBelow bound c × UnitReadsBelow bound a × UnitReadsBelow bound b

-- what was translated, as the tree that was made
told : (P : CoreTree → Type 0) (t : CoreTree) (q : Quantity) (z : ScaledTree)
    → ◌≡◌ {A = Result ScaledTree ScaleFault} (Ok (record { tree = t; quantity = q })) (Ok z) → P t → P z.tree
told P t q z h k =
    let w : ScaledTree = record { tree = t; quantity = q } in
    let e : w ≡ z = cc h in
    subst (λ x. P x.tree) e k

module _ (bound : ℕ) where
  abbrev Below : CoreTree → Type 0
  Below t = ReadsBelow bound t

  abbrev Both : AlignedTrees → Type 0
  Both a = Below a.left × Below a.right

  pair_told : (l r : CoreTree) (q : Quantity) (a : AlignedTrees)
      → ◌≡◌ {A = Result AlignedTrees ScaleFault} (Ok (record { left = l; right = r; quantity = q })) (Ok a) → Below l → Below r → Both a
  pair_told l r q a h f g =
      let w : AlignedTrees = record { left = l; right = r; quantity = q } in
      let e : w ≡ a = cc h in
      subst (λ b. Both b) e (f, g)

  raised_by : (is : Bool) (k : ℕ) (t : CoreTree) → Below t → Below (if is then t else Two Mul (Leaf (Const (pos k))) t)
  raised_by true k t h = h
  raised_by false k t h = (tt, h)

  raised_below : (k : ℕ) (t : CoreTree) → Below t → Below (raised k t)
  raised_below k t h = raised_by (k == 1) k t h

  common_below : (place : Place) (x : CoreTree) (s : ℕ) (y : CoreTree) (t : ℕ) (a : AlignedTrees) → Below x → Below y
      → in_common place x s y t ≡ Ok a → Both a
  common_below place x s y t a f g h =
      after (or_fault (fault.ScalesDiffer place) (common_scale s t))
      (λ common. Ok (record { left = raised (common / s) x; right = raised (common / t) y; quantity = quantity.Number common })) a h (λ common is done.
      pair_told (raised (common / s) x) (raised (common / t) y) (quantity.Number common) a done
      (raised_below (common / s) x f) (raised_below (common / t) y g))

  numbers_below : (place : Place) (d e : Option Decimal) (x : CoreTree) (s : ℕ) (y : CoreTree) (t : ℕ) (a : AlignedTrees)
      → Below x → Below y → aligned_numbers place d e x s y t ≡ Ok a → Both a
  numbers_below place (Some d) None x s y t a f g h =
      after (literal_at place d t) (λ z. Ok (record { left = Leaf (Const z); right = y; quantity = quantity.Number t })) a h (λ z is done.
      pair_told (Leaf (Const z)) y (quantity.Number t) a done tt g)
  numbers_below place None (Some d) x s y t a f g h =
      after (literal_at place d s) (λ z. Ok (record { left = x; right = Leaf (Const z); quantity = quantity.Number s })) a h (λ z is done.
      pair_told x (Leaf (Const z)) (quantity.Number s) a done f tt)
  numbers_below place None None x s y t a f g h = common_below place x s y t a f g h
  numbers_below place (Some d) (Some i) x s y t a f g h = common_below place x s y t a f g h

  aligned_below : (place : Place) (d e : Option Decimal) (x : CoreTree) (r : Quantity) (y : CoreTree) (o : Quantity) (a : AlignedTrees)
      → Below x → Below y → aligned_by place d e x r y o ≡ Ok a → Both a
  aligned_below place d e x quantity.Truth y quantity.Truth a f g h = pair_told x y quantity.Truth a h f g
  aligned_below place d e x (quantity.Number s) y (quantity.Number t) a f g h = numbers_below place d e x s y t a f g h
  aligned_below place d e x quantity.Truth y (quantity.Number t) a f g h = absurd (cc h)
  aligned_below place d e x (quantity.Number s) y quantity.Truth a f g h = absurd (cc h)

  made : (op : Op2) (x y : CoreTree) (q : Quantity) (z : ScaledTree) → Below x → Below y
      → ◌≡◌ {A = Result ScaledTree ScaleFault} (Ok (record { tree = Two op x y; quantity = q })) (Ok z) → Below z.tree
  made op x y q z f g h = told Below (Two op x y) q z h (f, g)

  joined_below : (place : Place) (op : Op2) (a : AlignedTrees) (z : ScaledTree) → Both a → joined_numbers place op a ≡ Ok z → Below z.tree
  joined_below place op a z f h =
      after (numbers_of place a.quantity) (λ q. Ok (record { tree = Two op a.left a.right; quantity = q })) z h (λ q is done.
      made op a.left a.right q z f.0 f.1 done)

  compared_below : (place : Place) (op : Op2) (a : AlignedTrees) (z : ScaledTree) → Both a → compared_numbers place op a ≡ Ok z → Below z.tree
  compared_below place op a z f h =
      after (scale_of place a.quantity) (λ s. Ok (record { tree = Two op a.left a.right; quantity = quantity.Truth })) z h (λ s is done.
      made op a.left a.right quantity.Truth z f.0 f.1 done)

  operator_below : (place : Place) (op : Op2) (a : AlignedTrees) (z : ScaledTree) → Both a → scaled_aligned place op a ≡ Ok z → Below z.tree
  operator_below place Add a z f h = joined_below place Add a z f h
  operator_below place Sub a z f h = joined_below place Sub a z f h
  operator_below place Rem a z f h = joined_below place Rem a z f h
  operator_below place Lt a z f h = compared_below place Lt a z f h
  operator_below place Le a z f h = compared_below place Le a z f h
  operator_below place Gt a z f h = compared_below place Gt a z f h
  operator_below place Ge a z f h = compared_below place Ge a z f h
  operator_below place IfNull a z f h = made IfNull a.left a.right a.quantity z f.0 f.1 h
  operator_below place Eq a z f h = made Eq a.left a.right quantity.Truth z f.0 f.1 h
  operator_below place Ne a z f h = made Ne a.left a.right quantity.Truth z f.0 f.1 h
  operator_below place And a z f h = made And a.left a.right quantity.Truth z f.0 f.1 h
  operator_below place Or a z f h = made Or a.left a.right quantity.Truth z f.0 f.1 h
  operator_below place Mul a z f h = made Mul a.left a.right quantity.Truth z f.0 f.1 h
  operator_below place Div a z f h = made Div a.left a.right quantity.Truth z f.0 f.1 h
  operator_below place When a z f h = made When a.left a.right quantity.Truth z f.0 f.1 h

  truths_below : (place : Place) (op : Op2) (x y z : ScaledTree) → Below x.tree → Below y.tree → joined_truths place op x y ≡ Ok z → Below z.tree
  truths_below place op x y z f g h =
      after (truth_of place x.quantity) (λ p. and_then (truth_of place y.quantity)
      (λ q. Ok (record { tree = Two op x.tree y.tree; quantity = quantity.Truth }))) z h (λ p is rest.
      after (truth_of place y.quantity) (λ q. Ok (record { tree = Two op x.tree y.tree; quantity = quantity.Truth })) z rest (λ q so done.
      made op x.tree y.tree quantity.Truth z f g done))

  product_below : (place : Place) (x y z : ScaledTree) → Below x.tree → Below y.tree → product_of place x y ≡ Ok z → Below z.tree
  product_below place x y z f g h =
      after (scale_of place x.quantity) (λ s. and_then (scale_of place y.quantity) (λ t.
      and_then (or_fault (fault.ScaleTooLarge place) (product_scale s t))
      (λ scale. Ok (record { tree = Two Mul x.tree y.tree; quantity = quantity.Number scale })))) z h (λ s is rest.
      after (scale_of place y.quantity) (λ t. and_then (or_fault (fault.ScaleTooLarge place) (product_scale s t))
      (λ scale. Ok (record { tree = Two Mul x.tree y.tree; quantity = quantity.Number scale }))) z rest (λ t so more.
      after (or_fault (fault.ScaleTooLarge place) (product_scale s t))
      (λ scale. Ok (record { tree = Two Mul x.tree y.tree; quantity = quantity.Number scale })) z more (λ scale it done.
      made Mul x.tree y.tree (quantity.Number scale) z f g done)))

  quotient_below : (place : Place) (x y z : ScaledTree) → Below x.tree → Below y.tree → quotient_of place x y ≡ Ok z → Below z.tree
  quotient_below place x y z f g h =
      after (scale_of place x.quantity) (λ s. and_then (scale_of place y.quantity) (λ t.
      Ok (record { tree = Two Div (raised (dividend_factor s t) x.tree) y.tree; quantity = quantity.Number (quotient_scale s t) }))) z h (λ s is rest.
      after (scale_of place y.quantity) (λ t.
      Ok (record { tree = Two Div (raised (dividend_factor s t) x.tree) y.tree; quantity = quantity.Number (quotient_scale s t) })) z rest (λ t so done.
      made Div (raised (dividend_factor s t) x.tree) y.tree (quantity.Number (quotient_scale s t)) z
      (raised_below (dividend_factor s t) x.tree f) g done))

  when_below : (place : Place) (x y z : ScaledTree) → Below x.tree → Below y.tree
      → and_then (truth_of place y.quantity) (λ q. Ok (record { tree = Two When x.tree y.tree; quantity = x.quantity })) ≡ Ok z → Below z.tree
  when_below place x y z f g h =
      after (truth_of place y.quantity) (λ q. Ok (record { tree = Two When x.tree y.tree; quantity = x.quantity })) z h (λ q is done.
      made When x.tree y.tree x.quantity z f g done)

  side_by_side : (place : Place) (op : Op2) (d e : Option Decimal) (x y z : ScaledTree) → Below x.tree → Below y.tree
      → and_then (aligned place d e x y) (λ a. scaled_aligned place op a) ≡ Ok z → Below z.tree
  side_by_side place op d e x y z f g h =
      after (aligned place d e x y) (λ a. scaled_aligned place op a) z h (λ a is done.
      operator_below place op a z (aligned_below place d e x.tree x.quantity y.tree y.quantity a f g is) done)

  two_below : (place : Place) (op : Op2) (d e : Option Decimal) (x y z : ScaledTree) → Below x.tree → Below y.tree
      → scaled_two place op d e x y ≡ Ok z → Below z.tree
  two_below place Mul d e x y z f g h = product_below place x y z f g h
  two_below place Div d e x y z f g h = quotient_below place x y z f g h
  two_below place And d e x y z f g h = truths_below place And x y z f g h
  two_below place Or d e x y z f g h = truths_below place Or x y z f g h
  two_below place When d e x y z f g h = when_below place x y z f g h
  two_below place op d e x y z f g h = side_by_side place op d e x y z f g h

  if_below : (place : Place) (d e : Option Decimal) (c x y z : ScaledTree) → Below c.tree → Below x.tree → Below y.tree
      → scaled_if place d e c x y ≡ Ok z → Below z.tree
  if_below place d e c x y z k f g h =
      after (truth_of place c.quantity) (λ q. and_then (aligned place d e x y)
      (λ a. Ok (record { tree = If c.tree a.left a.right; quantity = a.quantity }))) z h (λ q is rest.
      after (aligned place d e x y) (λ a. Ok (record { tree = If c.tree a.left a.right; quantity = a.quantity })) z rest (λ a so done.
      let both = aligned_below place d e x.tree x.quantity y.tree y.quantity a f g so in
      told Below (If c.tree a.left a.right) a.quantity z done (k, both.0, both.1)))

  pub scaled_below : (sources : List Quantity) (place : Place) (e : UnitTree) (z : ScaledTree) → UnitReadsBelow bound e
      → scaled sources place e ≡ Ok z → Below z.tree
  scaled_below sources place (Leaf (Literal d)) z r h = told Below (Leaf (Const d.number)) (quantity.Number d.scale) z h tt
  scaled_below sources place (Leaf (Truth holds)) z r h = told Below (Leaf (Const (if holds then pos 1 else pos 0))) quantity.Truth z h tt
  scaled_below sources place (Leaf (Read source offset)) z r h =
      after (quantity_at place sources source) (λ q. Ok (record { tree = Leaf (CoreRead source offset); quantity = q })) z h (λ q is done.
      told Below (Leaf (CoreRead source offset)) q z done r)
  scaled_below sources place (Leaf (Reduce o source from to)) z r h =
      after (quantity_at place sources source) (λ p. and_then (quantity_of_reducer place o p)
      (λ q. Ok (record { tree = Leaf (CoreReduce o source from to); quantity = q }))) z h (λ p is rest.
      after (quantity_of_reducer place o p) (λ q. Ok (record { tree = Leaf (CoreReduce o source from to); quantity = q })) z rest (λ q so done.
      told Below (Leaf (CoreReduce o source from to)) q z done r))
  scaled_below sources place (One op a) z r h =
      after (scaled sources (later place 1) a) (λ x. scaled_one place op x) z h (λ x is rest.
      after (quantity_of_one place op x.quantity) (λ q. Ok (record { tree = One op x.tree; quantity = q })) z rest (λ q so done.
      told Below (One op x.tree) q z done (scaled_below sources (later place 1) a x r is)))
  scaled_below sources place (Two op a b) z r h =
      after (scaled sources (later place 1) a) (λ x. and_then (scaled sources (later place (1 + nodes a)) b)
      (λ y. scaled_two place op (literal_of a) (literal_of b) x y)) z h (λ x is rest.
      after (scaled sources (later place (1 + nodes a)) b) (λ y. scaled_two place op (literal_of a) (literal_of b) x y) z rest (λ y so done.
      two_below place op (literal_of a) (literal_of b) x y z
      (scaled_below sources (later place 1) a x r.0 is) (scaled_below sources (later place (1 + nodes a)) b y r.1 so) done))
  scaled_below sources place (If c a b) z r h =
      after (scaled sources (later place 1) c) (λ k. and_then (scaled sources (later place (1 + nodes c)) a)
      (λ x. and_then (scaled sources (later place (1 + nodes c + nodes a)) b)
      (λ y. scaled_if place (literal_of a) (literal_of b) k x y))) z h (λ k is rest.
      after (scaled sources (later place (1 + nodes c)) a) (λ x. and_then (scaled sources (later place (1 + nodes c + nodes a)) b)
      (λ y. scaled_if place (literal_of a) (literal_of b) k x y)) z rest (λ x so more.
      after (scaled sources (later place (1 + nodes c + nodes a)) b) (λ y. scaled_if place (literal_of a) (literal_of b) k x y) z more (λ y it done.
      if_below place (literal_of a) (literal_of b) k x y z (scaled_below sources (later place 1) c k r.0 is)
      (scaled_below sources (later place (1 + nodes c)) a x r.1 so) (scaled_below sources (later place (1 + nodes c + nodes a)) b y r.2 it) done)))
