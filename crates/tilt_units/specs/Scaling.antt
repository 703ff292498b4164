-- The scale of each expression, and what it is over whole numbers (our own rule).
use Rattle.std.specs.Prelude.{◌≡◌, ◌⊎◌, ℕ, ◌+◌, ◌/◌, ◌==◌, ℤ, pos, ◌*ℤ◌, Bool, true, false, if◌then◌else◌, int_div, int_rem}
use Rattle.std.specs.Prelude.{List, Option, Some, None, Result, Ok, Err, MatchResult}
use Rattle.std.specs.Ordering.{int_eq}
use Rattle.tilt_base.specs.Expression.{Leaf, One, Two, If}
use Rattle.tilt_base.specs.Number.{within_64_bits}
use Rattle.tilt_base.specs.declared.operator.Op1.{Op1}
use Rattle.tilt_base.specs.declared.operator.Op1.TheVariants.{Neg, Not, IsNull}
use Rattle.tilt_base.specs.declared.operator.Op2.{Op2}
use Rattle.tilt_base.specs.declared.operator.Op2.TheVariants.{Add, Sub, Mul, Div, Rem, Lt, Le, Gt, Ge, And, Or, When, IfNull}
use Rattle.tilt_base.specs.declared.reducer.Reducer.{Reducer}
use Rattle.tilt_base.specs.declared.reducer.Reducer.TheVariants as reducer
use Rattle.tilt_core.specs.CoreTree.{CoreTree, Const, Read as CoreRead, Reduce as CoreReduce, nodes, tree_of}
use Rattle.tilt_units.specs.DecimalTree.{UnitTree, Literal, Truth, Read, Reduce, literal_of}
use Rattle.std.specs.List.{slice_get}
use Rattle.tilt_units.specs.Scale.{common_scale, product_scale, dividend_factor, quotient_scale}
use Rattle.tilt_units.specs.declared.decimal.Decimal.{Decimal}
use Rattle.tilt_units.specs.declared.fault.ScaleFault.{ScaleFault}
use Rattle.tilt_units.specs.declared.fault.ScaleFault.TheVariants as fault
use Rattle.tilt_units.specs.declared.place.Place.{Place}
use Rattle.tilt_units.specs.declared.scaled.Aligned.{Aligned}
use Rattle.tilt_units.specs.declared.scaled.Scaled.{Scaled}
use Rattle.tilt_units.specs.declared.quantity.Quantity.{Quantity}
use Rattle.tilt_units.specs.declared.quantity.Quantity.TheVariants as quantity

-- an expression over whole numbers, and what it represents
pub record ScaledTree : Type 0 where
  pub tree : CoreTree
  pub quantity : Quantity

-- two expressions over whole numbers that represent the same quantity
pub record AlignedTrees : Type 0 where
  pub left : CoreTree
  pub right : CoreTree
  pub quantity : Quantity

-- the same of expressions in memory
abbrev pub scaled_tree : Scaled → ScaledTree
scaled_tree x = record { tree = tree_of x.tree; quantity = x.quantity }

abbrev pub aligned_trees : Aligned → AlignedTrees
aligned_trees a = record { left = tree_of a.left; right = tree_of a.right; quantity = a.quantity }

-- goes on with a result, unless it is a fault
abbrev pub and_then : {A B : Type 0} → Result A ScaleFault → (A → Result B ScaleFault) → Result B ScaleFault
and_then (Ok a) next = next a
and_then (Err f) next = Err f

-- the result, or a fault where there is none
abbrev pub or_fault : {A : Type 0} → ScaleFault → Option A → Result A ScaleFault
or_fault f None = Err f
or_fault f (Some a) = Ok a

-- the place that is so many nodes later
abbrev pub later : Place → ℕ → Place
later place count = record { definition = place.definition; node = place.node + count }

-- the expression at a scale that is so many times larger
abbrev pub raised : ℕ → CoreTree → CoreTree
raised factor tree = if factor == 1 then tree else Two Mul (Leaf (Const (pos factor))) tree

-- the quotient, if it is whole
abbrev pub exact_quotient : ℤ → ℤ → Option ℤ
exact_quotient a b = if int_eq (int_rem a b) (pos 0) then Some (int_div a b) else None

-- the number that a literal is at a scale
abbrev pub literal_at : Place → Decimal → ℕ → Result ℤ ScaleFault
literal_at place d scale =
    and_then (or_fault (fault.LiteralNotWhole place) (exact_quotient (d.number *ℤ pos scale) (pos d.scale)))
    (λ n. or_fault (fault.LiteralTooLarge place) (within_64_bits n))

-- numbers at two scales, the smaller brought to the larger
abbrev pub in_common : Place → CoreTree → ℕ → CoreTree → ℕ → Result AlignedTrees ScaleFault
in_common place x s y t =
    and_then (or_fault (fault.ScalesDiffer place) (common_scale s t))
    (λ common. Ok (record { left = raised (common / s) x; right = raised (common / t) y; quantity = quantity.Number common }))

-- numbers at two scales, brought to one: a literal to the scale of the other, unless both are literals
abbrev pub aligned_numbers : Place → Option Decimal → Option Decimal → CoreTree → ℕ → CoreTree → ℕ → Result AlignedTrees ScaleFault
aligned_numbers place (Some d) None x s y t =
    and_then (literal_at place d t) (λ n. Ok (record { left = Leaf (Const n); right = y; quantity = quantity.Number t }))
aligned_numbers place None (Some d) x s y t =
    and_then (literal_at place d s) (λ n. Ok (record { left = x; right = Leaf (Const n); quantity = quantity.Number s }))
aligned_numbers place None None x s y t = in_common place x s y t
aligned_numbers place (Some d) (Some e) x s y t = in_common place x s y t

-- two expressions, brought to one quantity; each is a literal, or isn't
abbrev pub aligned_by : Place → Option Decimal → Option Decimal → CoreTree → Quantity → CoreTree → Quantity → Result AlignedTrees ScaleFault
aligned_by place d e x quantity.Truth y quantity.Truth = Ok (record { left = x; right = y; quantity = quantity.Truth })
aligned_by place d e x (quantity.Number s) y (quantity.Number t) = aligned_numbers place d e x s y t
aligned_by place d e x quantity.Truth y (quantity.Number t) = Err (fault.TypeMismatch place)
aligned_by place d e x (quantity.Number s) y quantity.Truth = Err (fault.TypeMismatch place)

abbrev pub aligned : Place → Option Decimal → Option Decimal → ScaledTree → ScaledTree → Result AlignedTrees ScaleFault
aligned place d e x y = aligned_by place d e x.tree x.quantity y.tree y.quantity

-- whether a quantity is truth values
abbrev pub is_truth : Quantity → Bool
is_truth quantity.Truth = true
is_truth (quantity.Number s) = false

-- the scale of a quantity that has to be numbers
abbrev pub scale_of : Place → Quantity → Result ℕ ScaleFault
scale_of place (quantity.Number s) = Ok s
scale_of place quantity.Truth = Err (fault.TypeMismatch place)

-- truth values, of a quantity that has to be truth values
abbrev pub truth_of : Place → Quantity → Result Quantity ScaleFault
truth_of place quantity.Truth = Ok quantity.Truth
truth_of place (quantity.Number s) = Err (fault.TypeMismatch place)

-- the quantity, if it is numbers
abbrev pub numbers_of : Place → Quantity → Result Quantity ScaleFault
numbers_of place q = and_then (scale_of place q) (λ s. Ok (quantity.Number s))

-- an operator on one quantity
abbrev pub quantity_of_one : Place → Op1 → Quantity → Result Quantity ScaleFault
quantity_of_one place Neg q = numbers_of place q
quantity_of_one place Not q = truth_of place q
quantity_of_one place IsNull q = Ok quantity.Truth

-- an operator on one expression
abbrev pub scaled_one : Place → Op1 → ScaledTree → Result ScaledTree ScaleFault
scaled_one place op x = and_then (quantity_of_one place op x.quantity) (λ q. Ok (record { tree = One op x.tree; quantity = q }))

-- a reducer on a quantity: a count is in whole numbers, whatever is counted
abbrev pub quantity_of_reducer : Place → Reducer → Quantity → Result Quantity ScaleFault
quantity_of_reducer place reducer.Sum q = numbers_of place q
quantity_of_reducer place reducer.Avg q = numbers_of place q
quantity_of_reducer place reducer.Min q = numbers_of place q
quantity_of_reducer place reducer.Max q = numbers_of place q
quantity_of_reducer place reducer.Count q = Ok (quantity.Number 1)
quantity_of_reducer place reducer.First q = Ok q
quantity_of_reducer place reducer.Last q = Ok q
quantity_of_reducer place reducer.Any q = truth_of place q
quantity_of_reducer place reducer.All q = truth_of place q

-- an operator on aligned numbers, which gives numbers at their scale
abbrev pub joined_numbers : Place → Op2 → AlignedTrees → Result ScaledTree ScaleFault
joined_numbers place op a = and_then (numbers_of place a.quantity) (λ q. Ok (record { tree = Two op a.left a.right; quantity = q }))

-- a comparison of aligned numbers
abbrev pub compared_numbers : Place → Op2 → AlignedTrees → Result ScaledTree ScaleFault
compared_numbers place op a =
    and_then (scale_of place a.quantity) (λ s. Ok (record { tree = Two op a.left a.right; quantity = quantity.Truth }))

-- a product: the scales are multiplied
abbrev pub product_of : Place → ScaledTree → ScaledTree → Result ScaledTree ScaleFault
product_of place x y =
    and_then (scale_of place x.quantity) (λ s. and_then (scale_of place y.quantity) (λ t.
    and_then (or_fault (fault.ScaleTooLarge place) (product_scale s t))
    (λ scale. Ok (record { tree = Two Mul x.tree y.tree; quantity = quantity.Number scale }))))

-- a quotient: the scales are divided, after the dividend was multiplied where the quotient of the scales isn't whole
abbrev pub quotient_of : Place → ScaledTree → ScaledTree → Result ScaledTree ScaleFault
quotient_of place x y =
    and_then (scale_of place x.quantity) (λ s. and_then (scale_of place y.quantity) (λ t.
    Ok (record {
      tree = Two Div (raised (dividend_factor s t) x.tree) y.tree;
      quantity = quantity.Number (quotient_scale s t);
    })))

-- two truth values
abbrev pub joined_truths : Place → Op2 → ScaledTree → ScaledTree → Result ScaledTree ScaleFault
joined_truths place op x y =
    and_then (truth_of place x.quantity) (λ p. and_then (truth_of place y.quantity)
    (λ q. Ok (record { tree = Two op x.tree y.tree; quantity = quantity.Truth })))

-- an operator on aligned expressions
abbrev pub scaled_aligned : Place → Op2 → AlignedTrees → Result ScaledTree ScaleFault
scaled_aligned place Add a = joined_numbers place Add a
scaled_aligned place Sub a = joined_numbers place Sub a
scaled_aligned place Rem a = joined_numbers place Rem a
scaled_aligned place Lt a = compared_numbers place Lt a
scaled_aligned place Le a = compared_numbers place Le a
scaled_aligned place Gt a = compared_numbers place Gt a
scaled_aligned place Ge a = compared_numbers place Ge a
scaled_aligned place IfNull a = Ok (record { tree = Two IfNull a.left a.right; quantity = a.quantity })
scaled_aligned place op a = Ok (record { tree = Two op a.left a.right; quantity = quantity.Truth })

-- an operator on two expressions, of which each is a literal, or isn't
abbrev pub scaled_two : Place → Op2 → Option Decimal → Option Decimal → ScaledTree → ScaledTree → Result ScaledTree ScaleFault
scaled_two place Mul d e x y = product_of place x y
scaled_two place Div d e x y = quotient_of place x y
scaled_two place And d e x y = joined_truths place And x y
scaled_two place Or d e x y = joined_truths place Or x y
scaled_two place When d e x y =
    and_then (truth_of place y.quantity) (λ q. Ok (record { tree = Two When x.tree y.tree; quantity = x.quantity }))
scaled_two place op d e x y = and_then (aligned place d e x y) (λ a. scaled_aligned place op a)

-- a choice between two expressions, of which each is a literal, or isn't
abbrev pub scaled_if : Place → Option Decimal → Option Decimal → ScaledTree → ScaledTree → ScaledTree → Result ScaledTree ScaleFault
scaled_if place d e c x y =
    and_then (truth_of place c.quantity) (λ q. and_then (aligned place d e x y)
    (λ a. Ok (record { tree = If c.tree a.left a.right; quantity = a.quantity })))

-- what a source represents
abbrev pub quantity_at : Place → List Quantity → ℕ → Result Quantity ScaleFault
quantity_at place sources number = or_fault (fault.UnknownSource place) (slice_get sources number)

-- an expression at a place over sources that represent these quantities, or the first fault
abbrev pub scaled : List Quantity → Place → UnitTree → Result ScaledTree ScaleFault
scaled sources place (Leaf (Literal d)) = Ok (record { tree = Leaf (Const d.number); quantity = quantity.Number d.scale })
scaled sources place (Leaf (Truth holds)) = Ok (record { tree = Leaf (Const (if holds then pos 1 else pos 0)); quantity = quantity.Truth })
scaled sources place (Leaf (Read source offset)) =
    and_then (quantity_at place sources source) (λ q. Ok (record { tree = Leaf (CoreRead source offset); quantity = q }))
scaled sources place (Leaf (Reduce r source from to)) =
    and_then (quantity_at place sources source) (λ p. and_then (quantity_of_reducer place r p)
    (λ q. Ok (record { tree = Leaf (CoreReduce r source from to); quantity = q })))
scaled sources place (One op a) =
    and_then (scaled sources (later place 1) a) (λ x. scaled_one place op x)
scaled sources place (Two op a b) =
    and_then (scaled sources (later place 1) a) (λ x. and_then (scaled sources (later place (1 + nodes a)) b)
    (λ y. scaled_two place op (literal_of a) (literal_of b) x y))
scaled sources place (If c a b) =
    and_then (scaled sources (later place 1) c) (λ z. and_then (scaled sources (later place (1 + nodes c)) a)
    (λ x. and_then (scaled sources (later place (1 + nodes c + nodes a)) b)
    (λ y. scaled_if place (literal_of a) (literal_of b) z x y)))

-- what is given is the answer, or there was no memory
abbrev pub Gives : {A B : Type 0} → (A → B) → Result A ScaleFault → Result B ScaleFault → Type 0
Gives seen given answer = MatchResult given (λ a. answer ≡ Ok (seen a)) (λ f. (f ≡ fault.OutOfMemory) ⊎ (answer ≡ Err f))
