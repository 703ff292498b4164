-- The lists of small pipelines, computed from the definition.
use Rattle.std.proofs.Common.{◌≡◌, ℕ, pos, List, [], ◌∷◌, codes, Some, None, refl}
use Rattle.tilt_base.specs.Expression.{Leaf, Two}
use Rattle.tilt_base.specs.declared.operator.Op2.TheVariants.{Add, Sub, Gt, IfNull}
use Rattle.tilt_base.specs.declared.reducer.Reducer.TheVariants.{Sum, Max, Count}
use Rattle.tilt_stream.specs.Snap.{Snapshot}
use Rattle.tilt_syntax.specs.Tree.{ExprTree, Num, Read}
use Rattle.tilt_operators.specs.Flow.{StepTree, Select, Keep, Shift, Window, Join, FlowTree}
use Rattle.tilt_operators.specs.Lists.{flow_list}

-- a snapshot that has a value, and one that is null
snap : ℕ → ℕ → ℕ → Snapshot
snap start end value = record { start = pos start; end = pos end; value = Some (pos value) }

gap : ℕ → ℕ → Snapshot
gap start end = record { start = pos start; end = pos end; value = None }

v : ExprTree
v = Leaf (Read (codes "v") (pos 0))

w : ExprTree
w = Leaf (Read (codes "w") (pos 0))

number : ℕ → ExprTree
number n = Leaf (Num (pos n))

-- the pipeline that begins with `from x` and has these steps
with_steps : List StepTree → FlowTree
with_steps steps = record { first = codes "x"; steps = steps; domain = record { start = pos 0; end = pos 10 } }

-- `where v > 3; window count 3`
few_counted : flow_list (with_steps (Keep (Two Gt v (number 3)) ∷ Window Count (pos 3) ∷ [])) ((snap 0 5 7 ∷ snap 5 8 2 ∷ []) ∷ [])
    ≡ snap 0 2 1 ∷ snap 2 5 1 ∷ snap 5 7 1 ∷ gap 7 8 ∷ gap 8 10 ∷ []
unfolding snap gap v number with_steps
few_counted = refl

-- `join y v - w; shift 2`
difference_shifted : flow_list (with_steps (Join (codes "y") (Two Sub v w) ∷ Shift (pos 2) ∷ [])) ((snap 0 4 10 ∷ []) ∷ (snap 2 6 3 ∷ []) ∷ [])
    ≡ gap 2 4 ∷ snap 4 6 7 ∷ gap 6 8 ∷ []
unfolding snap gap v w with_steps
difference_shifted = refl

-- a window of one tick gives what it is of, over a gap too
one_tick : flow_list (with_steps (Window Sum (pos 1) ∷ [])) ((snap 1 4 5 ∷ snap 4 6 7 ∷ snap 8 9 2 ∷ []) ∷ [])
    ≡ snap 1 4 5 ∷ snap 4 6 7 ∷ gap 6 8 ∷ snap 8 9 2 ∷ []
unfolding snap gap with_steps
one_tick = refl

-- a window wider than the series, over a null inside and snapshots that touch
wider : flow_list (with_steps (Window Sum (pos 20) ∷ [])) ((snap 1 3 5 ∷ gap 3 4 ∷ snap 4 6 7 ∷ []) ∷ [])
    ≡ snap 1 3 5 ∷ snap 3 4 5 ∷ snap 4 6 12 ∷ snap 6 20 12 ∷ snap 20 22 12 ∷ snap 22 23 7 ∷ snap 23 25 7 ∷ []
unfolding snap gap with_steps
wider = refl

-- two windows, one after the other
counted_twice : flow_list (with_steps (Window Max (pos 2) ∷ Window Count (pos 3) ∷ [])) ((snap 1 3 5 ∷ []) ∷ [])
    ≡ snap 1 2 1 ∷ snap 2 3 2 ∷ snap 3 4 3 ∷ snap 4 5 2 ∷ snap 5 6 1 ∷ []
unfolding snap with_steps
counted_twice = refl

-- joined with itself, and with an empty list on either side
itself : flow_list (with_steps (Join (codes "x") (Two Add v w) ∷ [])) ((snap 1 4 5 ∷ snap 6 8 9 ∷ []) ∷ []) ≡ snap 1 4 10 ∷ gap 4 6 ∷ snap 6 8 18 ∷ []
unfolding snap gap v w with_steps
itself = refl

empty_right : flow_list (with_steps (Join (codes "y") (Two Add v w) ∷ [])) ((snap 1 4 5 ∷ snap 6 8 9 ∷ []) ∷ [] ∷ []) ≡ gap 1 4 ∷ gap 4 6 ∷ gap 6 8 ∷ []
unfolding snap gap v w with_steps
empty_right = refl

empty_left : flow_list (with_steps (Join (codes "y") (Two Add v w) ∷ [])) ([] ∷ (snap 1 4 5 ∷ []) ∷ []) ≡ gap 1 4 ∷ []
unfolding snap gap v w with_steps
empty_left = refl

-- lists that share no tick
apart : flow_list (with_steps (Join (codes "y") (Two Add v w) ∷ [])) ((snap 0 2 1 ∷ []) ∷ (snap 3 5 2 ∷ []) ∷ []) ≡ gap 0 2 ∷ gap 2 3 ∷ gap 3 5 ∷ []
unfolding snap gap v w with_steps
apart = refl

-- a null stays null in `select`
still_null : flow_list (with_steps (Select (Two IfNull v (number 1)) ∷ [])) ((snap 1 3 5 ∷ gap 3 4 ∷ []) ∷ []) ≡ snap 1 3 5 ∷ gap 3 4 ∷ []
unfolding snap gap v number with_steps
still_null = refl
