-- What a pipeline gives, by lists (our own rule). A list is snapshots that touch, null ones included. Its boundaries are its starts and its
-- last end, and outside of it all is null. Each step makes a list from the list before; no tick is looked at.
use Rattle.std.specs.Prelude.{ℕ, ℤ, pos, ◌+ℤ◌, ◌-ℤ◌, Bool, ◌&&◌, int_lt, int_le, List, [], ◌∷◌, ◌++◌, map, filter, Option, Some, None}
use Rattle.std.specs.Prelude.{option_and_then, if◌then◌else◌}
use Rattle.std.specs.Ordering.{int_eq}
use Rattle.std.specs.Str.{bytes_eq}
use Rattle.std.specs.Prelude.{codes}
use Rattle.tilt_base.specs.Expression.{Leaf, One, Two, If}
use Rattle.tilt_base.specs.Reduce.{numbers, reduce}
use Rattle.tilt_base.specs.Scalar.{apply1, apply2, choose, is_true, truth}
use Rattle.tilt_base.specs.declared.reducer.Reducer.{Reducer}
use Rattle.tilt_stream.specs.Snap.{Snapshot, gap_before}
use Rattle.tilt_syntax.specs.Tree.{ExprTree, Num, Truth, Read, Reduce}
use Rattle.tilt_operators.specs.Flow.{StepTree, Select, Keep, Shift, Window, Join, FlowTree}
use Rattle.tilt_operators.specs.Inputs.{inputs_of}

-- an expression at a value of `v` and one of `w`
abbrev pub value_of : ExprTree → ℤ → ℤ → Option ℤ
value_of (Leaf (Num n)) v w = Some n
value_of (Leaf (Truth b)) v w = truth b
value_of (Leaf (Read name offset)) v w = if bytes_eq name (codes "v") then Some v else Some w
value_of (Leaf (Reduce r name from to)) v w = None
value_of (One op a) v w = apply1 op (value_of a v w)
value_of (Two op a b) v w = apply2 op (value_of a v w) (value_of b v w)
value_of (If c a b) v w = choose (value_of c v w) (value_of a v w) (value_of b v w)

-- the rows of a series, and one null snapshot for each gap
abbrev pub filled : List Snapshot → List Snapshot
filled [] = []
filled (row ∷ []) = row ∷ []
filled (row ∷ next ∷ rows) = row ∷ (gap_before (Some row.end) next.start ++ filled (next ∷ rows))

-- a snapshot with what a rule gives on its value; a null one stays null
abbrev pub revalued : (ℤ → Option ℤ) → Snapshot → Snapshot
revalued rule s = record { start = s.start; end = s.end; value = option_and_then (λ v. rule v) s.value }

-- the value, if the condition is true; null if it is 0 or null
abbrev pub kept_if : Option ℤ → ℤ → Option ℤ
kept_if None v = None
kept_if (Some c) v = if is_true c then Some v else None

-- `select`: each value becomes the expression at it
abbrev pub selected : ExprTree → List Snapshot → List Snapshot
selected e list = map (revalued (λ v. value_of e v v)) list

-- `where`: each value at which the expression is true stays, and the others become null
abbrev pub filtered : ExprTree → List Snapshot → List Snapshot
filtered e list = map (revalued (λ v. kept_if (value_of e v v) v)) list

-- `shift`: all times are that much later
abbrev pub moved : ℤ → List Snapshot → List Snapshot
moved by list = map (λ s. record { start = s.start +ℤ by; end = s.end +ℤ by; value = s.value }) list

-- the boundaries of a list, in order
abbrev pub boundaries : List Snapshot → List ℤ
boundaries [] = []
boundaries (s ∷ []) = s.start ∷ s.end ∷ []
boundaries (s ∷ next ∷ list) = s.start ∷ boundaries (next ∷ list)

-- boundaries in order with one more, unless it is one of them
abbrev pub with_boundary : ℤ → List ℤ → List ℤ
with_boundary b [] = b ∷ []
with_boundary b (c ∷ cs) = if int_lt b c then b ∷ c ∷ cs else if int_eq b c then c ∷ cs else c ∷ with_boundary b cs

-- the boundaries of both, in order, each once
abbrev pub merged : List ℤ → List ℤ → List ℤ
merged [] cs = cs
merged (b ∷ bs) cs = with_boundary b (merged bs cs)

-- the list with these boundaries, and on each piece the value of the boundary at which it begins
abbrev pub pieces : (ℤ → Option ℤ) → List ℤ → List Snapshot
pieces value [] = []
pieces value (b ∷ []) = []
pieces value (b ∷ c ∷ bs) = record { start = b; end = c; value = value b } ∷ pieces value (c ∷ bs)

-- whether a snapshot starts at a boundary or before it, and ends above the beginning of the window of that width
abbrev pub is_taken : ℤ → ℤ → Snapshot → Bool
is_taken width c s = int_le s.start c && int_lt (c +ℤ pos 1 -ℤ width) s.end

-- `window`: on the piece that begins at a boundary, the reducer on the values of the snapshots that its window takes, in order
abbrev pub windowed : Reducer → ℤ → List Snapshot → List Snapshot
windowed reducer width list =
    pieces (λ c. reduce reducer (numbers (map (λ (s : Snapshot). s.value) (filter (is_taken width c) list))))
    (merged (boundaries list) (map (λ b. b +ℤ width -ℤ pos 1) (boundaries list)))

-- the value of the snapshot with a boundary within it or at its start, and null if there is none
abbrev pub value_from : List Snapshot → ℤ → Option ℤ
value_from [] c = None
value_from (s ∷ list) c = if int_le s.start c && int_lt c s.end then s.value else value_from list c

-- the expression at both values, where both lists have one
abbrev pub both_values : ExprTree → Option ℤ → Option ℤ → Option ℤ
both_values e a b = option_and_then (λ v. option_and_then (λ w. value_of e v w) b) a

-- `join`: on each piece of both lists the expression at both values; null where one list has none
abbrev pub joined : ExprTree → List Snapshot → List Snapshot → List Snapshot
joined e list other =
    pieces (λ c. both_values e (value_from list c) (value_from other c)) (merged (boundaries list) (boundaries other))

-- the rows of the input of a name, among names and their rows
abbrev pub rows_of : List (List ℕ) → List (List Snapshot) → List ℕ → List Snapshot
rows_of [] rows name = []
rows_of (other ∷ names) [] name = []
rows_of (other ∷ names) (series ∷ rows) name = if bytes_eq other name then series else rows_of names rows name

-- what a step makes of the list before it; a name's rows are given
abbrev pub step_list : (List ℕ → List Snapshot) → StepTree → List Snapshot → List Snapshot
step_list series (Select e) list = selected e list
step_list series (Keep e) list = filtered e list
step_list series (Shift by) list = moved by list
step_list series (Window reducer width) list = windowed reducer width list
step_list series (Join name e) list = joined e list (filled (series name))

-- the list after all steps
abbrev pub steps_list : (List ℕ → List Snapshot) → List StepTree → List Snapshot → List Snapshot
steps_list series [] list = list
steps_list series (s ∷ steps) list = steps_list series steps (step_list series s list)

-- the list of a pipeline, from the rows of its inputs in their order
abbrev pub flow_list : FlowTree → List (List Snapshot) → List Snapshot
flow_list flow rows = steps_list (rows_of (inputs_of flow) rows) flow.steps (filled (rows_of (inputs_of flow) rows flow.first))
