-- The reducers on a list of numbers (our own rule). Each is null on the empty list.
use Rattle.std.specs.Prelude.{ℤ, pos, ◌+ℤ◌, List, [], ◌∷◌, length, Option, Some, None, int_div, fold, codes, ℕ}
use Rattle.std.specs.Int.{int_min, int_max}
use Rattle.std.specs.List.{find, list_any, list_all}
use Rattle.std.specs.Str.{bytes_eq}
use Rattle.tilt_base.specs.declared.reducer.Reducer.{Reducer}
use Rattle.tilt_base.specs.declared.reducer.Reducer.TheVariants.{Sum, Avg, Min, Max, Count, First, Last, Any, All}
use Rattle.tilt_base.specs.declared.reducer.TheConstants.{REDUCERS}
use Rattle.tilt_base.specs.Number.{within_64_bits}
use Rattle.tilt_base.specs.Scalar.{is_true, truth}

-- the numbers among cells, in order: null ones are left out
abbrev pub numbers : List (Option ℤ) → List ℤ
numbers [] = []
numbers (None ∷ cells) = numbers cells
numbers (Some n ∷ cells) = n ∷ numbers cells

-- the exact sum
abbrev pub total : List ℤ → ℤ
total ns = fold ◌+ℤ◌ (pos 0) ns

-- the last of a list that begins with this number
abbrev pub last_of : ℤ → List ℤ → ℤ
last_of n [] = n
last_of n (next ∷ ns) = last_of next ns

-- what a reducer gives on a list that begins with this number
abbrev pub reduce_some : Reducer → ℤ → List ℤ → Option ℤ
reduce_some Sum n ns = within_64_bits (total (n ∷ ns))
reduce_some Avg n ns = Some (int_div (total (n ∷ ns)) (pos (length (n ∷ ns))))
reduce_some Min n ns = Some (fold int_min n ns)
reduce_some Max n ns = Some (fold int_max n ns)
reduce_some Count n ns = Some (pos (length (n ∷ ns)))
reduce_some First n ns = Some n
reduce_some Last n ns = Some (last_of n ns)
reduce_some Any n ns = truth (list_any is_true (n ∷ ns))
reduce_some All n ns = truth (list_all is_true (n ∷ ns))

-- what a reducer gives on a list. In order: the exact sum (null if 64 bits don't hold it), and that sum divided by the length and truncated
-- toward zero. Then the minimum, the maximum, the length, the first, the last, 1 if one is true, and 1 if each is true
abbrev pub reduce : Reducer → List ℤ → Option ℤ
reduce reducer [] = None
reduce reducer (n ∷ ns) = reduce_some reducer n ns

-- the word of a reducer, in queries and in listings
abbrev pub reducer_word : Reducer → List ℕ
reducer_word Sum = codes "sum"
reducer_word Avg = codes "avg"
reducer_word Min = codes "min"
reducer_word Max = codes "max"
reducer_word Count = codes "count"
reducer_word First = codes "first"
reducer_word Last = codes "last"
reducer_word Any = codes "any"
reducer_word All = codes "all"

-- the reducer with this word
abbrev pub reducer_with : List ℕ → Option Reducer
reducer_with word = find (λ r. bytes_eq (reducer_word r) word) REDUCERS
