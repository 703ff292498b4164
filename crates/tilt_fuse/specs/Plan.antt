-- Which definitions are merged into their users, and the loops of the others (the TiLT paper's operator fusion; when definitions
-- are merged is our own rule).
use Rattle.std.specs.Prelude.{ℕ, suc, ◌+◌, ◌==◌, nat_le, ℤ, pos, ◌+ℤ◌, Bool, true, false, ◌&&◌, ◌||◌, not, if◌then◌else◌, List, [], ◌∷◌}
use Rattle.std.specs.Prelude.{◌++◌, length, replicate, get_or, Option, Some, None, is_some, option_and_then}
use Rattle.std.specs.Option.{option_map_or, option_or}
use Rattle.std.specs.List.{list_any}
use Rattle.std.specs.Ordering.{int_eq}
use Rattle.tilt_base.specs.declared.reducer.Reducer.{Reducer}
use Rattle.tilt_base.specs.Expression as expression
use Rattle.tilt_core.specs.Core.{CoreParts}
use Rattle.tilt_core.specs.CoreTree as core
use Rattle.tilt_core.specs.CoreTree.{CoreTree, Definition}
use Rattle.tilt_core.specs.Needs.{Need, needs_from}
use Rattle.tilt_fuse.specs.declared.reading.Reading.{Reading}
use Rattle.tilt_fuse.specs.FusedTree.{FusedTree, Const, Port, Win, WinBy, Argument, One, Two, If, PlannedLoop}

-- how many nodes a tree has: a window counts one more than its map
abbrev pub nodes : FusedTree → ℕ
nodes (WinBy map reducer source from to) = 1 + nodes map
nodes (One op a) = 1 + nodes a
nodes (Two op a b) = 1 + nodes a + nodes b
nodes (If c a b) = 1 + nodes c + nodes a + nodes b
nodes other = 1

-- a tree so many ticks later
abbrev pub moved : ℤ → FusedTree → FusedTree
moved by (Port source offset) = Port source (offset +ℤ by)
moved by (Win reducer source from to) = Win reducer source (from +ℤ by) (to +ℤ by)
moved by (WinBy map reducer source from to) = WinBy map reducer source (from +ℤ by) (to +ℤ by)
moved by (One op a) = One op (moved by a)
moved by (Two op a b) = Two op (moved by a) (moved by b)
moved by (If c a b) = If (moved by c) (moved by a) (moved by b)
moved by other = other

-- its first port, from the left
abbrev pub first_port : FusedTree → Option Reading
first_port (Port source offset) = Some (record { source = source; offset = offset })
first_port (One op a) = first_port a
first_port (Two op a b) = option_or (first_port a) (first_port b)
first_port (If c a b) = option_or (option_or (first_port c) (first_port a)) (first_port b)
first_port other = None

-- whether it has no window, and all of its ports are this reading
abbrev pub reads_only : Reading → FusedTree → Bool
reads_only p (Port source offset) = (source == p.source) && int_eq offset p.offset
reads_only p (Win reducer source from to) = false
reads_only p (WinBy map reducer source from to) = false
reads_only p (One op a) = reads_only p a
reads_only p (Two op a b) = reads_only p a && reads_only p b
reads_only p (If c a b) = reads_only p c && (reads_only p a && reads_only p b)
reads_only p other = true

-- the one reading that it is made from, if it has no window, some port, and all of its ports are that reading
abbrev pub only_reading : FusedTree → Option Reading
only_reading tree = option_and_then (λ p. if reads_only p tree then Some p else None) (first_port tree)

-- a tree as a map: what it reads is the argument
abbrev pub as_map : FusedTree → FusedTree
as_map (Const number) = Const number
as_map (One op a) = One op (as_map a)
as_map (Two op a b) = Two op (as_map a) (as_map b)
as_map (If c a b) = If (as_map c) (as_map a) (as_map b)
as_map other = Argument

-- whether it is a port alone
abbrev pub is_port : FusedTree → Bool
is_port (Port source offset) = true
is_port other = false

-- a window on a merged definition is one on the reading that its tree is made from, by the tree as a map. There is no map if the tree is
-- the port alone
abbrev pub window_over : FusedTree → Reading → Reducer → ℤ → ℤ → FusedTree
window_over tree p reducer from to =
    if is_port tree then Win reducer p.source (from +ℤ p.offset) (to +ℤ p.offset)
    else WinBy (as_map tree) reducer p.source (from +ℤ p.offset) (to +ℤ p.offset)

-- a window on a source, of which the tree is given if it was merged
abbrev pub window_on : Option FusedTree → Reducer → ℕ → ℤ → ℤ → FusedTree
window_on None reducer source from to = Win reducer source from to
window_on (Some tree) reducer source from to =
    option_map_or (λ p. window_over tree p reducer from to) (only_reading tree) (Win reducer source from to)

-- a reading of a source, of which the tree is given if it was merged
abbrev pub reading_of : Option FusedTree → ℕ → ℤ → FusedTree
reading_of None source offset = Port source offset
reading_of (Some tree) source offset = moved offset tree

-- an expression over sources, of which the trees of those that were merged are given
abbrev pub fused : List (Option FusedTree) → CoreTree → FusedTree
fused merged (expression.Leaf (core.Const number)) = Const number
fused merged (expression.Leaf (core.Read source offset)) = reading_of (get_or merged source None) source offset
fused merged (expression.Leaf (core.Reduce reducer source from to)) = window_on (get_or merged source None) reducer source from to
fused merged (expression.One op a) = One op (fused merged a)
fused merged (expression.Two op a b) = Two op (fused merged a) (fused merged b)
fused merged (expression.If c a b) = If (fused merged c) (fused merged a) (fused merged b)

-- whether an expression has a window on a source
abbrev pub has_window_on : CoreTree → ℕ → Bool
has_window_on (expression.Leaf (core.Reduce reducer read from to)) source = read == source
has_window_on (expression.One op a) source = has_window_on a source
has_window_on (expression.Two op a b) source = has_window_on a source || has_window_on b source
has_window_on (expression.If c a b) source = has_window_on c source || (has_window_on a source || has_window_on b source)
has_window_on other source = false

-- whether one of definitions with these needs is used and has a window on a source
abbrev pub is_windowed : List Definition → List (Option Need) → ℕ → Bool
is_windowed (def ∷ defs) (Some n ∷ ns) source = has_window_on def.body source || is_windowed defs ns source
is_windowed (def ∷ defs) (None ∷ ns) source = is_windowed defs ns source
is_windowed defs ns source = false

-- whether there are none of them
abbrev pub are_none : List Definition → Bool
are_none [] = true
are_none (def ∷ defs) = false

-- whether a used definition with this number and this tree is merged, if these definitions come after it. It is merged if it isn't the
-- emitted one, has neither a span nor a period above 1, and its tree is small. Also, if a used definition has a window on it, its tree must
-- be made from one reading
abbrev pub is_merged : Definition → List Definition → List (Option Need) → ℕ → FusedTree → Bool
is_merged def behind ns number tree =
    not (are_none behind) && not (is_some def.over) && int_eq def.grid.period (pos 1) && nat_le (nodes tree) 64
    && (not (is_windowed behind ns number) || is_some (only_reading tree))

-- the loops of definitions with these needs, of which the first is that at a place, after so many inputs; the trees of merged
-- sources before it are given
abbrev pub loops_from : Bool → ℕ → ℕ → List (Option FusedTree) → List Definition → List (Option Need) → List PlannedLoop
loops_from fuse inputs place merged (def ∷ defs) (Some n ∷ ns) =
    let tree = fused merged def.body in
    if fuse && is_merged def defs ns (inputs + place) tree
    then loops_from fuse inputs (suc place) (merged ++ Some tree ∷ []) defs ns
    else record { def = place; body = tree } ∷ loops_from fuse inputs (suc place) (merged ++ None ∷ []) defs ns
loops_from fuse inputs place merged (def ∷ defs) (None ∷ ns) = loops_from fuse inputs (suc place) (merged ++ None ∷ []) defs ns
loops_from fuse inputs place merged defs ns = []

-- the loops of a query: its used definitions that aren't merged, in order; nothing is merged without fusion
abbrev pub plan_of : CoreParts → Bool → List PlannedLoop
plan_of core fuse =
    let inputs = length core.inputs in
    loops_from fuse inputs 0 (replicate inputs None) core.defs (needs_from inputs core.defs)

-- whether loops have one for the definition of a number
abbrev pub has_loop : List PlannedLoop → ℕ → Bool
has_loop loops def = list_any (λ l. l.def == def) loops
