-- How far a query looks back and ahead (the TiLT paper's boundary resolution). A need is a pair of numbers of ticks: for the output up to
-- a tick, a source is looked at from so far back to so far ahead.
use Rattle.std.specs.Prelude.{ℕ, suc, ℤ, pos, neg_ℤ, ◌+ℤ◌, ◌-ℤ◌, ◌==◌, if◌then◌else◌, List, [], ◌∷◌, ◌++◌, map, Option, Some, None}
use Rattle.std.specs.Prelude.{option_map}
use Rattle.std.specs.Int.{int_max}
use Rattle.std.specs.List.{range_with_len}
use Rattle.tilt_base.specs.Expression.{Leaf, One, Two, If}
use Rattle.tilt_core.specs.CoreTree.{Const, Read, Reduce, CoreTree, Definition}

-- how far back and how far ahead, in ticks
pub record Need : Type 0 where
  pub back : ℤ
  pub ahead : ℤ

-- nothing but the tick itself
abbrev pub no_margin : Need
no_margin = record { back = pos 0; ahead = pos 0 }

-- the greater of two needs, part by part
abbrev pub wider : Need → Need → Need
wider m n = record { back = int_max m.back n.back; ahead = int_max m.ahead n.ahead }

-- the same where one of them, or both, may be missing: a source that isn't read has no need
abbrev pub either : Option Need → Option Need → Option Need
either None n = n
either (Some m) None = Some m
either (Some m) (Some n) = Some (wider m n)

-- a need moved by a window or a shift that reads from `first` ticks to `last` ticks later than each tick
abbrev pub reaching : Need → ℤ → ℤ → Need
reaching n first last = record { back = n.back +ℤ int_max (pos 0) (neg_ℤ first); ahead = n.ahead +ℤ int_max (pos 0) last }

-- what an expression with a need asks of the source with a number
abbrev pub asked_by : Need → CoreTree → ℕ → Option Need
asked_by n (Leaf (Const number)) source = None
asked_by n (Leaf (Read read offset)) source = if read == source then Some (reaching n offset offset) else None
asked_by n (Leaf (Reduce reducer read from to)) source = if read == source then Some (reaching n (from +ℤ pos 1) to) else None
asked_by n (One op a) source = asked_by n a source
asked_by n (Two op a b) source = either (asked_by n a source) (asked_by n b source)
asked_by n (If c a b) source = either (asked_by n c source) (either (asked_by n a source) (asked_by n b source))

-- the need of a definition's body: its grid looks ahead up to the next point
abbrev pub body_need : Definition → Need → Need
body_need def n = record { back = n.back; ahead = n.ahead +ℤ def.grid.period -ℤ pos 1 }

-- what a definition with this need asks of a source; nothing where the definition isn't used
abbrev pub asked_of : Definition → Option Need → ℕ → Option Need
asked_of def None source = None
asked_of def (Some n) source = asked_by (body_need def n) def.body source

-- the need of a definition: that of the last one, which is emitted, is the tick itself; that of another is what the definitions after it
-- ask
abbrev pub need_before : List Definition → Option Need → Option Need
need_before [] asked = Some no_margin
need_before (def ∷ defs) asked = asked

-- what definitions ask of a source, of which the first definition has the number `first`
abbrev pub asked_from : ℕ → List Definition → ℕ → Option Need
asked_from first [] source = None
asked_from first (def ∷ defs) source =
    either (asked_from (suc first) defs source) (asked_of def (need_before defs (asked_from (suc first) defs first)) source)

-- the needs of definitions in order, of which the first has the number `first`; missing where a definition isn't used
abbrev pub needs_from : ℕ → List Definition → List (Option Need)
needs_from first [] = []
needs_from first (def ∷ defs) = need_before defs (asked_from (suc first) defs first) ∷ needs_from (suc first) defs

-- the needs of the sources of a query with so many inputs, in order
abbrev pub needs : ℕ → List Definition → List (Option Need)
needs inputs defs = map (asked_from inputs defs) (range_with_len 0 inputs) ++ needs_from inputs defs

-- the needs of the bodies of definitions with these needs
abbrev pub body_needs : List Definition → List (Option Need) → List (Option Need)
body_needs (def ∷ defs) (n ∷ ns) = option_map (body_need def) n ∷ body_needs defs ns
body_needs [] ns = []
body_needs (def ∷ defs) [] = []

-- the widest of needs, missing ones left out
abbrev pub widest : List (Option Need) → Need
widest [] = no_margin
widest (None ∷ ns) = widest ns
widest (Some n ∷ ns) = wider n (widest ns)

-- the look-back and the look-ahead of a query with so many inputs: the widest of the needs of its inputs and of the bodies of its
-- definitions
abbrev pub reach : ℕ → List Definition → Need
reach inputs defs = widest (map (asked_from inputs defs) (range_with_len 0 inputs) ++ body_needs defs (needs_from inputs defs))
