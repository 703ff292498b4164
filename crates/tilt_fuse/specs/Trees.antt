-- What is known of the trees of loops and of merged sources.
use Rattle.std.specs.Prelude.{◌≡◌, ℕ, ◌+◌, ◌≤◌, pos, ◌+ℤ◌, ◌≤ℤ◌, ◌<ℤ◌, Bool, true, List, ◌++◌, length, drop, replicate, get_or, Option}
use Rattle.std.specs.Prelude.{Some, None, is_some, ⊤}
use Rattle.tilt_base.specs.Expression as expression
use Rattle.tilt_base.specs.Offset.{IsOffset}
use Rattle.tilt_base.specs.declared.limits.TheConstants.{REACH}
use Rattle.tilt_bounds.specs.Margins.{AreWithin, evenly, need_at}
use Rattle.tilt_fuse.specs.FusedTree.{FusedTree, Const, Port, Win, WinBy, Argument, One, Two, If, PlannedLoop}
use Rattle.tilt_fuse.specs.Plan.{nodes, only_reading, is_windowed, loops_from}
use Rattle.tilt_fuse.specs.Used.{AreUsed}
use Rattle.tilt_core.specs.Core.{AreDefinitions}
use Rattle.tilt_core.specs.CoreTree as core
use Rattle.tilt_core.specs.CoreTree.{CoreTree, Definition}
use Rattle.tilt_core.specs.Needs.{Need, reaching, needs_from, needs}

-- the offsets of an expression are such
abbrev pub IsNearBody : CoreTree → Type 0
IsNearBody (expression.Leaf (core.Const number)) = ⊤
IsNearBody (expression.Leaf (core.Read source offset)) = IsOffset offset
IsNearBody (expression.Leaf (core.Reduce reducer source from to)) = IsOffset from × IsOffset to
IsNearBody (expression.One op a) = IsNearBody a
IsNearBody (expression.Two op a b) = IsNearBody a × IsNearBody b
IsNearBody (expression.If c a b) = IsNearBody c × IsNearBody a × IsNearBody b

-- those of a tree are
abbrev pub IsNear : FusedTree → Type 0
IsNear (Port source offset) = IsOffset offset
IsNear (Win reducer source from to) = IsOffset from × IsOffset to
IsNear (WinBy map reducer source from to) = IsNear map × IsOffset from × IsOffset to
IsNear (One op a) = IsNear a
IsNear (Two op a b) = IsNear a × IsNear b
IsNear (If c a b) = IsNear c × IsNear a × IsNear b
IsNear other = ⊤

-- a map has neither ports nor windows
abbrev pub IsMap : FusedTree → Type 0
IsMap (Port source offset) = ⊥
IsMap (Win reducer source from to) = ⊥
IsMap (WinBy map reducer source from to) = ⊥
IsMap (One op a) = IsMap a
IsMap (Two op a b) = IsMap a × IsMap b
IsMap (If c a b) = IsMap c × IsMap a × IsMap b
IsMap other = ⊤

-- the maps of a tree are maps
abbrev pub HasMaps : FusedTree → Type 0
HasMaps (WinBy map reducer source from to) = IsMap map
HasMaps (One op a) = HasMaps a
HasMaps (Two op a b) = HasMaps a × HasMaps b
HasMaps (If c a b) = HasMaps c × HasMaps a × HasMaps b
HasMaps other = ⊤

-- what a tree with a need asks of each source that it reads is as a condition says. Windows end after their starts, their maps are maps,
-- and arguments occur in maps alone
abbrev pub EachAsks : (ℕ → Need → Type 0) → Need → FusedTree → Type 0
EachAsks P n (Const number) = ⊤
EachAsks P n (Port source offset) = P source (reaching n offset offset)
EachAsks P n (Win reducer source from to) = P source (reaching n (from +ℤ pos 1) to) × (from <ℤ to)
EachAsks P n (WinBy map reducer source from to) = P source (reaching n (from +ℤ pos 1) to) × (from <ℤ to) × IsMap map
EachAsks P n Argument = ⊥
EachAsks P n (One op a) = EachAsks P n a
EachAsks P n (Two op a b) = EachAsks P n a × EachAsks P n b
EachAsks P n (If c a b) = EachAsks P n c × EachAsks P n a × EachAsks P n b

-- a need holds what is asked
abbrev pub Holds : Option Need → Need → Type 0
Holds None asked = ⊥
Holds (Some n) asked = (asked.back ≤ℤ n.back) × (asked.ahead ≤ℤ n.ahead)

-- the tree of a merged source is small, and it asks each source that it reads for no more than the source's need. If its source has windows
-- on it, it is made from one reading
pub record IsMergedTree (needs : List (Option Need)) (windowed_on : Bool) (source : ℕ) (tree : FusedTree) : Type 0 where
  pub small : nodes tree ≤ 64
  pub need : Need
  pub needed : need_at needs source ≡ Some need
  pub asks : EachAsks (λ read asked. Holds (need_at needs read) asked) need tree
  pub fits : windowed_on ≡ true → is_some (only_reading tree) ≡ true

-- so is each tree of merged sources
pub record AreMergedTrees (needs : List (Option Need)) (windowed_on : ℕ → Bool) (merged : List (Option FusedTree)) : Type 0 where
  pub each : (source : ℕ) (tree : FusedTree) → get_or merged source None ≡ Some tree → IsMergedTree needs (windowed_on source) source tree

-- their offsets are such as a loop may have
pub record AreNear (merged : List (Option FusedTree)) : Type 0 where
  pub each : (source : ℕ) (tree : FusedTree) → get_or merged source None ≡ Some tree → IsNear tree

-- what is known of a query before its definitions are gone through
pub record IsKnown (inputs : ℕ) (defs : List Definition) (used : List Bool) : Type 0 where
  pub few : inputs + length defs ≤ 256
  pub definitions : AreDefinitions inputs defs
  pub are_used : AreUsed used (needs inputs defs)
  pub near : AreWithin (evenly REACH) (needs inputs defs)

-- the definitions before a place are gone through: with the loops of the others, the loops so far are all
pub record IsPlanned (fuse : Bool) (inputs : ℕ) (defs : List Definition) (place : ℕ) (merged : List (Option FusedTree))
    (loops : List PlannedLoop) : Type 0 where
  pub many : length merged ≡ inputs + place
  pub trees : AreMergedTrees (needs inputs defs) (is_windowed (drop place defs) (drop place (needs_from inputs defs))) merged
  pub so_far : loops ++ loops_from fuse inputs place merged (drop place defs) (drop place (needs_from inputs defs))
      ≡ loops_from fuse inputs 0 (replicate inputs None) defs (needs_from inputs defs)
