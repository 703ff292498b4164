-- What the leaves and the registers of a loop hold when its body is gone over at a grid point.
use Rattle.std.specs.Prelude.{◌≡◌, ℕ, ℤ, List, Option, map}
use Rattle.std.specs.List.{AllByRecursion}
use Rattle.tilt_code.specs.Body.{leaf_of}
use Rattle.tilt_code.specs.Code.{Block, LoopParts}
use Rattle.tilt_stream.specs.Snap.{Snapshot}
use Rattle.tilt_stream.specs.Stream.{stream_of}
use Rattle.tilt_stream.specs.declared.seen.Seen.{Seen}
use Rattle.tilt_turn.specs.Held.{AreAllRead, ConstantsStand, IsLeafAt, IsPlacedBy, origin, places_of}
use Rattle.tilt_turn.specs.Ready.{IsBodyTick, IsKept, NameEarlier}
use Rattle.tilt_turn.specs.Sight.{Sees}
use Rattle.tilt_turn.specs.declared.leaf.Leaf.{Leaf}
use Rattle.tilt_turn.specs.declared.placed.Placed.{Placed}

-- what a leaf reads may be read at a grid point: each map names earlier registers. What the leaf reads first there is kept, when this many
-- of each list are forgotten
pub record MayLook (lists : List (List Snapshot)) (forgotten : List ℕ) (maps : List Block) (point : ℤ) (own : Leaf) : Type 0 where
  pub earlier : AllByRecursion (NameEarlier 0) maps
  pub near : IsBodyTick point
  pub kept : IsKept lists forgotten point (origin own)

-- what holds after that: the leaf is at the grid point, reads what it read before, and this is seen of it there
pub record LooksTo (lists : List (List Snapshot)) (maps : List Block) (point : ℤ) (old new : Leaf) (seen : Seen) : Type 0 where
  pub at : IsLeafAt lists maps point new
  pub same : origin new ≡ origin old
  pub sees : Sees (leaf_of (map stream_of lists) maps (origin old)) point seen

-- leaves and registers that may go on to a grid point: the leaves read all that the body reads. What they read first there is kept, when
-- this many of each list are forgotten
pub record MayStep (lists : List (List Snapshot)) (forgotten : List ℕ) (l : LoopParts) (point : ℤ) (leaves : List Placed)
    (registers : List (Option ℤ)) : Type 0 where
  pub all : AreAllRead l.body (map places_of leaves)
  pub fit : AllByRecursion (IsPlacedBy lists l.maps l.body registers point) leaves
  pub stand : ConstantsStand l.body registers
  pub earlier : AllByRecursion (NameEarlier 0) l.maps
  pub near : IsBodyTick point
  pub kept : AllByRecursion (IsKept lists forgotten point) l.body

-- what holds after that: the leaves are at the grid point, and have the places that they had
pub record StepsTo (lists : List (List Snapshot)) (l : LoopParts) (point : ℤ) (old new : List Placed) (registers : List (Option ℤ))
    : Type 0 where
  pub fit : AllByRecursion (IsPlacedBy lists l.maps l.body registers point) new
  pub same : map places_of new ≡ map places_of old
  pub stand : ConstantsStand l.body registers
