-- What cursors, windows and leaves hold between the turns of a loop.
use Rattle.std.specs.Prelude.{ℕ, ℤ, true, List, [], ◌∷◌, Option, Some, None, ⊤, ◌⊎◌}
use Rattle.std.specs.Prelude.{◌≡◌, ◌≤◌, pos, neg_ℤ, ◌+ℤ◌, ◌-ℤ◌, ◌<ℤ◌, ◌≤ℤ◌, ◌<◌, map, get_or, length, IfSome}
use Rattle.std.specs.List.{AllByRecursion}
use Rattle.tilt_base.specs.Offset.{IsOffset}
use Rattle.tilt_base.specs.declared.limits.TheConstants.{WIDE}
use Rattle.tilt_code.specs.Body.{leaf_of, mapped}
use Rattle.tilt_code.specs.Code.{Block, LoopParts}
use Rattle.tilt_code.specs.declared.instr.Instr.{Instr}
use Rattle.tilt_code.specs.declared.instr.Instr.TheVariants as instr
use Rattle.tilt_stream.specs.Marks.{NamesNextMark}
use Rattle.tilt_stream.specs.Snap.{Snapshot, ended_below}
use Rattle.tilt_stream.specs.Stream.{stream_of}
use Rattle.tilt_stream.specs.Window.{met}
use Rattle.tilt_stream.specs.declared.cursor.Cursor.{Cursor}
use Rattle.tilt_turn.specs.Kinds.{kind_cells, kind_reducer}
use Rattle.tilt_stream.specs.Marked.{marked}
use Rattle.tilt_turn.specs.Picked.{computes, picked, reads}
use Rattle.tilt_turn.specs.Ready.{IsReadable, IsReadableWindow}
use Rattle.tilt_turn.specs.Sight.{Sees}
use Rattle.tilt_turn.specs.declared.leaf.Leaf.{Leaf}
use Rattle.tilt_turn.specs.declared.leaf.Leaf.TheVariants.{Port, Window}
use Rattle.tilt_turn.specs.declared.port.PortLeaf.{PortLeaf}
use Rattle.tilt_turn.specs.declared.placed.Placed.{Placed}
use Rattle.tilt_turn.specs.declared.span.WindowLeaf.{WindowLeaf}
use Rattle.tilt_turn.specs.declared.moving.Moving.{Moving}
use Rattle.tilt_turn.specs.declared.moving.NextMark.{NextMark}
use Rattle.tilt_turn.specs.declared.moving.NextMark.TheVariants.{Known, Unknown}
use Rattle.tilt_turn.specs.declared.state.LoopState.{LoopState}

-- a cursor that may move to a tick, where the snapshots from that tick on are kept
pub record MayMove (list : List Snapshot) (tick : ℤ) (c : Cursor) : Type 0 where
  pub fits : c.place ≤ ended_below c.tick list
  pub onwards : c.tick ≤ℤ tick

-- a window from a first tick up to the tick of its cursor: its cells are, by the map, those that these ticks meet. Its marks are those
-- after the first tick
pub record Holds (list : List Snapshot) (by_map : Option ℤ → Option ℤ) (first : ℤ) (w : Moving) : Type 0 where
  pub cells : kind_cells w.kind ≡ map by_map (met (stream_of list) (first -ℤ pos 1) w.back.tick)
  pub marks : w.marks.items ≡ marked (stream_of list) first w.back.tick

-- the next mark that a window has, or none if it isn't known
abbrev pub known_next : NextMark → Option ℤ
known_next (Known next) = next
known_next Unknown = None

-- what a window that was moved knows of its list: the place of its last tick, and the next mark above it
pub record Knows (list : List Snapshot) (w : Moving) : Type 0 where
  pub place : w.back.place ≡ ended_below w.back.tick list
  pub next : NamesNextMark (stream_of list) w.back.tick (known_next w.next)
  pub low : IfSome (known_next w.next) (λ next. neg_ℤ WIDE <ℤ next)
  pub high : IfSome (known_next w.next) (λ next. next ≤ℤ (WIDE +ℤ pos 1))

-- what a window must know of its list before it moves on: the place of its last tick, and the next mark above it unless this is `Unknown`
pub record MayKnow (list : List Snapshot) (w : Moving) : Type 0 where
  pub place : w.back.place ≡ ended_below w.back.tick list
  pub known : (w.next ≡ Unknown) ⊎ Knows list w

-- a window that may go on to any first tick from this one on. It holds what the ticks from there on meet, and knows enough of its list if
-- it was moved before
pub record MayBegin (list : List Snapshot) (by_map : Option ℤ → Option ℤ) (first : ℤ) (w : Moving) : Type 0 where
  pub held : Holds list by_map first w
  pub known : first ≤ℤ w.back.tick → MayKnow list w

-- a window that moves on to a last tick: it is there, knows its list, and has its reducer as before
pub record MovesTo (list : List Snapshot) (last : ℤ) (old new : Moving) : Type 0 where
  pub stands : new.back.tick ≡ last
  pub knows : Knows list new
  pub reducer : kind_reducer new.kind ≡ kind_reducer old.kind

-- what a leaf reads, as the instruction that it was made of
abbrev pub origin : Leaf → Instr
origin (Port p) = instr.Port p.buffer p.offset
origin (Window w) = instr.Win (kind_reducer w.window.kind) w.buffer w.from w.to w.map

-- the places of a body that read what a leaf reads: the first one, and those of later instructions that are equal to it
abbrev pub places_of : Placed → List ℕ
places_of p = p.place ∷ p.again.items

-- a place of a body that has this instruction
abbrev pub IsPlaceOf : Block → Instr → ℕ → Type 0
IsPlaceOf body i place = (place < length body) × (get_or body place (instr.Const (pos 0)) ≡ i)

-- a place is one of these
abbrev pub IsOneOf : ℕ → List ℕ → Type 0
IsOneOf place [] = ⊥
IsOneOf place (first ∷ rest) = (place ≡ first) ⊎ IsOneOf place rest

-- a place is one of those of some leaf
abbrev pub IsAmong : ℕ → List (List ℕ) → Type 0
IsAmong place [] = ⊥
IsAmong place (own ∷ rest) = IsOneOf place own ⊎ IsAmong place rest

-- each place of a body that reads a buffer is one of those of some leaf
abbrev pub AreAllRead : Block → List (List ℕ) → Type 0
AreAllRead body leaves =
    (place : ℕ) → place < length body → reads (get_or body place (instr.Const (pos 0))) ≡ true → IsAmong place leaves

-- a port that may be read, and its cursor, at a grid point
abbrev pub IsPortAt : List (List Snapshot) → ℤ → PortLeaf → Type 0
IsPortAt lists point p = IsOffset p.offset × MayMove (get_or lists p.buffer []) (point +ℤ p.offset) p.cursor

-- a window that may be read, its cursor, and its cells from the first tick on, at a grid point
pub record IsWindowAt (lists : List (List Snapshot)) (maps : List Block) (point : ℤ) (w : WindowLeaf) : Type 0 where
  pub readable : IsReadableWindow (length maps) w.from w.to w.map
  pub cursor : MayMove (get_or lists w.buffer []) (point +ℤ w.to) w.window.back
  pub begins : MayBegin (get_or lists w.buffer []) (mapped maps w.map) (point +ℤ w.from +ℤ pos 1) w.window

-- a window that is at a grid point: it may be read there, its last tick is the last one that it reads there, and it knows its list
pub record StandsAt (lists : List (List Snapshot)) (maps : List Block) (point : ℤ) (w : WindowLeaf) : Type 0 where
  pub at : IsWindowAt lists maps point w
  pub last : w.window.back.tick ≡ point +ℤ w.to
  pub knows : Knows (get_or lists w.buffer []) w.window

-- a leaf that may be read, at a grid point
abbrev pub IsLeafAt : List (List Snapshot) → List Block → ℤ → Leaf → Type 0
IsLeafAt lists maps point (Port p) = IsPortAt lists point p
IsLeafAt lists maps point (Window w) = IsWindowAt lists maps point w

-- a leaf that may be read, at some grid point that isn't above this one
abbrev pub IsLeafBy : List (List Snapshot) → List Block → ℤ → Leaf → Type 0
IsLeafBy lists maps point own = (at : ℤ) × (at ≤ℤ point) × IsLeafAt lists maps at own

-- a leaf of a body that was never looked at
pub record IsUnread (body : Block) (p : Placed) : Type 0 where
  pub places : AllByRecursion (IsPlaceOf body (origin p.leaf)) (places_of p)
  pub never : p.next ≡ Some (neg_ℤ (pos 9223372036854775808))
  pub leaf : (lists : List (List Snapshot)) (maps : List Block) (point : ℤ) → IsReadable (length lists) (length maps) (origin p.leaf)
      → neg_ℤ WIDE ≤ℤ point → IsLeafAt lists maps point p.leaf

-- a leaf of a body that was looked at last at some grid point that isn't above this one, or never. Where its next mark lies above this
-- one, what each of its registers and its next mark say is what is seen of it here
pub record IsPlacedBy (lists : List (List Snapshot)) (maps : List Block) (body : Block) (cells : List (Option ℤ)) (point : ℤ) (p : Placed)
    : Type 0 where
  pub leaf : IsLeafBy lists maps point p.leaf
  pub places : AllByRecursion (IsPlaceOf body (origin p.leaf)) (places_of p)
  pub known : IfSome p.next (λ next. point <ℤ next)
      → AllByRecursion (λ place. Sees (leaf_of (map stream_of lists) maps (origin p.leaf)) point
      (record { cell = get_or cells place None; next = p.next })) (places_of p)

-- a cell that may be in the register of an instruction between turns: for a constant its value, for one that is gone over any cell
abbrev pub IsStanding : Instr → Option ℤ → Type 0
IsStanding (instr.Const number) cell = cell ≡ Some number
IsStanding instr.Null cell = cell ≡ None
IsStanding instr.Argument cell = cell ≡ None
IsStanding other cell = ⊤

-- one register for each instruction of a block, and in those of constants their values
abbrev pub ConstantsStand : Block → List (Option ℤ) → Type 0
ConstantsStand [] [] = ⊤
ConstantsStand [] (cell ∷ cells) = ⊥
ConstantsStand (i ∷ block) [] = ⊥
ConstantsStand (i ∷ block) (cell ∷ cells) = IsStanding i cell × ConstantsStand block cells

-- the state of a loop that may go on to any grid point from this one on. It goes over leaves that read all that the body reads, and over
-- what is computed; what is kept of the lists doesn't matter to it. It has a register for each instruction of the body
pub record IsFit (lists : List (List Snapshot)) (l : LoopParts) (point : ℤ) (state : LoopState) : Type 0 where
  pub all : AreAllRead l.body (map places_of state.leaves.items)
  pub leaves : AllByRecursion (IsPlacedBy lists l.maps l.body state.registers.items point) state.leaves.items
  pub computed : state.computed.items ≡ picked computes 0 l.body
  pub registers : ConstantsStand l.body state.registers.items
