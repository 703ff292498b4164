-- What is kept of the loops of a pipe while their turns are made.
use Rattle.std.specs.Prelude.{◌≡◌, ◌≢◌, ◌⊎◌, ◌<◌, ◌≤◌, ◌+◌, ℕ, ℤ, pos, neg_ℤ, ◌+ℤ◌, ◌<ℤ◌, ◌≤ℤ◌, int_lt, ◌&&◌, if◌then◌else◌}
use Rattle.std.specs.Prelude.{List, [], get_or, length, map, slice_get, Option, Some, None}
use Rattle.std.specs.Global.{Vec}
use Rattle.std.specs.List.{AllByRecursion, Contains}
use Rattle.tilt_base.specs.declared.limits.TheConstants.{OFFSET}
use Rattle.tilt_code.specs.Code.{CodeParts, LoopParts}
use Rattle.tilt_code.specs.Run.{buffers_of}
use Rattle.tilt_stream.specs.Snap.{Snapshot}
use Rattle.tilt_turn.specs.Held.{IsFit}
use Rattle.tilt_turn.specs.Ready.{IsKept}
use Rattle.tilt_pipe.specs.Made.{Work, works_of}
use Rattle.tilt_pipe.specs.Positions.{RingsParts, AreRings, IsOpen, forgotten_of, lists_of, stages_at, start_at, starts_of, works_in}
use Rattle.tilt_pipe.specs.declared.read.Read.{Read}
use Rattle.tilt_pipe.specs.Reads.{body_reads, turn_point}
use Rattle.tilt_pipe.specs.Rings.{rings_of}
use Rattle.tilt_pipe.specs.Sources.{AreReaders, AreSources, IsReaderOf}
use Rattle.tilt_pipe.specs.Trimmed.{HasLetGo, KeepsWanted, StandAlike, reads_next}
use Rattle.tilt_pipe.specs.declared.chain.Chain.{Chain}
use Rattle.tilt_pipe.specs.declared.chain.LoopTurns.{LoopTurns}
use Rattle.tilt_pipe.specs.declared.chain.Reader.{Reader}
use Rattle.tilt_pipe.specs.declared.sources.Source.{Source}

-- the loop at a place has made all up to a tick, or all, if the loops are at these starts
abbrev pub HasMade : List Work → List ℤ → ℕ → ℤ → Type 0
HasMade works starts place tick = (w : Work) → slice_get works place ≡ Some w
    → (w.loop.hi ≤ℤ get_or starts place (pos 0)) ⊎ (tick ≤ℤ get_or starts place (pos 0))

-- the same if the loops are where their rings say
abbrev pub IsReached : RingsParts → ℕ → ℤ → Type 0
IsReached p = HasMade (works_in p) (starts_of p.rings)

-- the first `count` of these sources have made all up to the last tick that is read there at a grid point, or all
abbrev pub AreReached : List Work → List ℤ → ℤ → List Source → ℕ → Type 0
AreReached works starts point sources count =
    (k : ℕ) (s : Source) → k < count → slice_get sources k ≡ Some s → HasMade works starts s.place (point +ℤ s.last)

-- the turns of the loop at a place: its state is fit for its next turn over the whole buffers, and its sources and readers are known. The
-- sources that count as passed have made all that this turn reads
pub record AreTurnsOf (code : CodeParts) (inputs : List (List Snapshot)) (starts : List ℤ) (place : ℕ) (w : Work) (turns : LoopTurns)
    : Type 0 where
  pub sources : AreSources (length inputs) (body_reads w.loop.body) turns.sources.items
  pub readers : AreReaders code inputs 0 place turns.readers.items
  pub fit : (point : ℤ) × (point ≤ℤ turn_point w.loop (get_or starts place (pos 0)))
      × IsFit (buffers_of code inputs) w.loop point turns.state
  pub passed : AreReached (works_of code inputs) starts (turn_point w.loop (get_or starts place (pos 0))) turns.sources.items turns.passed

-- the same of each loop
pub record AreTurns (code : CodeParts) (inputs : List (List Snapshot)) (starts : List ℤ) (all : List LoopTurns) : Type 0 where
  pub begins : length starts ≡ length code.loops
  pub many : length all ≡ length code.loops
  pub each : (k : ℕ) (w : Work) (turns : LoopTurns) → slice_get (works_of code inputs) k ≡ Some w → slice_get all k ≡ Some turns
      → AreTurnsOf code inputs starts k w turns

-- the grid point of a loop's next turn, if it is at work
abbrev pub point_at : RingsParts → ℕ → Work → Option ℤ
point_at p place w =
    if w.used && int_lt (start_at p place) w.loop.hi then Some (turn_point w.loop (start_at p place)) else None

-- the same of each loop
abbrev pub ArePoints : RingsParts → List (Option ℤ) → Type 0
ArePoints p points = (k : ℕ) (w : Work) → slice_get (works_in p) k ≡ Some w → slice_get points k ≡ Some (point_at p k w)

-- for each loop, who holds its ring: a reader of it, or none that is known
pub record AreHolders (inputs : ℕ) (loops : List LoopParts) (holders : List (Option Reader)) : Type 0 where
  pub many : length holders ≡ length loops
  pub among : (k : ℕ) (reader : Reader) → slice_get holders k ≡ Some (Some reader) → IsReaderOf inputs loops k reader

-- the rings in a list, and none if there is no list
abbrev pub rings_listed : Option (Vec ℕ) → List ℕ
rings_listed None = []
rings_listed (Some list) = list.items

-- the rings in the list of the loop at a place
abbrev pub held_in : List (Vec ℕ) → ℕ → List ℕ
held_in held place = rings_listed (slice_get held place)

-- for each loop a list of rings: all that it holds are in it
pub record AreLists (holders : List (Option Reader)) (held : List (Vec ℕ)) : Type 0 where
  pub many : length held ≡ length holders
  pub listed : (k : ℕ) (reader : Reader) → slice_get holders k ≡ Some (Some reader) → Contains (held_in held reader.place) k
  pub within : (place k : ℕ) → Contains (held_in held place) k → k < length holders

-- the tick that the holder of a ring reads next; none if nobody is known to hold it
abbrev pub holder_next : RingsParts → Option Reader → Option ℤ
holder_next p None = None
holder_next p (Some reader) = reads_next p reader

-- all that ends below what the next turn of a holder reads first was let go of a ring. All of it was let go if the holder has no next turn,
-- or nobody holds the ring. So the holder reads the first snapshot that the ring holds, if there is one
abbrev pub IsHeldBy : RingsParts → ℕ → Option Reader → Type 0
IsHeldBy p k holder = HasLetGo p k (holder_next p holder)

-- the same of the holder of the ring
abbrev pub IsHeld : RingsParts → List (Option Reader) → ℕ → Type 0
IsHeld p holders k = (holder : Option Reader) → slice_get holders k ≡ Some holder → IsHeldBy p k holder

-- the turns of a chain, whatever its rings hold
abbrev pub HasTurns : Chain → Type 0
HasTurns c = AreTurns c.rings.code c.rings.inputs (starts_of c.rings.rings) c.turns.items

-- its points
abbrev pub HasPoints : Chain → Type 0
HasPoints c = ArePoints c.rings c.points.items

-- and who holds its rings
abbrev pub HasHolders : Chain → Type 0
HasHolders c = AreHolders (length c.rings.inputs) c.rings.code.loops c.holders.items

-- and the lists of the rings that loops hold
abbrev pub HasLists : Chain → Type 0
HasLists c = AreLists c.holders.items c.held.items

-- a pipe's loops between two turns: each state is fit, and the points are the grid points of the next turns. Each ring holds exactly what
-- the next turns of later loops may read, and its holder reads the first of that
pub record IsChain (c : Chain) : Type 0 where
  pub turns : HasTurns c
  pub points : HasPoints c
  pub holders : HasHolders c
  pub lists : HasLists c
  pub held : (k : ℕ) → IsHeld c.rings c.holders.items k
  pub exact : map (λ r. r.held) c.rings.rings ≡ rings_of (length c.rings.inputs) (stages_at (works_in c.rings) (starts_of c.rings.rings))

-- a chain whose rings may let go what isn't wanted: its turns, its points and the holders of its rings are known. Of no ring was more let
-- go than that
pub record MayLetGo (c : Chain) : Type 0 where
  pub turns : HasTurns c
  pub points : HasPoints c
  pub holders : HasHolders c
  pub lists : HasLists c
  pub wanted : (k : ℕ) → KeepsWanted c.rings k

-- the holder of a ring reads the first snapshot there; if nobody is known to hold it, there is none
abbrev pub IsSettled : Chain → ℕ → Type 0
IsSettled c k = IsHeld c.rings c.holders.items k

-- what one ring lets go: no ring takes anything back, the holders of the others are the same, and nothing goes off a list
pub record LetsGo (old new : Chain) (place : ℕ) : Type 0 where
  pub may : MayLetGo new
  pub turns : new.turns.items ≡ old.turns.items
  pub rings : AreRings new.rings
  pub alike : StandAlike old.rings new.rings
  pub more : (k : ℕ) (tick : Option ℤ) → HasLetGo old.rings k tick → HasLetGo new.rings k tick
  pub others : (k : ℕ) → k ≢ place → slice_get new.holders.items k ≡ slice_get old.holders.items k
  pub listed : (j n k : ℕ) → slice_get (held_in old.held.items j) n ≡ Some k → slice_get (held_in new.held.items j) n ≡ Some k

-- the same, until the ring is settled
pub record Settles (old new : Chain) (place : ℕ) : Type 0 where
  pub lets : LetsGo old new place
  pub settled : IsSettled new place

-- a ring is settled, or it is one of the first in the list of a loop, as many as that
abbrev pub IsLeft : Chain → ℕ → ℕ → ℕ → Type 0
IsLeft c place count k = IsSettled c k ⊎ ((n : ℕ) × (n < count) × (slice_get (held_in c.held.items place) n ≡ Some k))

-- so is each ring, after a turn of the loop
pub record AreLeft (c : Chain) (place count : ℕ) : Type 0 where
  pub may : MayLetGo c
  pub rings : AreRings c.rings
  pub there : place < length c.rings.rings
  pub many : count ≤ length (held_in c.held.items place)
  pub left : (k : ℕ) → k < length c.rings.rings → IsLeft c place count k

-- a reader of a ring, whose next turn reads the first snapshot there
pub record IsHolder (c : Chain) (k : ℕ) (reader : Reader) : Type 0 where
  pub own : IsReaderOf (length c.rings.inputs) c.rings.code.loops k reader
  pub holds : IsHeldBy c.rings k (Some reader)

-- a read at a grid point is known: it is one of an input, or the loop has made all up to that tick, or all
abbrev pub IsTold : RingsParts → ℤ → Read → Type 0
IsTold p point r = (source : ℕ) (w : Work) → r.buffer ≡ length p.inputs + source → slice_get (works_in p) source ≡ Some w
    → (w.loop.hi ≤ℤ start_at p source) ⊎ ((point +ℤ r.last) ≤ℤ start_at p source)

-- the same of all that a loop's next turn reads
abbrev pub AreTold : RingsParts → ℕ → Work → Type 0
AreTold p place w = AllByRecursion (IsTold p (turn_point w.loop (start_at p place))) (body_reads w.loop.body)

-- a loop's next turn may be made
pub record MayTurn (p : RingsParts) (place : ℕ) (turns : LoopTurns) (w : Work) : Type 0 where
  pub is_open : IsOpen p place w
  pub told : AreTold p place w
  pub kept : AllByRecursion (IsKept (lists_of p) (forgotten_of p) (turn_point w.loop (start_at p place))) w.loop.body
  pub fit : (point : ℤ) × (point ≤ℤ turn_point w.loop (start_at p place)) × IsFit (buffers_of p.code p.inputs) w.loop point turns.state

-- a loop that has made less than the next turn of a later one reads, and not all
pub record IsBehind (p : RingsParts) (place : ℕ) (w : Work) (source : ℕ) : Type 0 where
  pub read : Read
  pub reads : Contains (body_reads w.loop.body) read
  pub of : read.buffer ≡ length p.inputs + source
  pub earlier : source < place
  pub behind : Work
  pub is_open : IsOpen p source behind
  pub short : start_at p source <ℤ (turn_point w.loop (start_at p place) +ℤ read.last)

-- it has made less, and not all
pub record IsLate (p : RingsParts) (place : ℕ) (tick : ℤ) : Type 0 where
  pub work : Work
  pub is_open : IsOpen p place work
  pub short : start_at p place <ℤ tick

-- a source that is one of `count` loops, and reads no further off than an offset goes
pub record IsNearSource (count : ℕ) (s : Source) : Type 0 where
  pub there : s.place < count
  pub low : (neg_ℤ OFFSET) ≤ℤ s.last
  pub high : s.last ≤ℤ OFFSET
