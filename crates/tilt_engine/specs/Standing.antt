-- Where the loops of an engine stand, over the whole buffers of its code (our own rule).
use Rattle.std.specs.Prelude.{◌≡◌, ◌⊎◌, ◌<◌, ◌≤ℤ◌, ◌<ℤ◌, ◌+ℤ◌, neg_ℤ, ℕ, ◌+◌, ◌*◌, ℤ, pos, Bool, true, false, if◌then◌else◌, List, length, map, slice_get}
use Rattle.std.specs.Prelude.{Option, Some, None, is_none, suc, [], ◌∷◌, ◌++◌, get_or}
use Rattle.std.specs.List.{AllByRecursion}
use Rattle.std.specs.Int.{int_gap}
use Rattle.std.specs.Option.{ForSome}
use Rattle.tilt_base.specs.declared.limits.TheConstants.{WIDE}
use Rattle.tilt_code.specs.Code.{CodeParts, LoopParts}
use Rattle.tilt_code.specs.Run.{buffers_of}
use Rattle.tilt_engine.specs.CodeHorizon.{block_horizon, code_horizons}
use Rattle.tilt_engine.specs.Gone.{BeginsWith, IsGoneFor, rests}
use Rattle.tilt_engine.specs.GoingOn.{AllGoOn, GoOn}
use Rattle.tilt_engine.specs.Stock.{InletParts, MadeParts, inlet_horizon, inlet_list, pieces, reached, with_settled, with_waiting}
use Rattle.tilt_feed.specs.Horizon.{Horizon, IsKnownAt, horizon_of, is_known_at}
use Rattle.tilt_pipe.specs.Made.{Work, works_of}
use Rattle.tilt_pipe.specs.Positions.{RingParts, RingsParts, made_by}
use Rattle.tilt_pipe.specs.Reads.{turn_point}
use Rattle.tilt_stream.specs.Snap.{Fill, Snapshot}
use Rattle.tilt_turn.specs.Held.{IsFit}
use Rattle.tilt_turn.specs.Ready.{IsReady}
use Rattle.tilt_turn.specs.declared.state.LoopState.{LoopState}

-- the horizon of the loop at a place, of a code whose inputs have these horizons
abbrev pub loop_at : CodeParts → List Horizon → ℕ → Horizon
loop_at code hs place = horizon_of (code_horizons code hs) (length code.inputs + place)

-- a state that has made no turn: it is fit for all lists
abbrev pub IsFresh : LoopParts → LoopState → Type 0
IsFresh l state = (lists : List (List Snapshot)) (point : ℤ) → IsReady (length lists) l → neg_ℤ WIDE ≤ℤ point → IsFit lists l point state

-- a state that is fit over whole buffers: at a grid point that isn't above that of the next turn, and at which all that the loop reads is
-- known
pub record IsFitAt (wholes : List (List Snapshot)) (hs : List Horizon) (l : LoopParts) (settled : ℤ) (state : LoopState) : Type 0 where
  pub point : ℤ
  pub low : neg_ℤ WIDE ≤ℤ point
  pub below : point ≤ℤ turn_point l settled
  pub known : IsKnownAt (block_horizon hs l.body) point
  pub fit : IsFit wholes l point state

-- either
abbrev pub IsStateAt : List (List Snapshot) → List Horizon → LoopParts → ℤ → LoopState → Type 0
IsStateAt wholes hs l settled state = IsFresh l state ⊎ IsFitAt wholes hs l settled state

-- a snapshot whose end may still change: the next one of a whole buffer, whose first tick is known and whose end isn't
pub record IsWaiting (whole : List Snapshot) (count : ℕ) (h : Horizon) (s : Snapshot) : Type 0 where
  pub next : slice_get whole count ≡ Some s
  pub first : IsKnownAt h (s.start +ℤ pos 1)
  pub last : is_known_at h s.end ≡ false

-- what has gone of the buffer of a loop
abbrev pub gone_at : CodeParts → List (List Snapshot) → ℕ → List Snapshot
gone_at code gone place = get_or gone (length code.inputs + place) []

-- what a loop has made, and its state: a part of its whole buffer is settled, and known. Nothing has gone that its next turn reads
pub record IsLoopAt (code : CodeParts) (rows gone : List (List Snapshot)) (hs : List Horizon) (place : ℕ) (w : Work) (m : MadeParts)
    (state : LoopState) : Type 0 where
  pub fill : Fill w.loop.lo m.settled (made_by m.settled w.whole)
  pub made : gone_at code gone place ++ m.made ≡ made_by m.settled w.whole
  pub within : m.settled ≤ℤ w.loop.hi
  pub hi : m.hi ≡ w.loop.hi
  pub known : IsKnownAt (loop_at code hs place) m.settled
  pub waiting : ForSome m.waiting (IsWaiting w.whole (length (made_by m.settled w.whole)) (loop_at code hs place))
  pub unread : m.settled <ℤ w.loop.hi → AllByRecursion (IsGoneFor gone (turn_point w.loop m.settled)) w.loop.body
  pub fit : IsStateAt (rests gone (buffers_of code rows)) (code_horizons code hs) w.loop m.settled state

-- a loop that has made all that is known
abbrev pub IsDone : Horizon → MadeParts → Type 0
IsDone h m = (tick : ℤ) → IsKnownAt h tick → (m.hi ≤ℤ reached m) ⊎ (tick ≤ℤ reached m)

-- the same of each loop, of which the first ones, as many as that, have made all that is known
pub record AreLoops (code : CodeParts) (rows gone : List (List Snapshot)) (hs : List Horizon) (loops : List MadeParts)
    (states : List LoopState) (upto : ℕ) : Type 0 where
  pub inputs : length rows ≡ length code.inputs
  pub begin : (number : ℕ) → number < length code.inputs → BeginsWith (get_or gone number []) (get_or rows number [])
  pub horizons : length hs ≡ length code.inputs
  pub many : length loops ≡ length code.loops
  pub many_states : length states ≡ length code.loops
  pub each : (k : ℕ) (w : Work) (m : MadeParts) (state : LoopState) → slice_get (works_of code rows) k ≡ Some w
      → slice_get loops k ≡ Some m → slice_get states k ≡ Some state → IsLoopAt code rows gone hs k w m state
  pub done : (k : ℕ) (m : MadeParts) → k < upto → slice_get loops k ≡ Some m → IsDone (loop_at code hs k) m

-- the same, and the inputs are what is left of their rows
pub record IsStockOf (code : CodeParts) (rows gone : List (List Snapshot)) (hs : List Horizon) (inlets : List InletParts)
    (loops : List MadeParts) (states : List LoopState) (upto : ℕ) : Type 0 where
  pub left : map inlet_list inlets ≡ rests gone rows
  pub are : AreLoops code rows gone hs loops states upto

-- inputs that have gone on from these rows to later ones: the whole rows, and what is left of them
pub record InletsGoOn (code : CodeParts) (rows later gone : List (List Snapshot)) (hs : List Horizon) (finished : Bool)
    (inlets : List InletParts) : Type 0 where
  pub whole : GoOn hs rows (map (inlet_horizon finished) inlets) later
  pub left : map inlet_list inlets ≡ rests gone later
  pub rest : AllGoOn hs (rests gone rows) (rests gone later)
  pub begin : (number : ℕ) → number < length code.inputs → BeginsWith (get_or gone number []) (get_or later number [])

-- what a loop has made, as a ring that has let its first snapshots go
abbrev pub ring_of : List Snapshot → MadeParts → RingParts
ring_of gone m = record { held = pieces m; forgotten = length gone; start = reached m; hi = m.hi }

-- the rings of loops, of which the first fills the buffer with the number
abbrev pub rings_of : List (List Snapshot) → ℕ → List MadeParts → List RingParts
rings_of gone buffer [] = []
rings_of gone buffer (m ∷ loops) = ring_of (get_or gone buffer []) m ∷ rings_of gone (suc buffer) loops

-- the rings of all loops of a code
abbrev pub rings_parts : CodeParts → List (List Snapshot) → List (List Snapshot) → List MadeParts → RingsParts
rings_parts code rows gone loops = record { code = code; inputs = rows; rings = rings_of gone (length code.inputs) loops }

-- the next turn of a loop is to be made: its first tick is known, and no turn waits for its end to be known
pub record MayTurn (h : Horizon) (m : MadeParts) : Type 0 where
  pub none : m.waiting ≡ None
  pub before : m.settled <ℤ m.hi
  pub first : IsKnownAt h (m.settled +ℤ pos 1)

-- what a loop has made, and the snapshot of its next turn, whose end is known or not
abbrev pub with_piece : Bool → Snapshot → MadeParts → MadeParts
with_piece true s m = with_settled s m
with_piece false s m = with_waiting s m

-- a bound of the turns that a loop may still make
abbrev pub turns_of : MadeParts → ℕ
turns_of m = 2 * int_gap m.settled m.hi + (if is_none m.waiting then 1 else 0)

-- the same of the loop at a place
abbrev pub turns_at : Option MadeParts → ℕ
turns_at None = 0
turns_at (Some m) = turns_of m

abbrev pub turns_left : List MadeParts → ℕ → ℕ
turns_left loops place = turns_at (slice_get loops place)
