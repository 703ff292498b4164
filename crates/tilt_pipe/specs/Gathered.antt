-- What is kept of the loops of a pipe before their first turns, while it is found which loops they read and which read their buffers.
use Rattle.std.specs.Global.{Vec}
use Rattle.tilt_pipe.specs.Chain.{held_in}
use Rattle.std.specs.Prelude.{◌≡◌, ◌<◌, ◌≤◌, ℕ, suc, ℤ, ◌≤ℤ◌, true, List, length, slice_get, Some, []}
use Rattle.std.specs.List.{Contains}
use Rattle.tilt_code.specs.Run.{buffers_of}
use Rattle.tilt_turn.specs.Held.{IsFit}
use Rattle.tilt_pipe.specs.Made.{Work}
use Rattle.tilt_pipe.specs.Positions.{RingsParts, start_at, works_in}
use Rattle.tilt_pipe.specs.Reads.{body_reads, turn_point}
use Rattle.tilt_pipe.specs.Sources.{AreReaders, AreSources}
use Rattle.tilt_pipe.specs.declared.chain.LoopTurns.{LoopTurns}
use Rattle.tilt_pipe.specs.declared.sources.Source.{Source}

-- what is kept of a loop, once the loops from one on have said what they read: its state is fit for its first turn. No source is known to
-- have made enough, and a loop that has a reader is used
pub record HasBegun (p : RingsParts) (from place : ℕ) (w : Work) (turns : LoopTurns) : Type 0 where
  pub fit : (point : ℤ) × (point ≤ℤ turn_point w.loop (start_at p place)) × IsFit (buffers_of p.code p.inputs) w.loop point turns.state
  pub sources : from ≤ place → AreSources (length p.inputs) (body_reads w.loop.body) turns.sources.items
  pub readers : AreReaders p.code p.inputs from place turns.readers.items
  pub used : 0 < length turns.readers.items → w.used ≡ true
  pub passed : turns.passed ≡ 0

-- the same once the loops after one have, and so have the first `count` sources of that one, if it is used
pub record HasAdded (p : RingsParts) (one : ℕ) (sources : List Source) (count place : ℕ) (w : Work) (turns : LoopTurns) : Type 0 where
  pub begun : HasBegun p (suc one) place w turns
  pub found : (v : Work) → slice_get (works_in p) one ≡ Some v → v.used ≡ true
      → (i : ℕ) (s : Source) → i < count → slice_get sources i ≡ Some s → s.place ≡ place
      → Contains turns.readers.items (record { place = one; first = s.first })

-- the same of each of `count` loops
pub record AreEach {T : Type 0} (p : RingsParts) (count : ℕ) (Has : ℕ → Work → T → Type 0) (all : List T) : Type 0 where
  pub many : length all ≡ count
  pub each : (k : ℕ) (w : Work) (t : T) → slice_get (works_in p) k ≡ Some w → slice_get all k ≡ Some t → Has k w t

-- the loops of a code, once the loops from one on have said what they read
abbrev pub HaveBegun : RingsParts → ℕ → List LoopTurns → Type 0
HaveBegun p from all = AreEach p (length p.code.loops) (HasBegun p from) all

-- `count` lists of rings, which are empty
pub record AreEmpty (count : ℕ) (lists : Vec (Vec ℕ)) : Type 0 where
  pub many : length lists.items ≡ count
  pub none : (place : ℕ) → held_in lists.items place ≡ []
