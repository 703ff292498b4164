-- Which earlier loops a loop reads, and which later loops read its buffer. All reads of a buffer by one loop count as one, which says
-- the first and the last tick that they read, seen from the grid point.
use Rattle.std.specs.Prelude.{◌≡◌, ◌≤◌, ◌+◌, ℕ, ◌≤ℤ◌, true, List, length, slice_get, Some}
use Rattle.std.specs.List.{AllByRecursion, Contains}
use Rattle.tilt_code.specs.Code.{CodeParts, LoopParts}
use Rattle.tilt_stream.specs.Snap.{Snapshot}
use Rattle.tilt_pipe.specs.Made.{Work, works_of}
use Rattle.tilt_pipe.specs.Reads.{body_reads}
use Rattle.tilt_pipe.specs.declared.chain.Reader.{Reader}
use Rattle.tilt_pipe.specs.declared.read.Read.{Read}
use Rattle.tilt_pipe.specs.declared.sources.Source.{Source}

-- one of these reads, and it is of that buffer
pub record IsRead (reads : List Read) (buffer : ℕ) (r : Read) : Type 0 where
  pub among : Contains reads r
  pub of : r.buffer ≡ buffer

-- the first tick of a source is the first tick of one of the reads, and the same holds of its last tick
pub record IsSource (inputs : ℕ) (reads : List Read) (s : Source) : Type 0 where
  pub first : (r : Read) × IsRead reads (inputs + s.place) r × (s.first ≡ r.first)
  pub last : (r : Read) × IsRead reads (inputs + s.place) r × (s.last ≡ r.last)

-- one of the sources reads at least what a read does
pub record IsCovered (inputs : ℕ) (sources : List Source) (r : Read) : Type 0 where
  pub source : Source
  pub among : Contains sources source
  pub of : r.buffer ≡ inputs + source.place
  pub first : source.first ≤ℤ r.first
  pub last : r.last ≤ℤ source.last

-- the sources of a loop with these reads
pub record AreSources (inputs : ℕ) (reads : List Read) (sources : List Source) : Type 0 where
  pub each : AllByRecursion (IsSource inputs reads) sources
  pub all : (r : Read) → Contains reads r → inputs ≤ r.buffer → IsCovered inputs sources r

-- a reader of the buffer of the loop at a place is a loop, and its first tick is the first tick of one of its reads
pub record IsReaderOf (inputs : ℕ) (loops : List LoopParts) (place : ℕ) (reader : Reader) : Type 0 where
  pub loop : LoopParts
  pub is : slice_get loops reader.place ≡ Some loop
  pub read : Read
  pub reads : IsRead (body_reads loop.body) (inputs + place) read
  pub first : reader.first ≡ read.first

-- one of the readers is the loop with a number, and reads no later than a read does
pub record HasReader (readers : List Reader) (k : ℕ) (r : Read) : Type 0 where
  pub reader : Reader
  pub among : Contains readers reader
  pub place : reader.place ≡ k
  pub first : reader.first ≤ℤ r.first

-- the readers of the buffer of the loop at a place, among the loops from one on that are used
pub record AreReaders (code : CodeParts) (inputs : List (List Snapshot)) (from place : ℕ) (readers : List Reader) : Type 0 where
  pub each : AllByRecursion (IsReaderOf (length inputs) code.loops place) readers
  pub all : (k : ℕ) (w : Work) (r : Read) → from ≤ k → slice_get (works_of code inputs) k ≡ Some w → w.used ≡ true
      → IsRead (body_reads w.loop.body) (length inputs + place) r → HasReader readers k r
