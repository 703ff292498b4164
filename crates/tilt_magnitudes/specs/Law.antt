-- The law of bounds: rows within the intervals of the inputs give values within the intervals of all sources. When no node leaves 64 bits
-- is said in `tilt_units`.
use Rattle.std.specs.Prelude.{ℕ, ℤ, true, List}
use Rattle.std.specs.List.{AllByRecursion, AllZip}
use Rattle.tilt_core.specs.Meaning.{source_of}
use Rattle.tilt_magnitudes.specs.Interval.{Interval, BoundsCell}
use Rattle.tilt_magnitudes.specs.Magnitude.{interval_at}
use Rattle.tilt_magnitudes.specs.Marks.{HaveMarks}
use Rattle.tilt_stream.specs.Snap.{Snapshot}
use Rattle.tilt_stream.specs.Stream.{Stream}
use Rattle.tilt_units.specs.Law.{Chosen}

-- each cell of a stream is null or a number of the interval
abbrev pub BoundsStream : Interval → Stream → Type 0
BoundsStream i x = (tick : ℤ) → BoundsCell i (x.cell tick)

-- the same of each source and its interval
abbrev pub BoundSources : List Interval → List Stream → Type 0
BoundSources sources xs = (number : ℕ) → BoundsStream (interval_at sources number) (source_of xs number)

-- the values of rows are null or numbers of the interval
abbrev pub BoundsRows : Interval → List Snapshot → Type 0
BoundsRows i rows = AllByRecursion (λ (row : Snapshot). BoundsCell i row.value) rows

-- the same of each input and its interval
abbrev pub BoundInputs : List Interval → List (List Snapshot) → Type 0
BoundInputs inputs rows = AllZip BoundsRows inputs rows

-- all ticks of each source
abbrev pub everywhere : Chosen
everywhere = λ source tick. true

-- each source has at most so many marks in any number of ticks
abbrev pub HaveAllMarks : (ℕ → List ℕ) → List Stream → Type 0
HaveAllMarks marks xs = (ticks : ℕ) → HaveMarks ticks (marks ticks) xs
