-- Streams of exact fractions. Shifts, windows, grids and spans move cells in time and change none: they are those of `tilt_stream`, applied
-- to the ticks.
use Rattle.std.specs.Prelude.{ℕ, ℤ, ◌+ℤ◌, Bool, map, List, Option, Some, None, option_map, option_and_then}
use Rattle.tilt_base.specs.Reduce.{numbers}
use Rattle.tilt_base.specs.declared.operator.Op1.{Op1}
use Rattle.tilt_base.specs.declared.operator.Op2.{Op2}
use Rattle.tilt_base.specs.declared.reducer.Reducer.{Reducer}
use Rattle.tilt_fractions.specs.Exact.{exact1, exact2, exact_choose}
use Rattle.tilt_fractions.specs.ExactReduce.{exact_reduce, fractions}
use Rattle.tilt_fractions.specs.Fraction.{Fraction, parts}
use Rattle.tilt_stream.specs.Pointwise.{constant, shifted, lifted2, branched}
use Rattle.tilt_stream.specs.Snap.{Snapshot}
use Rattle.tilt_stream.specs.Stream.{Stream, cell_at, mark_at}
use Rattle.tilt_stream.specs.Window.{met, windowed}

-- at each tick an exact cell, and whether a snapshot starts there
pub record ExactStream : Type 0 where
  pub cell : ℤ → Option Fraction
  pub mark : ℤ → Bool

-- the ticks of a stream: each tick is its own cell, and the marks are the same
abbrev pub ticks_of : ExactStream → Stream
ticks_of x = record { cell = λ tick. Some tick; mark = x.mark }

-- a stream, read at the ticks that another one has in its cells, with the marks of that one; null if it has none
abbrev pub read_at : Stream → ExactStream → ExactStream
read_at ticks x = record { cell = λ tick. option_and_then x.cell (ticks.cell tick); mark = ticks.mark }

-- the rows of an input whose numbers are at a scale
abbrev pub exact_stream_of : ℕ → List Snapshot → ExactStream
exact_stream_of scale rows = record { cell = λ tick. option_map (λ n. parts n scale) (cell_at rows tick); mark = mark_at rows }

abbrev pub exact_constant : Option Fraction → ExactStream
exact_constant cell = record { cell = λ tick. cell; mark = (constant None).mark }

abbrev pub exact_shifted : ExactStream → ℤ → ExactStream
exact_shifted x offset = read_at (shifted (ticks_of x) offset) x

-- what a reducer gives on the exact cells at the ticks that each tick's window meets
abbrev pub exact_windowed : ℕ → Reducer → ℤ → ℤ → ExactStream → ExactStream
exact_windowed scale reducer from to x = record {
  cell = λ tick. exact_reduce scale reducer (fractions (map x.cell (numbers (met (ticks_of x) (tick +ℤ from) (tick +ℤ to)))));
  mark = (windowed reducer from to (ticks_of x)).mark;
}

-- the operators; a quotient is truncated at a scale
abbrev pub exact_lifted1 : Op1 → ExactStream → ExactStream
exact_lifted1 op x = record { cell = λ tick. exact1 op (x.cell tick); mark = x.mark }

abbrev pub exact_lifted2 : ℕ → Op2 → ExactStream → ExactStream → ExactStream
exact_lifted2 scale op x y = record {
  cell = λ tick. exact2 scale op (x.cell tick) (y.cell tick);
  mark = (lifted2 op (ticks_of x) (ticks_of y)).mark;
}

abbrev pub exact_branched : ExactStream → ExactStream → ExactStream → ExactStream
exact_branched c x y = record {
  cell = λ tick. exact_choose (c.cell tick) (x.cell tick) (y.cell tick);
  mark = (branched (ticks_of c) (ticks_of x) (ticks_of y)).mark;
}
