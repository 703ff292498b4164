-- What the window of a reducer is seen as.
use Rattle.std.specs.Prelude.{ℤ, List, Option}
use Rattle.tilt_base.specs.declared.reducer.Reducer.{Reducer}
use Rattle.tilt_base.specs.declared.reducer.Reducer.TheVariants as of
use Rattle.tilt_turn.specs.declared.kind.Kind.{Kind}
use Rattle.tilt_turn.specs.declared.kind.Kind.TheVariants.{Sum, Avg, Min, Max, Count, First, Last, Any, All}

-- the cells in it, in order
abbrev pub kind_cells : Kind → List (Option ℤ)
kind_cells (Sum cells) = cells
kind_cells (Avg cells) = cells
kind_cells (Min cells) = cells
kind_cells (Max cells) = cells
kind_cells (Count cells) = cells
kind_cells (First cells) = cells
kind_cells (Last cells) = cells
kind_cells (Any cells) = cells
kind_cells (All cells) = cells

-- the reducer whose results it gives
abbrev pub kind_reducer : Kind → Reducer
kind_reducer (Sum cells) = of.Sum
kind_reducer (Avg cells) = of.Avg
kind_reducer (Min cells) = of.Min
kind_reducer (Max cells) = of.Max
kind_reducer (Count cells) = of.Count
kind_reducer (First cells) = of.First
kind_reducer (Last cells) = of.Last
kind_reducer (Any cells) = of.Any
kind_reducer (All cells) = of.All
