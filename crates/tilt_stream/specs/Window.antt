-- Windows over a stream (the TiLT paper's reductions; which snapshots a window meets is our own rule).
-- The window from `from` to `to` at a tick is the ticks `tick + from + 1` to `tick + to`. It meets each snapshot that has a tick in it,
-- once.
use Rattle.std.specs.Prelude.{ℕ, zero, suc, ℤ, pos, ◌+ℤ◌, Bool, true, false, ◌||◌, if◌then◌else◌, List, [], ◌∷◌, map, Option}
use Rattle.std.specs.Int.{int_gap}
use Rattle.tilt_base.specs.declared.reducer.Reducer.{Reducer}
use Rattle.tilt_base.specs.Reduce.{numbers, reduce}
use Rattle.tilt_stream.specs.Stream.{Stream}

-- the cells at those of so many ticks after `tick` at which a snapshot begins; `begins` says that one begins at the first of them,
-- marked or not
abbrev pub met_behind : Stream → Bool → ℤ → ℕ → List (Option ℤ)
met_behind x begins tick zero = []
met_behind x begins tick (suc more) =
    let rest = met_behind x false (tick +ℤ pos 1) more in
    if begins || x.mark (tick +ℤ pos 1) then x.cell (tick +ℤ pos 1) ∷ rest else rest

-- the cells of the snapshots that meet the ticks of `(lo, hi]`, in order; the first tick counts as the beginning of one
abbrev pub met : Stream → ℤ → ℤ → List (Option ℤ)
met x lo hi = met_behind x true lo (int_gap lo hi)

-- What a reducer gives on the numbers among the cells that each tick's window meets. A mark is where the source has one at the
-- window's last tick or at its first.
abbrev pub windowed : Reducer → ℤ → ℤ → Stream → Stream
windowed reducer from to x = record {
  cell = λ tick. reduce reducer (numbers (met x (tick +ℤ from) (tick +ℤ to)));
  mark = λ tick. x.mark (tick +ℤ to) || x.mark (tick +ℤ from +ℤ pos 1);
}

-- the same by a map: the reducer on the results that aren't null, one for each cell that each tick's window meets, null ones included
abbrev pub windowed_by : (Option ℤ → Option ℤ) → Reducer → ℤ → ℤ → Stream → Stream
windowed_by map_cell reducer from to x = record {
  cell = λ tick. reduce reducer (numbers (map map_cell (met x (tick +ℤ from) (tick +ℤ to))));
  mark = (windowed reducer from to x).mark;
}
