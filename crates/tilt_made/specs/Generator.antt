-- The generator of made runs (our own rule). Its state is a number below 2^31 once it has drawn; it begins with the seed.
use Rattle.std.specs.Prelude.{ℕ, zero, suc, ◌+◌, ◌*◌, ◌/◌, ◌%◌, pos, ◌-ℤ◌, List, [], ◌∷◌, Some}
use Rattle.tilt_stream.specs.Snap.{Snapshot}

-- the state that a draw makes of a state
abbrev pub next : ℕ → ℕ
next state = (1103515245 * state + 12345) % 2147483648

-- the number below `below` that a draw gives where it makes that state
abbrev pub drawn : ℕ → ℕ → ℕ
drawn below state = state / 65536 % below

-- the state after a row, which takes three draws
abbrev pub after_row : ℕ → ℕ
after_row state = next (next (next state))

-- how far after the position the row starts that is made in a state: the first draw
abbrev pub gap : ℕ → ℕ
gap state = drawn 3 (next state)

-- how many ticks the row has: one more than the second draw
abbrev pub ticks : ℕ → ℕ
ticks state = drawn 9 (next (next state)) + 1

-- the end of the row, which is the new position
abbrev pub row_end : ℕ → ℕ → ℕ
row_end state position = position + gap state + ticks state

-- the row that is made in a state at a position; its value is 1000 less than the third draw
abbrev pub made_row : ℕ → ℕ → Snapshot
made_row state position = record {
  start = pos (position + gap state);
  end = pos (row_end state position);
  value = Some (pos (drawn 2001 (after_row state)) -ℤ pos 1000);
}

-- so many rows, one after another, the first in that state at that position
abbrev pub series : ℕ → ℕ → ℕ → List Snapshot
series zero state position = []
series (suc more) state position = made_row state position ∷ series more (after_row state) (row_end state position)

-- the state after so many rows
abbrev pub after_rows : ℕ → ℕ → ℕ
after_rows zero state = state
after_rows (suc more) state = after_rows more (after_row state)

-- the rows of `a`: so many from the seed on
abbrev pub first_rows : ℕ → ℕ → List Snapshot
first_rows seed count = series count seed 0

-- the rows of `b`: as many in the state after those of `a`, from position 0 again
abbrev pub second_rows : ℕ → ℕ → List Snapshot
second_rows seed count = series count (after_rows count seed) 0
