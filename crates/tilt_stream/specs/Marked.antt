-- The marks that a window's ticks have.
use Rattle.std.specs.Prelude.{ℕ, zero, suc, ℤ, pos, ◌+ℤ◌, if◌then◌else◌, List, [], ◌∷◌}
use Rattle.std.specs.Int.{int_gap}
use Rattle.tilt_stream.specs.Stream.{Stream}

-- those of so many ticks after `tick` that have a mark
abbrev pub marked_behind : Stream → ℤ → ℕ → List ℤ
marked_behind x tick zero = []
marked_behind x tick (suc more) =
    let rest = marked_behind x (tick +ℤ pos 1) more in
    if x.mark (tick +ℤ pos 1) then (tick +ℤ pos 1) ∷ rest else rest

-- the ticks of `(lo, hi]` that have a mark, in order
abbrev pub marked : Stream → ℤ → ℤ → List ℤ
marked x lo hi = marked_behind x lo (int_gap lo hi)
