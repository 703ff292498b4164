-- What bounds the ticks at which the evaluator looks, so that they fit in 128 bits.
use Rattle.std.specs.Prelude.{ℕ, ◌^◌, ℤ, pos, ◌+ℤ◌, ◌≤ℤ◌}

-- the tick lies within 2^98 of 0, and so many ticks farther in
pub record IsNear (margin : ℕ) (tick : ℤ) : Type 0 where
  pub low : pos margin ≤ℤ (tick +ℤ pos (2 ^ 98))
  pub high : (tick +ℤ pos margin) ≤ℤ pos (2 ^ 98)
