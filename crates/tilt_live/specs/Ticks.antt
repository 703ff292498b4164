-- Horizons in memory: each as a tick, or none if a source is known for ever.
use Rattle.std.specs.Prelude.{ℕ, ◌+◌, ◌*◌, ◌^◌, ℤ, pos, neg_ℤ, ◌≤ℤ◌, Option, IfSome}

-- a horizon lies within a distance of tick 0
abbrev pub IsWithin : ℕ → Option ℤ → Type 0
IsWithin limit tick = IfSome tick (λ t. (neg_ℤ (pos limit) ≤ℤ t) × (t ≤ℤ pos limit))

-- how far from tick 0 the horizons of so many sources may lie: a definition adds an offset of 64 bits and less than a period
abbrev pub drift : ℕ → ℕ
drift sources = 2 ^ 65 * (1 + sources)
