-- Counts of 64 bits.
use Rattle.std.specs.Prelude.{ℕ, ◌+◌, min}

-- the end of 64 bits
abbrev pub last_count : ℕ
last_count = 18446744073709551615

-- the count higher by n, which stays at the end
abbrev pub added_count : ℕ → ℕ → ℕ
added_count before n = min (before + n) last_count

-- the count one higher, which stays at the end
abbrev pub next_count : ℕ → ℕ
next_count before = added_count before 1
