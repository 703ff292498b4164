-- Ticks within the limits fit in 64 bits.
use Rattle.std.proofs.Common.{ℤ, pos, negsuc, neg_ℤ, ◌≤ℤ◌, SFits, w64, arith}
use Rattle.std.proofs.lemmas.Int.{ints}
use Rattle.tilt_base.specs.declared.limits.TheConstants.{WIDE}

pub wide_fits : (tick : ℤ) → neg_ℤ WIDE ≤ℤ tick → tick ≤ℤ WIDE → SFits w64 tick
wide_fits (pos n) low high = record { sfits = omega (arith, ints) }
wide_fits (negsuc n) low high = record { sfits = omega (arith, ints) }
