-- The end of 64 bits that is nearest to a number.
use Rattle.std.proofs.Common.{◌≡◌, ℤ, pos, negsuc, arith}
use Rattle.std.specs.Int.{w64, saturate_signed}
use Rattle.std.proofs.lemmas.Int.{ints, clamps}
use Rattle.tilt_watch.specs.Kinds.{saturated}

pub saturated_is : (z : ℤ) → saturate_signed w64 z ≡ saturated z
saturated_is (pos n) = omega (arith, ints, clamps)
saturated_is (negsuc n) = omega (arith, ints, clamps)
