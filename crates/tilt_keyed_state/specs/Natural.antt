-- Numbers without a sign.
use Rattle.std.specs.Prelude.{ℕ, ℤ, pos, negsuc, Option, None, Some}

-- a number, unless it is negative
abbrev pub natural : ℤ → Option ℕ
natural (pos n) = Some n
natural (negsuc n) = None
