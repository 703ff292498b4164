-- Numbers as texts.
use Rattle.std.specs.Prelude.{ℕ, zero, suc, ◌+◌, ◌/◌, ◌%◌, ◌^◌, List, [], ◌∷◌, ◌++◌, ℤ, pos, negsuc, unsigned_abs}
use Rattle.std.specs.Fmt.{decimal, signed_decimal}

-- so many digits of a number, the last ones, with zeros before it if it has fewer
abbrev pub last_digits : ℕ → ℕ → List ℕ
last_digits zero n = []
last_digits (suc count) n = last_digits count (n / 10) ++ (48 + n % 10) ∷ []

-- a minus sign for a number below 0
abbrev pub sign_of : ℤ → List ℕ
sign_of (pos n) = []
sign_of (negsuc n) = 45 ∷ []

-- a number divided by a power of ten, with as many decimals: -5 with 2 decimals is -0.05
abbrev pub decimal_text : ℕ → ℤ → List ℕ
decimal_text zero z = signed_decimal z
decimal_text (suc n) z = sign_of z ++ decimal (unsigned_abs z / 10 ^ suc n) ++ 46 ∷ last_digits (suc n) (unsigned_abs z)
