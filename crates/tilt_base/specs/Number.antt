-- Numbers spelled in decimal digits: an optional sign and then digits, of which there is at least one.
use Rattle.std.specs.Prelude.{ℕ, ◌^◌, ◌==◌, nat_lt, if◌then◌else◌, List, [], ◌∷◌, Option, Some, None, option_map, option_and_then, ℤ}
use Rattle.std.specs.Prelude.{pos, negsuc, neg_ℤ}
use Rattle.std.specs.Str.{all_ascii_digits}
use Rattle.std.specs.Str.Parse.{digits_value}

-- the number that one or more digits spell
abbrev pub natural_spelled : List ℕ → Option ℕ
natural_spelled [] = None
natural_spelled (c ∷ cs) = if all_ascii_digits (c ∷ cs) then Some (digits_value 10 (c ∷ cs)) else None

-- the number that an optional `-` or `+` and one or more digits spell
abbrev pub integer_spelled : List ℕ → Option ℤ
integer_spelled [] = None
integer_spelled (c ∷ cs) =
    if c == 45 then option_map (λ n. neg_ℤ (pos n)) (natural_spelled cs)
    else option_map pos (natural_spelled (if c == 43 then cs else c ∷ cs))

-- the number, where 64 bits without a sign hold it
abbrev pub within_u64 : ℕ → Option ℕ
within_u64 n = if nat_lt n (2 ^ 64) then Some n else None

-- the number, where 64 bits hold it
abbrev pub within_64_bits : ℤ → Option ℤ
within_64_bits (pos n) = if nat_lt n (2 ^ 63) then Some (pos n) else None
within_64_bits (negsuc n) = if nat_lt n (2 ^ 63) then Some (negsuc n) else None

-- the number of 64 bits that the bytes spell
abbrev pub number_spelled : List ℕ → Option ℤ
number_spelled bytes = option_and_then within_64_bits (integer_spelled bytes)

-- the value that the bytes spell, which is null where there are none
abbrev pub cell_spelled : List ℕ → Option (Option ℤ)
cell_spelled [] = Some None
cell_spelled (c ∷ cs) = option_map Some (number_spelled (c ∷ cs))
