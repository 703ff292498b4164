-- Decimals: an optional sign and digits, with at most one mark among them.
use Rattle.std.specs.Prelude.{ℕ, ◌*◌, ◌/◌, ◌%◌, ◌^◌, ◌==◌, Bool, false, ◌||◌, ◌&&◌, if◌then◌else◌, List, [], ◌∷◌, ◌++◌, length}
use Rattle.std.specs.Prelude.{Option, Some, None, option_map, Result, Ok, Err, ℤ, pos, negsuc, neg_ℤ, int_le, ◌-◌}
use Rattle.std.specs.Option.{unwrap_or}
use Rattle.tilt_base.specs.Number.{natural_spelled}
use Rattle.tilt_text.specs.Cut.{until_at}
use Rattle.tilt_readings.specs.declared.fault.DecimalFault.{DecimalFault}
use Rattle.tilt_readings.specs.declared.fault.DecimalFault.TheVariants.{NotDecimal, NotWhole, OutOfRange}

-- a decimal without its sign: 20.75 has the digits 2075, of which 2 are decimals
pub record Decimal : Type 0 where
  pub digits : ℕ
  pub decimals : ℕ

-- whether a text has a minus sign
abbrev pub is_negative : List ℕ → Bool
is_negative [] = false
is_negative (c ∷ cs) = c == 45

-- a text without its sign, if it has one
abbrev pub unsigned : List ℕ → List ℕ
unsigned [] = []
unsigned (c ∷ cs) = if (c == 45) || (c == 43) then cs else c ∷ cs

-- what comes before the first mark and after it; all and nothing if there is no mark
abbrev pub halves : ℕ → List ℕ → List ℕ × List ℕ
halves mark text = unwrap_or (until_at mark text) (text, [])

-- the decimal whose digits are those of both halves; the digits of the second are its decimals
abbrev pub joined : List ℕ × List ℕ → Option Decimal
joined parts = option_map (λ n. record { digits = n; decimals = length parts.1 }) (natural_spelled (parts.0 ++ parts.1))

-- the decimal that a text spells, without its sign
abbrev pub decimal_spelled : ℕ → List ℕ → Option Decimal
decimal_spelled mark text = joined (halves mark (unsigned text))

-- a number with its sign
abbrev pub signed : Bool → ℕ → ℤ
signed negative n = if negative then neg_ℤ (pos n) else pos n

-- a decimal times a scale, if that is whole
abbrev pub times : Bool → ℕ → Option Decimal → Result ℤ DecimalFault
times negative scale None = Err NotDecimal
times negative scale (Some d) =
    if d.digits * scale % 10 ^ d.decimals == 0 then Ok (signed negative (d.digits * scale / 10 ^ d.decimals)) else Err NotWhole

-- the whole number that the decimal of a text is at a scale
abbrev pub number_at : ℕ → ℕ → List ℕ → Result ℤ DecimalFault
number_at mark scale text = times (is_negative text) scale (decimal_spelled mark text)

-- a number outside of two limits is out of range
abbrev pub bounded : ℤ → ℤ → Result ℤ DecimalFault → Result ℤ DecimalFault
bounded low high (Err fault) = Err fault
bounded low high (Ok z) = if int_le low z && int_le z high then Ok z else Err OutOfRange

-- and so is a number that 64 bits don't hold
abbrev pub in_64_bits : Result ℤ DecimalFault → Result ℤ DecimalFault
in_64_bits = bounded (negsuc (2 ^ 63 - 1)) (pos (2 ^ 63 - 1))
