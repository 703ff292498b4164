-- What `parse` answers at digits is the number that they spell, where 64 bits hold it.
use Rattle.std.proofs.Common.{◌≡◌, ℕ, ◌^◌, ◌<◌, true, List, length, ℤ, pos, Result, Ok, Err, rules}
use Rattle.std.specs.Char.{is_ascii_digit}
use Rattle.std.specs.Int.{w64}
use Rattle.std.specs.List.{list_all}
use Rattle.std.specs.Option.{SomeIff}
use Rattle.std.specs.Result.{OkIff, result_ok}
use Rattle.std.specs.Str.{IsUtf8}
use Rattle.std.specs.Str.Parse.{digits_value, ParsesSigned}
use Rattle.std.proofs.lemmas.Fmt.{IsAscii-from_digits}
use Rattle.std.proofs.lemmas.Str.{IsUtf8-from_ascii}
use Rattle.std.proofs.lemmas.Str.Parse.{IsNumeralModel, numerals_by_value, parse_signed_digits}
use Rattle.tilt_lexer.specs.Tokens.{IsDigits}

-- the texts of digits and their values, in the words of the definitions
pub numerals : IsNumeralModel (λ ds. list_all is_ascii_digit ds ≡ true) (digits_value 10)
numerals = numerals_by_value _ (search rules)

-- digits are text
pub digits_are_text : (ds : List ℕ) → IsDigits ds → IsUtf8 ds
digits_are_text ds h = IsUtf8-from_ascii ds (IsAscii-from_digits ds (numerals.to ds h.1))

module _ {E : Type 0} where
  value_alone : (r : Result ℤ E) (some below : Type 0) (v : ℤ) → OkIff r (some × below) v → some → SomeIff (result_ok r) below v
  value_alone (Ok x) some below v h s = (h.0.1, h.1)
  value_alone (Err e) some below v h s = λ b. h (s, b)

  -- `parse` answers the number spelled
  pub parse_digits : (ds : List ℕ) (r : Result ℤ E) → IsDigits ds → ParsesSigned w64 10 ds r → SomeIff (result_ok r) (digits_value 10 ds < 2 ^ 63) (pos (digits_value 10 ds))
  parse_digits ds r h parsed = value_alone r (0 < length ds) (digits_value 10 ds < 2 ^ 63) (pos (digits_value 10 ds)) (parse_signed_digits numerals w64 ds r parsed h.1) h.0
