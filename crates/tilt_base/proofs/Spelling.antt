-- What digits spell, read one after another.
use Rattle.std.proofs.Common.{◌≡◌, ℕ, ◌+◌, ◌*◌, ◌^◌, ◌<◌, ◌≤◌, true, List, [], ◌∷◌, length, get_or, drop, Some, None, option_and_then, if◌then◌else◌, refl, ap, arith, drop-cons, add-one}
use Rattle.std.proofs.lemmas.Bool.Decides.{nat_tests}
use Rattle.std.proofs.lemmas.Str.Parse.{IsNumeralModel, numerals_by_value, tells_all_ascii_digits}
use Rattle.std.proofs.Math.Nat.{pow-le-pow_right}
use Rattle.std.specs.Char.{digit_value}
use Rattle.std.specs.Str.{all_ascii_digits}
use Rattle.std.specs.Str.Parse.{digits_value, digits_value_after}
use Rattle.tilt_base.specs.Number.{natural_spelled, within_u64}

-- the texts of digits and their values, in the words of the definitions
pub numerals : IsNumeralModel (λ ds. all_ascii_digits ds ≡ true) (digits_value 10)
numerals = numerals_by_value _ tells_all_ascii_digits

-- more digits spell no less
grows : (number : ℕ) (ds : List ℕ) → number ≤ digits_value_after 10 number ds
grows number [] = omega arith
grows number (d ∷ ds) = omega (arith, grows (number * 10 + digit_value d) ds)

-- a number that 64 bits don't hold
big_is_none : (ds : List ℕ) → 2 ^ 64 ≤ digits_value 10 ds → option_and_then within_u64 (natural_spelled ds) ≡ None
big_is_none [] big = refl
big_is_none (d ∷ ds) big = grind (arith, nat_tests)

-- digits are too many where those before a place already are
pub big_on_the_way : (ds : List ℕ) (i number d : ℕ) → i < length ds → d ≡ digit_value (get_or ds i 0)
    → digits_value_after 10 number (drop i ds) ≡ digits_value 10 ds → 2 ^ 64 ≤ number * 10 + d
    → option_and_then within_u64 (natural_spelled ds) ≡ None
big_on_the_way ds i number d h is value big =
    let next : digits_value_after 10 number (drop i ds) ≡ digits_value_after 10 (number * 10 + digit_value (get_or ds i 0)) (drop (i + 1) ds) = rw (add-one, drop-cons ds i 0) in
    big_is_none ds (omega (arith, next, grows (number * 10 + digit_value (get_or ds i 0)) (drop (i + 1) ds)))

-- digits alone spell their value
pub natural_spelled_digits : (ds : List ℕ) → all_ascii_digits ds ≡ true → 0 < length ds → natural_spelled ds ≡ Some (digits_value 10 ds)
natural_spelled_digits [] all some = absurd (omega arith)
natural_spelled_digits (d ∷ ds) all some = ap (λ t. if t then Some (digits_value 10 (d ∷ ds)) else None) all

-- a number of few digits lies below the power of ten of more
pub few_digits : (number i most : ℕ) → i ≤ most → number < 10 ^ i → number < 10 ^ most
few_digits number i most few small = omega (arith, pow-le-pow_right {n = 10} (omega arith) few)

-- all digits were read
pub all_read : (ds : List ℕ) (number : ℕ) → 0 < length ds → number < 2 ^ 64 → all_ascii_digits ds ≡ true → digits_value 10 ds ≡ number → Some number ≡ option_and_then within_u64 (natural_spelled ds)
all_read [] number some fits digits value = absurd (omega arith)
all_read (d ∷ ds) number some fits digits value = grind (arith, nat_tests)
