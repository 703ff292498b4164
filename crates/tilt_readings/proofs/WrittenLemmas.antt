-- Numbers that are written with decimals are read back.
use Rattle.std.proofs.Common.{◌≡◌, ℕ, zero, suc, ◌+◌, ◌-◌, ◌*◌, ◌/◌, ◌%◌, ◌^◌, ◌<◌, Bool, true, false, ◌&&◌, ◌==◌, List, [], ◌∷◌, ◌++◌, length, refl, ap, sym, ◌∙◌, arith, length-append}
use Rattle.std.proofs.Common.{Some, Ok, ℤ, pos, negsuc, neg_ℤ, int_le, FitsSigned, append-nil}
use Rattle.std.proofs.Math.Nat.{pow-suc, mod-one, mod-lt, div-add-mod', mul-mod_left, mul-div_cancel, div-le_self, div-one}
use Rattle.std.proofs.lemmas.Bool.Decides.{nat_tests}
use Rattle.std.proofs.lemmas.Fmt.{digits_decimal, digits_value-decimal, decimal_nonempty}
use Rattle.std.proofs.lemmas.Int.{ints}
use Rattle.std.proofs.lemmas.Int.Digits.{digits_value_push}
use Rattle.std.proofs.lemmas.Nat.{mod-mul-add}
use Rattle.std.proofs.lemmas.Str.{digit_value_digit}
use Rattle.std.specs.Char.{digit_value, is_ascii_digit}
use Rattle.std.specs.Fmt.{decimal}
use Rattle.std.specs.Int.{w64}
use Rattle.std.specs.Option.{unwrap_or}
use Rattle.std.specs.Str.{all_ascii_digits}
use Rattle.std.specs.Str.Parse.{digits_value}
use Rattle.tilt_base.proofs.Spelling.{numerals}
use Rattle.tilt_text.proofs.Lacks.{Lacks, all_lack}
use Rattle.tilt_text.proofs.Words.{until-front, until-lone}
use Rattle.tilt_readings.specs.Decimal.{in_64_bits, halves, is_negative, joined, number_at, signed, times, unsigned}
use Rattle.tilt_readings.specs.Written.{decimal_text, last_digits}
use Rattle.tilt_readings.proofs.DigitLemmas.{all_digits-list_all, digit_range, digits_append}
use Rattle.tilt_readings.proofs.ScaleLemmas.{joined_digits, ten_pos}

pub length-last_digits : (count n : ℕ) → length (last_digits count n) ≡ count
length-last_digits zero n = refl
length-last_digits (suc count) n =
    omega (arith, length-append (last_digits count (n / 10)) ((48 + n % 10) ∷ []), length-last_digits count (n / 10))

one_digit : (d : ℕ) → d < 10 → all_ascii_digits ((48 + d) ∷ []) ≡ true
one_digit d h = grind (arith, nat_tests)

pub digits-last_digits : (count n : ℕ) → all_ascii_digits (last_digits count n) ≡ true
digits-last_digits zero n = refl
digits-last_digits (suc count) n =
    digits_append (last_digits count (n / 10)) ((48 + n % 10) ∷ [])
    ∙ ap (λ t. t && all_ascii_digits ((48 + n % 10) ∷ [])) (digits-last_digits count (n / 10)) ∙ one_digit (n % 10) (omega arith)

split_mod : (n p : ℕ) → 0 < p → (n / 10 % p) * 10 + n % 10 ≡ n % (p * 10)
split_mod n p some =
    let tens = div-add-mod' (n / 10) p in
    let ones = div-add-mod' n 10 in
    let whole : n / 10 / p * (p * 10) + (n / 10 % p * 10 + n % 10) ≡ n = omega (arith, tens, ones) in
    let below : n / 10 % p < p = mod-lt (n / 10) some in
    let few : n / 10 % p * 10 + n % 10 < p * 10 = omega (arith, below) in
    sym (ap (λ x. x % (p * 10)) (sym whole) ∙ mod-mul-add (n / 10 / p) (p * 10) (n / 10 % p * 10 + n % 10) few)

pub value-last_digits : (count n : ℕ) → digits_value 10 (last_digits count n) ≡ n % 10 ^ count
value-last_digits zero n = sym (mod-one n)
value-last_digits (suc count) n =
    let push = digits_value_push 10 (last_digits count (n / 10)) (48 + n % 10) in
    let before = value-last_digits count (n / 10) in
    let last : digit_value (48 + n % 10) + 48 ≡ 48 + n % 10 = digit_value_digit (48 + n % 10) (omega arith, omega arith) in
    let split = split_mod n (10 ^ count) (ten_pos count) in
    let power = ap (λ x. n % x) (pow-suc 10 count) in
    omega (arith, push, before, last, split, power)

-- digits have no sign
unsigned-digits : (ds rest : List ℕ) → all_ascii_digits ds ≡ true → 0 < length ds
    → (unsigned (ds ++ rest) ≡ ds ++ rest) × (is_negative (ds ++ rest) ≡ false)
unsigned-digits [] rest all some = absurd (omega arith)
unsigned-digits (d ∷ ds) rest all some =
    let range = digit_range (d ∷ ds) 0 all (omega arith) in
    let minus : (d == 45) ≡ false = grind (arith, nat_tests) in
    let plus : (d == 43) ≡ false = grind (arith, nat_tests) in
    (rw (minus, plus) refl, minus)

lacks_point : (ds : List ℕ) → all_ascii_digits ds ≡ true → Lacks 46 ds
lacks_point ds all = all_lack 46 is_ascii_digit refl ds (all_digits-list_all ds ∙ all)

halves-point : (ds rest : List ℕ) → all_ascii_digits ds ≡ true → halves 46 (ds ++ 46 ∷ rest) ≡ (ds, rest)
halves-point ds rest all = ap (λ o. unwrap_or o (ds ++ 46 ∷ rest, [])) (until-front 46 ds rest (lacks_point ds all))

halves-lone : (ds : List ℕ) → all_ascii_digits ds ≡ true → halves 46 ds ≡ (ds, [])
halves-lone ds all = ap (λ o. unwrap_or o (ds, [])) (until-lone 46 ds (lacks_point ds all))

times-product : (negative : Bool) (m k : ℕ) → times negative (10 ^ k) (Some (record { digits = m; decimals = k })) ≡ Ok (signed negative m)
times-product negative m k = rw (mul-mod_left m (10 ^ k), mul-div_cancel m (ten_pos k)) refl

-- a number with decimals, times the power of ten that it was divided by
times-power : (negative : Bool) (m k : ℕ) → m < 2 ^ 64
    → times negative (10 ^ k) (joined (decimal (m / 10 ^ k), last_digits k m)) ≡ Ok (signed negative m)
times-power negative m k small =
    let p = 10 ^ k in
    let some = ten_pos k in
    let q_small : m / p < 2 ^ 64 = omega (arith, div-le_self m p) in
    let whole = digits_decimal numerals (m / p) q_small in
    let fraction = digits-last_digits k m in
    let longer : 0 < length (decimal (m / p)) + length (last_digits k m) = omega (arith, decimal_nonempty (m / p) q_small) in
    let count = length-last_digits k m in
    let value : digits_value 10 (decimal (m / p)) * 10 ^ length (last_digits k m) + digits_value 10 (last_digits k m) ≡ m =
    (let first = digits_value-decimal numerals (m / p) q_small in
    let second = value-last_digits k m in
    let split = div-add-mod' m p in
    let power = ap (λ x. m / p * 10 ^ x) count in
    let product = ap (λ x. x * 10 ^ length (last_digits k m)) first in
    omega (arith, product, second, split, power)) in
    ap (times negative p) (joined_digits (decimal (m / p)) (last_digits k m) longer whole fraction)
    ∙ (λ i. times negative p (Some (record { digits = value i; decimals = count i }))) ∙ times-product negative m k

-- the text of a number with so many decimals, without its sign
abbrev pub body : ℕ → ℕ → List ℕ
body zero m = decimal m
body (suc k) m = decimal (m / 10 ^ suc k) ++ 46 ∷ last_digits (suc k) m

halves-body : (k m : ℕ) → m < 2 ^ 64 → halves 46 (body k m) ≡ (decimal (m / 10 ^ k), last_digits k m)
halves-body zero m small = halves-lone (decimal m) (digits_decimal numerals m small) ∙ ap (λ x. (decimal x, [])) (sym (div-one m))
halves-body (suc k) m small =
    let q_small : m / 10 ^ suc k < 2 ^ 64 = omega (arith, div-le_self m (10 ^ suc k)) in
    halves-point (decimal (m / 10 ^ suc k)) (last_digits (suc k) m) (digits_decimal numerals (m / 10 ^ suc k) q_small)

unsigned-body : (k m : ℕ) → m < 2 ^ 64 → (unsigned (body k m) ≡ body k m) × (is_negative (body k m) ≡ false)
unsigned-body zero m small =
    let plain = unsigned-digits (decimal m) [] (digits_decimal numerals m small) (decimal_nonempty m small) in
    rw append-nil at plain
unsigned-body (suc k) m small =
    let q_small : m / 10 ^ suc k < 2 ^ 64 = omega (arith, div-le_self m (10 ^ suc k)) in
    unsigned-digits (decimal (m / 10 ^ suc k)) (46 ∷ last_digits (suc k) m) (digits_decimal numerals (m / 10 ^ suc k) q_small) (decimal_nonempty (m / 10 ^ suc k) q_small)

number-plain : (k m : ℕ) → m < 2 ^ 64 → number_at 46 (10 ^ k) (body k m) ≡ Ok (pos m)
number-plain k m small =
    let plain = unsigned-body k m small in
    rw (plain.1, plain.0, halves-body k m small) (times-power false m k small)

number-minus : (k m : ℕ) → m < 2 ^ 64 → number_at 46 (10 ^ k) (45 ∷ body k m) ≡ Ok (neg_ℤ (pos m))
number-minus k m small = rw (halves-body k m small) (times-power true m k small)

-- a number with its decimals is read as that number
number-written : (k : ℕ) (z : ℤ) → FitsSigned w64 z → number_at 46 (10 ^ k) (decimal_text k z) ≡ Ok z
number-written zero (pos m) fits = number-plain zero m (omega (arith, fits.sfits))
number-written (suc k) (pos m) fits = number-plain (suc k) m (omega (arith, fits.sfits))
number-written zero (negsuc m) fits = number-minus zero (suc m) (omega (arith, fits.sfits))
number-written (suc k) (negsuc m) fits = number-minus (suc k) (suc m) (omega (arith, fits.sfits))

in_range : (z : ℤ) → FitsSigned w64 z → (int_le (negsuc (2 ^ 63 - 1)) z && int_le z (pos (2 ^ 63 - 1))) ≡ true
in_range z fits = let f = fits.sfits in grind (arith, ints)

pub written_back : (k : ℕ) (z : ℤ) → FitsSigned w64 z → in_64_bits (number_at 46 (10 ^ k) (decimal_text k z)) ≡ Ok z
written_back k z fits = rw (number-written k z fits, in_range z fits) refl
