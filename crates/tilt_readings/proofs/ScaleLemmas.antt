-- Digits times a scale, and a power of ten.
use Rattle.std.proofs.Common.{◌≡◌, ◌≢◌, ◌↔◌, ℕ, zero, suc, ◌+◌, ◌-◌, ◌*◌, ◌/◌, ◌%◌, ◌^◌, ◌<◌, ◌≤◌, List, length, get_or, take, refl, ap, sym, ◌∙◌, arith, add-one, Bool, true, false, ◌&&◌, ◌==◌, ◌++◌, [], ◌∷◌, nat_lt, Some, None, Ok, Err, option_map, length-append, ℤ, pos, negsuc, neg_ℤ, ◌<ℤ◌, int_le}
use Rattle.std.proofs.lemmas.Bool.{false≢true}
use Rattle.std.proofs.lemmas.Int.{ints}
use Rattle.std.proofs.Math.Nat.{one-le-pow, pow-suc, mul-mod_left, mul-div_cancel, div-add-mod'}
use Rattle.std.proofs.lemmas.Nat.{le-div}
use Rattle.std.proofs.lemmas.Int.Digits.{digits_value_more}
use Rattle.std.specs.Str.{all_ascii_digits}
use Rattle.std.specs.Str.Parse.{digits_value}
use Rattle.std.proofs.lemmas.Bool.Decides.{nat_tests}
use Rattle.tilt_base.proofs.Spelling.{natural_spelled_digits}
use Rattle.tilt_readings.specs.Decimal.{Decimal, bounded, halves, is_negative, joined, number_at, signed, times, unsigned}
use Rattle.tilt_readings.specs.declared.fault.DecimalFault.TheVariants.{NotWhole, OutOfRange}
use Rattle.tilt_readings.proofs.DigitLemmas.{digit_is, digits_append, spelled_none, value_append}

-- whole digits and decimals, times a scale: whole if the decimals carry a whole number
pub whole_total : (w f scale carried p : ℕ) → 0 < p → f * scale ≡ carried * p
    → ((w * p + f) * scale % p ≡ 0) × ((w * p + f) * scale / p ≡ w * scale + carried)
whole_total w f scale carried p some e =
    let all : (w * p + f) * scale ≡ (w * scale + carried) * p = omega (arith, e) in
    (ap (λ x. x % p) all ∙ mul-mod_left (w * scale + carried) p, ap (λ x. x / p) all ∙ mul-div_cancel (w * scale + carried) some)

-- and not whole if they don't
pub not_whole : (w f scale p : ℕ) → 0 < p → ((n : ℕ) → f * scale ≢ n * p) → (w * p + f) * scale % p ≢ 0
not_whole w f scale p some none left =
    let total = (w * p + f) * scale in
    let q = total / p in
    let split : q * p + total % p ≡ total = div-add-mod' total p in
    let low : w * scale ≤ q = le-div (w * scale) total p some (omega arith) in
    let back : q - w * scale + w * scale ≡ q = omega (arith, low) in
    let products = ap (λ x. x * p) back in
    none (q - w * scale) (omega (arith, split, left, products))

-- the decimal of digits on both sides of a mark
abbrev pub decimal_of : List ℕ → List ℕ → Decimal
decimal_of whole fraction = record { digits = digits_value 10 whole * 10 ^ length fraction + digits_value 10 fraction; decimals = length fraction }

pub joined_digits : (whole fraction : List ℕ) → 0 < length whole + length fraction → all_ascii_digits whole ≡ true → all_ascii_digits fraction ≡ true
    → joined (whole, fraction) ≡ Some (decimal_of whole fraction)
joined_digits whole fraction some first second =
    let all : all_ascii_digits (whole ++ fraction) ≡ true = digits_append whole fraction ∙ ap (λ t. t && all_ascii_digits fraction) first ∙ second in
    let spelled = natural_spelled_digits (whole ++ fraction) all (omega (arith, length-append whole fraction)) in
    ap (option_map (λ n. record { digits = n; decimals = length fraction })) (spelled ∙ ap Some (value_append whole fraction))

pub ten_pos : (k : ℕ) → 0 < 10 ^ k
ten_pos k = one-le-pow k 10 (omega arith)

-- that decimal times a scale
pub times_whole : (negative : Bool) (whole fraction : List ℕ) (scale carried : ℕ) → digits_value 10 fraction * scale ≡ carried * 10 ^ length fraction
    → times negative scale (Some (decimal_of whole fraction)) ≡ Ok (signed negative (digits_value 10 whole * scale + carried))
times_whole negative whole fraction scale carried e =
    let h = whole_total (digits_value 10 whole) (digits_value 10 fraction) scale carried (10 ^ length fraction) (ten_pos (length fraction)) e in
    rw (h.0, h.1) refl

pub times_not_whole : (negative : Bool) (whole fraction : List ℕ) (scale : ℕ) → ((n : ℕ) → digits_value 10 fraction * scale ≢ n * 10 ^ length fraction)
    → times negative scale (Some (decimal_of whole fraction)) ≡ Err NotWhole
times_not_whole negative whole fraction scale none =
    let h = not_whole (digits_value 10 whole) (digits_value 10 fraction) scale (10 ^ length fraction) (ten_pos (length fraction)) none in
    let test : (((digits_value 10 whole * 10 ^ length fraction + digits_value 10 fraction) * scale % 10 ^ length fraction) == 0) ≡ false = grind (arith, nat_tests) in
    rw test refl

-- a decimal that is read
pub number_of : (mark scale : ℕ) (text digits whole fraction : List ℕ) (negative : Bool) → negative ≡ is_negative text → digits ≡ unsigned text
    → halves mark digits ≡ (whole, fraction) → joined (whole, fraction) ≡ Some (decimal_of whole fraction)
    → number_at mark scale text ≡ times negative scale (Some (decimal_of whole fraction))
number_of mark scale text digits whole fraction negative sign rest parts spelled =
    ap (λ n. times n scale (joined (halves mark (unsigned text)))) (sym sign)
    ∙ ap (λ d. times negative scale (joined (halves mark d))) (sym rest)
    ∙ ap (λ p. times negative scale (joined p)) parts ∙ ap (times negative scale) spelled

drop_first : (a b : Bool) → a ≡ true → (a && b) ≡ false → b ≡ false
drop_first true b e h = h
drop_first false b e h = absurd (false≢true e)

some_digit : (n k : ℕ) → n ≡ suc k → nat_lt 0 n ≡ true
some_digit n k e = grind (arith, nat_tests)

-- halves that aren't digits, or none
pub joined_other : (whole fraction : List ℕ) → (nat_lt 0 (length whole + length fraction) && (all_ascii_digits whole && all_ascii_digits fraction)) ≡ false
    → joined (whole, fraction) ≡ None
joined_other [] [] other = refl
joined_other [] (c ∷ cs) other =
    let rest = drop_first (nat_lt 0 (0 + suc (length cs))) (all_ascii_digits (c ∷ cs)) (some_digit (0 + suc (length cs)) (length cs) (omega arith)) other in
    ap (option_map (λ n. record { digits = n; decimals = length (c ∷ cs) })) (spelled_none (c ∷ cs) rest)
joined_other (c ∷ cs) fraction other =
    let rest = drop_first (nat_lt 0 (suc (length cs) + length fraction)) (all_ascii_digits (c ∷ cs) && all_ascii_digits fraction)
    (some_digit (suc (length cs) + length fraction) (length cs + length fraction) (omega arith)) other in
    ap (option_map (λ n. record { digits = n; decimals = length fraction })) (spelled_none ((c ∷ cs) ++ fraction) (digits_append (c ∷ cs) fraction ∙ rest))

outside_low : (n : ℕ) (low : ℤ) → 2 ^ 127 ≤ n → negsuc (2 ^ 127 - 1) <ℤ low → int_le low (neg_ℤ (pos n)) ≡ false
outside_low n low large lowest = grind (arith, ints)

outside_high : (n : ℕ) (low high : ℤ) → 2 ^ 127 ≤ n → high <ℤ pos (2 ^ 127) → (int_le low (pos n) && int_le (pos n) high) ≡ false
outside_high n low high large highest = grind (arith, ints)

-- a number of more than 127 bits is outside of limits that have 128
pub too_large : (negative : Bool) (n : ℕ) (low high : ℤ) → 2 ^ 127 ≤ n → negsuc (2 ^ 127 - 1) <ℤ low → high <ℤ pos (2 ^ 127)
    → bounded low high (Ok (signed negative n)) ≡ Err OutOfRange
too_large true n low high large lowest highest = let test = outside_low n low large lowest in rw test refl
too_large false n low high large lowest highest = let test = outside_high n low high large highest in rw test refl

-- the digit at a place of digits, times a scale: what it carries goes to the digits before it
pub carry_on : (ds : List ℕ) (at j scale carried q n : ℕ) → all_ascii_digits ds ≡ true → at ≡ j + 1 → j < length ds → (get_or ds j 0 - 48) * scale + carried ≡ q * 10
    → (digits_value 10 (take at ds) * scale + carried ≡ n * 10 ^ at) ↔ (digits_value 10 (take j ds) * scale + q ≡ n * 10 ^ j)
carry_on ds at j scale carried q n all next h e =
    let value = ap (λ k. digits_value 10 (take k ds)) next ∙ digits_value_more 10 ds j h in
    let digit = digit_is ds j all h in
    let power : 10 ^ at ≡ 10 ^ j * 10 = ap (λ k. 10 ^ k) (next ∙ add-one j) ∙ pow-suc 10 j in
    let values = ap (λ x. x * scale) value in
    let digits = ap (λ x. x * scale) digit in
    let powers = ap (λ x. n * x) power in
    (λ r. omega (arith, r, e, values, digits, powers), λ r. omega (arith, r, e, values, digits, powers))

pub carry_stops : (ds : List ℕ) (at j scale carried n : ℕ) → all_ascii_digits ds ≡ true → at ≡ j + 1 → j < length ds
    → ((q : ℕ) → (get_or ds j 0 - 48) * scale + carried ≢ q * 10) → digits_value 10 (take at ds) * scale + carried ≢ n * 10 ^ at
carry_stops ds at j scale carried n all next h none r =
    let value = ap (λ k. digits_value 10 (take k ds)) next ∙ digits_value_more 10 ds j h in
    let digit = digit_is ds j all h in
    let power : 10 ^ at ≡ 10 ^ j * 10 = ap (λ k. 10 ^ k) (next ∙ add-one j) ∙ pow-suc 10 j in
    let values = ap (λ x. x * scale) value in
    let digits = ap (λ x. x * scale) digit in
    let powers = ap (λ x. n * x) power in
    none (n * 10 ^ j - digits_value 10 (take j ds) * scale) (omega (arith, r, values, digits, powers))

pub ten_low : (k : ℕ) → 0 < k → 10 ≤ 10 ^ k
ten_low zero some = absurd (omega arith)
ten_low (suc k) some = omega (arith, pow-suc 10 k, ten_pos k)

-- nothing is rounded: what a decimal is at a scale is the one number whose multiple is the digits times the scale
pub times_exact : (negative : Bool) (scale n : ℕ) (d : Decimal) → n * 10 ^ d.decimals ≡ d.digits * scale → times negative scale (Some d) ≡ Ok (signed negative n)
times_exact negative scale n d e = rw (← e, mul-mod_left n (10 ^ d.decimals), mul-div_cancel n (ten_pos d.decimals)) refl

pub times_lost : (negative : Bool) (scale n : ℕ) (d : Decimal) → times negative scale (Some d) ≡ Err NotWhole → n * 10 ^ d.decimals ≢ d.digits * scale
times_lost negative scale n d lost e = let exact = times_exact negative scale n d e in cc
