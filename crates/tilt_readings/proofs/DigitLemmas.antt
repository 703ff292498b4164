-- Digits, read one after another.
use Rattle.std.proofs.Common.{◌≡◌, ℕ, ◌+◌, ◌-◌, ◌*◌, ◌^◌, ◌<◌, ◌≤◌, Bool, true, false, ◌&&◌, List, [], ◌∷◌, ◌++◌, length, get_or, drop, refl, ap, ◌∙◌, arith, drop-cons, add-one, Some, None, if◌then◌else◌}
use Rattle.std.proofs.lemmas.Str.{digit_value_digit}
use Rattle.std.proofs.lemmas.Str.Parse.{digit_at}
use Rattle.std.proofs.Math.Nat.{pow-suc}
use Rattle.std.specs.Char.{digit_value, is_ascii_digit}
use Rattle.std.specs.Int.{IsInRange}
use Rattle.std.specs.List.{list_all}
use Rattle.std.specs.Str.{all_ascii_digits}
use Rattle.std.specs.Str.Parse.{digits_value, digits_value_after}
use Rattle.tilt_base.specs.Number.{natural_spelled}
use Rattle.tilt_base.proofs.Spelling.{numerals}

-- digits after a number
pub value_after : (n : ℕ) (ds : List ℕ) → digits_value_after 10 n ds ≡ n * 10 ^ length ds + digits_value 10 ds
value_after n [] = omega arith
value_after n (c ∷ cs) =
    let a = value_after (n * 10 + digit_value c) cs in
    let b = value_after (0 * 10 + digit_value c) cs in
    omega (arith, ap (λ x. n * x) (pow-suc 10 (length cs)))

after_append : (n : ℕ) (xs ys : List ℕ) → digits_value_after 10 n (xs ++ ys) ≡ digits_value_after 10 (digits_value_after 10 n xs) ys
after_append n [] ys = refl
after_append n (x ∷ xs) ys = after_append (n * 10 + digit_value x) xs ys

pub value_append : (xs ys : List ℕ) → digits_value 10 (xs ++ ys) ≡ digits_value 10 xs * 10 ^ length ys + digits_value 10 ys
value_append xs ys = after_append 0 xs ys ∙ value_after _ ys

-- more digits spell no less
pub after_grows : (n : ℕ) (ds : List ℕ) → n ≤ digits_value_after 10 n ds
after_grows n [] = omega arith
after_grows n (d ∷ ds) = omega (arith, after_grows (n * 10 + digit_value d) ds)

-- a digit of digits
pub digit_range : (ds : List ℕ) (i : ℕ) → all_ascii_digits ds ≡ true → i < length ds → IsInRange 48 57 (get_or ds i 0)
digit_range ds i all h = digit_at ds i (numerals.to ds all) h

-- both tests for digits are one
pub all_digits-list_all : (ds : List ℕ) → list_all is_ascii_digit ds ≡ all_ascii_digits ds
all_digits-list_all [] = refl
all_digits-list_all (d ∷ ds) = ap (λ t. is_ascii_digit d && t) (all_digits-list_all ds)

and_assoc : (a b c : Bool) → (a && (b && c)) ≡ ((a && b) && c)
and_assoc true b c = refl
and_assoc false b c = refl

-- digits after digits are digits
pub digits_append : (xs ys : List ℕ) → all_ascii_digits (xs ++ ys) ≡ (all_ascii_digits xs && all_ascii_digits ys)
digits_append [] ys = refl
digits_append (x ∷ xs) ys = ap (λ t. is_ascii_digit x && t) (digits_append xs ys) ∙ and_assoc (is_ascii_digit x) (all_ascii_digits xs) (all_ascii_digits ys)

-- bytes that aren't all digits spell no number
pub spelled_none : (ds : List ℕ) → all_ascii_digits ds ≡ false → natural_spelled ds ≡ None
spelled_none [] other = refl
spelled_none (d ∷ ds) other = ap (λ t. if t then Some (digits_value 10 (d ∷ ds)) else None) other

-- the next digit is read
pub next_digit : (ds : List ℕ) (i number : ℕ) → i < length ds
    → digits_value_after 10 number (drop i ds) ≡ digits_value_after 10 (number * 10 + digit_value (get_or ds i 0)) (drop (i + 1) ds)
next_digit ds i number h = rw (add-one, drop-cons ds i 0) refl

-- what is read is no more than all
pub read_so_far : (ds : List ℕ) (i number : ℕ) → i < length ds → digits_value_after 10 number (drop i ds) ≡ digits_value 10 ds
    → number * 10 + digit_value (get_or ds i 0) ≤ digits_value 10 ds
read_so_far ds i number h value =
    let next = next_digit ds i number h in
    omega (arith, next, value, after_grows (number * 10 + digit_value (get_or ds i 0)) (drop (i + 1) ds))

-- the value of a digit
pub digit_is : (ds : List ℕ) (i : ℕ) → all_ascii_digits ds ≡ true → i < length ds → digit_value (get_or ds i 0) ≡ get_or ds i 0 - 48
digit_is ds i all h =
    let range = digit_range ds i all h in
    let value = digit_value_digit (get_or ds i 0) range in
    omega arith

-- one digit more spells a number below the next power of ten
pub digit_fits : (number digit i : ℕ) → number < 10 ^ i → digit ≤ 9 → number * 10 + digit < 10 ^ (i + 1)
digit_fits number digit i small low = rw add-one (omega (arith, pow-suc 10 i))
