-- The shortest decimals of the numbers of 64 bits spell their numbers.
use Rattle.std.proofs.Common.{◌≡◌, ◌≢◌, ℕ, suc, ◌^◌, ◌<◌, inl, inr, nat_lt, Bool, true, false, Decides, MatchOption, List, [], ◌∷◌, Some, None, option_map, ℤ, pos, negsuc}
use Rattle.std.proofs.Common.{FitsSigned, refl, sym, ap, subst, ◌∙◌, arith}
use Rattle.std.proofs.lemmas.Bool.Decides.{nat_tests, eqb_tells, Decides-ltb}
use Rattle.std.proofs.lemmas.Fmt.{digits_decimal, digits_value-decimal, decimal_is_IsNumeral, decimal_nonempty}
use Rattle.std.proofs.lemmas.Option.{option_and_then_some, cond_some, same_Some, none-some}
use Rattle.std.proofs.lemmas.Str.Parse.{digit_from_value}
use Rattle.std.specs.Bool.{then_some}
use Rattle.std.proofs.lemmas.Bool.{false≢true}
use Rattle.std.specs.Fmt.{decimal, signed_decimal}
use Rattle.std.specs.Int.{w64}
use Rattle.std.specs.Str.Parse.{AllDigits}
use Rattle.tilt_base.specs.Number.{natural_spelled, integer_spelled, within_64_bits, number_spelled}
use Rattle.tilt_base.proofs.Spelling.{natural_spelled_digits, numerals}

natural_spelled-decimal : (n : ℕ) → n < 2 ^ 64 → natural_spelled (decimal n) ≡ Some n
natural_spelled-decimal n h = natural_spelled_digits (decimal n) (digits_decimal numerals n h) (decimal_nonempty n h) ∙ ap Some (digits_value-decimal numerals n h)

-- digits alone spell the number that they spell without a sign
integer_spelled_digits : (ds : List ℕ) → AllDigits 10 ds → integer_spelled ds ≡ option_map pos (natural_spelled ds)
integer_spelled_digits [] h = refl
integer_spelled_digits (d ∷ ds) h =
    let range = digit_from_value d h.0 in
    elim (eqb_tells d 45) [
      | inl minus ↦ absurd (omega arith)
      | inr no_minus ↦ elim (eqb_tells d 43) [ inl plus ↦ absurd (omega arith) | inr no_plus ↦ rw (no_minus.0, no_plus.0) ]
    ]

-- the test for 64 bits, both ways
within_64_bits_fits : (z : ℤ) → FitsSigned w64 z → within_64_bits z ≡ Some z
within_64_bits_fits (pos n) h = let fits = h.sfits in grind (arith, nat_tests)
within_64_bits_fits (negsuc n) h = let fits = h.sfits in grind (arith, nat_tests)

fits_within_64_bits : (y z : ℤ) → within_64_bits y ≡ Some z → FitsSigned w64 z
fits_within_64_bits (pos n) z e =
    let kept = cond_some (nat_lt n (2 ^ 63)) (pos n) z e in subst (FitsSigned w64) kept.1 (record { sfits = (Decides-ltb n (2 ^ 63)).0 kept.0 })
fits_within_64_bits (negsuc n) z e =
    let kept = cond_some (nat_lt n (2 ^ 63)) (negsuc n) z e in subst (FitsSigned w64) kept.1 (record { sfits = (Decides-ltb n (2 ^ 63)).0 kept.0 })

integer_spelled-signed_decimal : (z : ℤ) → FitsSigned w64 z → integer_spelled (signed_decimal z) ≡ Some z
integer_spelled-signed_decimal (pos n) h =
    let small : n < 2 ^ 64 = omega (arith, h.sfits) in
    integer_spelled_digits (decimal n) (decimal_is_IsNumeral n small).0.1 ∙ ap (option_map pos) (natural_spelled-decimal n small)
integer_spelled-signed_decimal (negsuc n) h =
    let small : suc n < 2 ^ 64 = omega (arith, h.sfits) in
    rw (natural_spelled-decimal (suc n) small)

-- a shortest decimal spells its number
pub number_spelled-signed_decimal : (z : ℤ) → FitsSigned w64 z → number_spelled (signed_decimal z) ≡ Some z
number_spelled-signed_decimal z h = rw (integer_spelled-signed_decimal z h) (within_64_bits_fits z h)

-- a number that is spelled has 64 bits
pub number_spelled_fits : (bs : List ℕ) (z : ℤ) → number_spelled bs ≡ Some z → FitsSigned w64 z
number_spelled_fits bs z e = option_and_then_some within_64_bits (integer_spelled bs) z e (λ y _ f. fits_within_64_bits y z f)

-- a number that is spelled otherwise than by its shortest decimal has bytes that are no shortest decimal
pub shortest_or_none : (bs : List ℕ) (z : ℤ) (same : Bool) → number_spelled bs ≡ Some z → Decides same (signed_decimal z ≡ bs)
    → MatchOption (then_some same z) ((y : ℤ) → FitsSigned w64 y → bs ≢ signed_decimal y) (λ y. bs ≡ signed_decimal y)
shortest_or_none bs z true spelled test = sym (test.0 refl)
shortest_or_none bs z false spelled test = λ y fits e.
    let other : z ≡ y = same_Some z y (sym spelled ∙ ap number_spelled e ∙ number_spelled-signed_decimal y fits) in
    absurd (false≢true (test.1 (ap signed_decimal other ∙ sym e)))

-- bytes that spell no number are no shortest decimal
pub none_is_shortest : (bs : List ℕ) → number_spelled bs ≡ None → (y : ℤ) → FitsSigned w64 y → bs ≢ signed_decimal y
none_is_shortest bs none y fits e = none-some y (sym none ∙ ap number_spelled e ∙ number_spelled-signed_decimal y fits)
