-- Texts without a mark.
use Rattle.std.proofs.Common.{◌≡◌, ℕ, suc, ◌^◌, ◌<◌, Bool, true, false, not, List, [], ◌∷◌, ◌++◌, ℤ, pos, negsuc, FitsSigned, refl, sym, ap, ◌∙◌, arith, inl, inr}
use Rattle.std.specs.Prelude.{◌==◌}
use Rattle.std.specs.Fmt.{decimal, signed_decimal}
use Rattle.std.specs.Int.{w64}
use Rattle.std.specs.List.{list_all}
use Rattle.std.specs.Str.Parse.{AllDigits}
use Rattle.std.proofs.lemmas.Bool.{cases_Bool, and_parts, eqb-true, false≢true, not-true}
use Rattle.std.proofs.lemmas.Bool.Decides.{nat_tests}
use Rattle.std.proofs.lemmas.Fmt.{decimal_is_IsNumeral}
use Rattle.std.proofs.lemmas.Str.Parse.{digit_from_value}

-- whether a text is without a mark
abbrev pub lacks : ℕ → List ℕ → Bool
lacks mark = list_all (λ byte. not (byte == mark))

-- a text without a mark
abbrev pub Lacks : ℕ → List ℕ → Type 0
Lacks mark bytes = lacks mark bytes ≡ true

pub lacks-more : (mark b : ℕ) (bs : List ℕ) → (b == mark) ≡ false → Lacks mark bs → Lacks mark (b ∷ bs)
lacks-more mark b bs other h = rw (other, h) refl

-- and the other way
pub lacks-parts : (mark b : ℕ) (bs : List ℕ) → Lacks mark (b ∷ bs) → ((b == mark) ≡ false) × Lacks mark bs
lacks-parts mark b bs h =
    let parts = and_parts (not (b == mark)) (lacks mark bs) h in
    (not-true (b == mark) parts.0, parts.1)

pub lacks-append : (mark : ℕ) (xs ys : List ℕ) → Lacks mark xs → Lacks mark ys → Lacks mark (xs ++ ys)
lacks-append mark [] ys p q = q
lacks-append mark (x ∷ xs) ys p q =
    let parts = lacks-parts mark x xs p in
    lacks-more mark x (xs ++ ys) parts.0 (lacks-append mark xs ys parts.1 q)

-- a byte that passes a test that the mark doesn't pass is another
other_byte : (mark : ℕ) (test : ℕ → Bool) (b : ℕ) → test mark ≡ false → test b ≡ true → (b == mark) ≡ false
other_byte mark test b fails passes =
    elim (cases_Bool (b == mark)) [
      | inl same ↦ absurd (false≢true (sym fails ∙ ap test (sym (eqb-true b mark same)) ∙ passes))
      | inr other ↦ other
    ]

-- so a text whose bytes all pass such a test is without the mark
pub all_lack : (mark : ℕ) (test : ℕ → Bool) → test mark ≡ false → (bs : List ℕ) → list_all test bs ≡ true → Lacks mark bs
all_lack mark test fails [] all = refl
all_lack mark test fails (b ∷ bs) all =
    let parts = and_parts (test b) (list_all test bs) all in
    lacks-more mark b bs (other_byte mark test b fails parts.0) (all_lack mark test fails bs parts.1)

-- shortest decimals are without the marks below the minus sign

pub differs : (d m : ℕ) → m < d → (d == m) ≡ false
differs d m h = grind (arith, nat_tests)

digits_lack : (mark : ℕ) → mark < 45 → (ds : List ℕ) → AllDigits 10 ds → Lacks mark ds
digits_lack mark h [] all = refl
digits_lack mark h (d ∷ ds) all =
    let range = digit_from_value d all.0 in
    lacks-more mark d ds (differs d mark (omega arith)) (digits_lack mark h ds all.1)

pub decimal_lacks : (mark : ℕ) → mark < 45 → (n : ℕ) → n < 2 ^ 64 → Lacks mark (decimal n)
decimal_lacks mark h n small = digits_lack mark h (decimal n) (decimal_is_IsNumeral n small).0.1

pub signed_lacks : (mark : ℕ) → mark < 45 → (z : ℤ) → FitsSigned w64 z → Lacks mark (signed_decimal z)
signed_lacks mark h (pos n) fits = decimal_lacks mark h n (omega (arith, fits.sfits))
signed_lacks mark h (negsuc n) fits =
    lacks-more mark 45 (decimal (suc n)) (differs 45 mark h) (decimal_lacks mark h (suc n) (omega (arith, fits.sfits)))
