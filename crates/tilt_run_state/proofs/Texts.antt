-- Fields, texts and items that have one value each, whatever follows them.
use Rattle.std.proofs.Common.{◌≡◌, ℕ, suc, ◌<◌, ◌^◌, List, [], ◌∷◌, ◌++◌, length, drop, Option, None, Some, ℤ, pos, negsuc, FitsSigned, refl, sym, ap, subst, ◌∙◌, arith, append_assoc, flat_map}
use Rattle.std.specs.Prelude.{codes, get_or}
use Rattle.std.specs.Fmt.{decimal, signed_decimal}
use Rattle.std.specs.Int.{w128}
use Rattle.std.specs.List.{AllByRecursion}
use Rattle.std.specs.Option.{ForSome}
use Rattle.std.specs.Str.Parse.{AllDigits, digits_value}
use Rattle.std.proofs.lemmas.Fmt.{decimal_injective, decimal_is_IsNumeral_wide}
use Rattle.std.proofs.lemmas.List.{append_cancel_left}
use Rattle.std.proofs.lemmas.Option.{same_Some}
use Rattle.std.proofs.lemmas.Str.Parse.{digit_from_value}
use Rattle.tilt_live_state.proofs.Fields.{field_shape}
use Rattle.tilt_text.proofs.Lacks.{Lacks, lacks-more, differs, decimal_lacks}
use Rattle.tilt_text.proofs.Words.{until-front}
use Rattle.tilt_text.specs.Cut.{until_at}
use Rattle.tilt_live_state.specs.Spelling.{field, line, ticks_text}
use Rattle.tilt_run_state.specs.Setup.{counted_lines, text_line}
use Rattle.tilt_run_state.specs.Numbers.{AreAll, IsNumber, IsText}
use Rattle.tilt_run_state.proofs.Splitting.{Splits, many-splits}

-- fields

pub field-splits : {A : Type 0} (P : A → Type 0) (text : A → List ℕ) (mark : ℕ) (word : List ℕ) → ((a : A) → P a → Lacks mark (text a))
    → ((a b : A) → P a → P b → text a ≡ text b → a ≡ b) → Splits P (λ a. field mark word (text a))
field-splits P text mark word without same a b x y p q e =
    let shape = sym (field_shape mark word (text a) x) ∙ e ∙ field_shape mark word (text b) y in
    let rest = ap (drop 1) (append_cancel_left word (32 ∷ (text a ++ mark ∷ x)) (32 ∷ (text b ++ mark ∷ y)) shape) in
    let both =
    same_Some (text a, x) (text b, y)
    (sym (until-front mark (text a) x (without a p)) ∙ ap (until_at mark) rest ∙ until-front mark (text b) y (without b q)) in
    (same a b p q (ap (λ (t : List ℕ × List ℕ). t.0) both), ap (λ (t : List ℕ × List ℕ). t.1) both)

pub number-splits : (mark : ℕ) → mark < 45 → (word : List ℕ) → Splits IsNumber (λ n. field mark word (decimal n))
number-splits mark low word = field-splits IsNumber decimal mark word (decimal_lacks mark low) (λ a b p q. decimal_injective a b p q)

-- words of a few, each of which is read back

pub word-splits : {A : Type 0} (text : A → List ℕ) (of_word : List ℕ → A) (word : List ℕ) → ((a : A) → Lacks 10 (text a))
    → ((a : A) → of_word (text a) ≡ a) → Splits (λ a. Unit {0}) (λ a. line word (text a))
word-splits text of_word word without back =
    field-splits (λ a. Unit {0}) text 10 word (λ a _. without a) (λ a b _ _ e. sym (back a) ∙ ap of_word e ∙ back b)

-- ticks

all_digits : (n : ℕ) → IsNumber n → AllDigits 10 (decimal n)
all_digits n few = (decimal_is_IsNumeral_wide n (omega (arith, few))).0.1

no_digits : AllDigits 10 (codes "none") → ⊥
no_digits all = let range = digit_from_value 110 all.0 in omega (arith, range)

ticks_same : (a b : Option ℕ) → ForSome a IsNumber → ForSome b IsNumber → ticks_text a ≡ ticks_text b → a ≡ b
ticks_same None None p q e = refl
ticks_same None (Some n) p q e = absurd (no_digits (subst (AllDigits 10) (sym e) (all_digits n (q n refl))))
ticks_same (Some m) None p q e = absurd (no_digits (subst (AllDigits 10) e (all_digits m (p m refl))))
ticks_same (Some m) (Some n) p q e = ap Some (decimal_injective m n (p m refl) (q n refl) e)

ticks_lack : (a : Option ℕ) → ForSome a IsNumber → Lacks 10 (ticks_text a)
ticks_lack None p = refl
ticks_lack (Some n) p = decimal_lacks 10 (omega arith) n (p n refl)

pub ticks-splits : (word : List ℕ) → Splits (λ a. ForSome a IsNumber) (λ a. line word (ticks_text a))
ticks-splits word = field-splits (λ a. ForSome a IsNumber) ticks_text 10 word ticks_lack ticks_same

-- 128-bit numbers

digits_lack : (mark : ℕ) → mark < 45 → (ds : List ℕ) → AllDigits 10 ds → Lacks mark ds
digits_lack mark low [] all = refl
digits_lack mark low (d ∷ ds) all =
    let range = digit_from_value d all.0 in
    lacks-more mark d ds (differs d mark (omega arith)) (digits_lack mark low ds all.1)

signed_lack : (z : ℤ) → FitsSigned w128 z → Lacks 10 (signed_decimal z)
signed_lack (pos n) fits = digits_lack 10 (omega arith) (decimal n) (decimal_is_IsNumeral_wide n (omega (arith, fits.sfits))).0.1
signed_lack (negsuc n) fits =
    lacks-more 10 45 (decimal (suc n)) refl
    (digits_lack 10 (omega arith) (decimal (suc n)) (decimal_is_IsNumeral_wide (suc n) (omega (arith, fits.sfits))).0.1)

wide_same : (m n : ℕ) → m < 10 ^ 64 → n < 10 ^ 64 → decimal m ≡ decimal n → m ≡ n
wide_same m n p q e =
    sym (decimal_is_IsNumeral_wide m p).1 ∙ ap (digits_value 10) e ∙ (decimal_is_IsNumeral_wide n q).1

no_minus : (ds : List ℕ) → AllDigits 10 (45 ∷ ds) → ⊥
no_minus ds all = let range = digit_from_value 45 all.0 in omega (arith, range)

signed_same : (a b : ℤ) → FitsSigned w128 a → FitsSigned w128 b → signed_decimal a ≡ signed_decimal b → a ≡ b
signed_same (pos m) (pos n) p q e = ap pos (wide_same m n (omega (arith, p.sfits)) (omega (arith, q.sfits)) e)
signed_same (pos m) (negsuc n) p q e =
    absurd (no_minus (decimal (suc n)) (subst (AllDigits 10) e (decimal_is_IsNumeral_wide m (omega (arith, p.sfits))).0.1))
signed_same (negsuc m) (pos n) p q e =
    absurd (no_minus (decimal (suc m)) (subst (AllDigits 10) (sym e) (decimal_is_IsNumeral_wide n (omega (arith, q.sfits))).0.1))
signed_same (negsuc m) (negsuc n) p q e =
    let same = wide_same (suc m) (suc n) (omega (arith, p.sfits)) (omega (arith, q.sfits)) (ap (drop 1) e) in
    ap negsuc (omega (arith, same))

pub signed-splits : (word : List ℕ) → Splits (FitsSigned w128) (λ z. line word (signed_decimal z))
signed-splits word = field-splits (FitsSigned w128) signed_decimal 10 word signed_lack signed_same

-- texts after their lengths

equally_long : (t u x y : List ℕ) → length t ≡ length u → t ++ 10 ∷ x ≡ u ++ 10 ∷ y → (t ≡ u) × (x ≡ y)
equally_long [] [] x y n e = (refl, ap (drop 1) e)
equally_long [] (b ∷ u) x y n e = absurd (omega (arith, n))
equally_long (a ∷ t) [] x y n e = absurd (omega (arith, n))
equally_long (a ∷ t) (b ∷ u) x y n e =
    let more = equally_long t u x y (omega (arith, n)) (ap (drop 1) e) in
    (λ i. ap (λ (l : List ℕ). get_or l 0 0) e i ∷ more.0 i, more.1)

text_shape : (word text rest : List ℕ) → text_line word text ++ rest ≡ field 32 word (decimal (length text)) ++ (text ++ 10 ∷ rest)
text_shape word text rest =
    append_assoc (field 32 word (decimal (length text))) (text ++ 10 ∷ []) rest
    ∙ ap (λ (t : List ℕ). field 32 word (decimal (length text)) ++ t) (append_assoc text (10 ∷ []) rest)

pub text-splits : (word : List ℕ) → Splits IsText (text_line word)
text-splits word a b x y p q e =
    let count =
    number-splits 32 (omega arith) word (length a) (length b) (a ++ 10 ∷ x) (b ++ 10 ∷ y) p q
    (sym (text_shape word a x) ∙ e ∙ text_shape word b y) in
    equally_long a b x y count.0 count.1

-- items after their number

pub counted-splits : {A : Type 0} (P : A → Type 0) (item : A → List ℕ) (word : List ℕ) → Splits P item
    → Splits (AreAll P) (counted_lines word item)
counted-splits P item word splits a b x y p q e =
    let count =
    number-splits 10 (omega arith) word (length a) (length b) (flat_map item a ++ x) (flat_map item b ++ y) p.0 q.0
    (sym (append_assoc (line word (decimal (length a))) (flat_map item a) x) ∙ e
    ∙ append_assoc (line word (decimal (length b))) (flat_map item b) y) in
    many-splits P item splits a b x y count.0 p.1 q.1 count.1
