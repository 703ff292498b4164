-- The numbers that are noted of tokens: each is a number that a text may have, and with them the counts are the tokens again.
use Rattle.std.proofs.Common.{◌≡◌, ℕ, suc, ◌+◌, ◌<◌, ◌≤◌, ℤ, nat_lt, Bool, true, false, if◌then◌else◌, List, [], ◌∷◌, ◌++◌, map, length, Option, Some, None, Result, Ok}
use Rattle.std.proofs.Common.{Err, refl, sym, ap, ◌∙◌, subst, arith}
use Rattle.std.specs.List.{AllByRecursion, slice_get}
use Rattle.std.proofs.lemmas.Bool.Decides.{nat_tests}
use Rattle.std.proofs.lemmas.Int.{ints}
use Rattle.std.proofs.lemmas.List.{append_assoc, append-nil}
use Rattle.tilt_lexer.specs.Tokens.{IsSound}
use Rattle.tilt_lexer.specs.declared.token.Tok.{Tok}
use Rattle.tilt_lexer.specs.declared.token.Tok.TheVariants.{Word, Number, Key as Reserved, Mark as Sign}
use Rattle.tilt_lexer.specs.declared.token.Token.{Token}
use Rattle.tilt_syntax.specs.Query.{AreSound, kinds}
use Rattle.tilt_unit_text.proofs.Split.{tokens_with}
use Rattle.tilt_unit_text.specs.Numbers.{IsWritten, Progress, and_then, decimals_in, first_place, left_over, more_noted, noted, noted_by, number_in, point_fault, unless}
use Rattle.tilt_unit_text.specs.Places.{counted, digits_of}
use Rattle.tilt_unit_text.specs.declared.fault.UnitFault.{UnitFault}
use Rattle.tilt_unit_text.specs.declared.fault.UnitFault.TheVariants as fault
use Rattle.tilt_unit_text.specs.declared.written.Written.{Written}

pub after_then : {A B : Type 0} {P : Type 0} (r : Result A UnitFault) (next : A → Result B UnitFault) (b : B) → and_then r next ≡ Ok b
    → ((a : A) → r ≡ Ok a → next a ≡ Ok b → P) → P
after_then (Ok a) next b h go = go a refl h
after_then (Err f) next b h go = absurd (cc h)

pub no_fault : {A : Type 0} (f : Option UnitFault) (a b : A) → unless f a ≡ Ok b → (f ≡ None) × (a ≡ b)
no_fault None a b h = (refl, cc h)
no_fault (Some f) a b h = absurd (cc h)

-- the numbers among tokens
abbrev pub values : List Tok → List ℤ
values [] = []
values (Number n ∷ ts) = n ∷ values ts
values (Word x ∷ ts) = values ts
values (Reserved k ∷ ts) = values ts
values (Sign m ∷ ts) = values ts

abbrev pub digits : List Written → List ℤ
digits numbers = map (λ (w : Written). w.digits) numbers

digits_append : (xs ys : List Written) → digits (xs ++ ys) ≡ digits xs ++ digits ys
digits_append [] ys = refl
digits_append (x ∷ xs) ys = ap (λ zs. x.digits ∷ zs) (digits_append xs ys)

-- one token
values_in : (t : Tok) (decimals at : ℕ) (ts : List Tok) → digits (number_in t decimals at) ++ values ts ≡ values (t ∷ ts)
values_in (Number n) decimals at ts = refl
values_in (Word x) decimals at ts = refl
values_in (Reserved k) decimals at ts = refl
values_in (Sign m) decimals at ts = refl

more_values : (points : List ℕ) (so_far : Progress) (tokens : List Token) (all : Progress) → more_noted points so_far tokens ≡ Ok all
    → digits all.numbers ≡ digits so_far.numbers ++ values (kinds tokens)
more_values points so_far [] all h = let e : so_far ≡ all = cc h in ap (λ (p : Progress). digits p.numbers) (sym e) ∙ sym (append-nil (digits so_far.numbers))
more_values points so_far (token ∷ tokens) all h =
    let point = slice_get points so_far.taken in
    after_then (noted_by so_far token point) (λ next. more_noted points next tokens) all h (λ next is rest.
    let new = number_in token.kind (decimals_in token.end point) (token.start + so_far.taken) in
    let made : Progress = record {
      numbers = so_far.numbers ++ new;
      taken = if nat_lt 0 (decimals_in token.end point) then so_far.taken + 1 else so_far.taken;
    } in
    let e = (no_fault (point_fault so_far.taken token point) made next is).1 in
    let k = ap (λ (p : Progress). digits p.numbers) e in
    let l = digits_append so_far.numbers new in
    more_values points next tokens all rest ∙ ap (λ zs. zs ++ values (kinds tokens)) (sym k ∙ l)
    ∙ append_assoc (digits so_far.numbers) (digits new) (values (kinds tokens))
    ∙ ap (λ zs. digits so_far.numbers ++ zs) (values_in token.kind (decimals_in token.end point) (token.start + so_far.taken) (kinds tokens)))

noted_values : (points : List ℕ) (tokens : List Token) (numbers : List Written) → noted points tokens ≡ Ok numbers
    → digits numbers ≡ values (kinds tokens)
noted_values points tokens numbers h =
    after_then (more_noted points (record { numbers = []; taken = 0 }) tokens)
    (λ all. unless (left_over all.taken (slice_get points all.taken)) all.numbers) numbers h (λ all is rest.
    ap digits (sym (no_fault (left_over all.taken (slice_get points all.taken)) all.numbers numbers rest).1)
    ∙ more_values points (record { numbers = []; taken = 0 }) tokens all is)

-- the digits of the number with a count
digit_at : (numbers : List Written) (front : List ℤ) (v : ℤ) (back : List ℤ) → digits numbers ≡ front ++ (v ∷ back)
    → digits_of (slice_get numbers (length front)) ≡ v
digit_at [] [] v back h = absurd (cc h)
digit_at [] (f ∷ front) v back h = absurd (cc h)
digit_at (w ∷ numbers) [] v back h = cc h
digit_at (w ∷ numbers) (f ∷ front) v back h = digit_at numbers front v back (cc h)

length_more : (front : List ℤ) (v : ℤ) → length (front ++ v ∷ []) ≡ suc (length front)
length_more [] v = refl
length_more (f ∷ front) v = ap suc (length_more front v)

counts_with : (numbers : List Written) (front : List ℤ) (ts : List Tok) → digits numbers ≡ front ++ values ts
    → tokens_with numbers (counted (length front) ts) ≡ ts
counts_with numbers front [] h = refl
counts_with numbers front (Number n ∷ ts) h =
    let first = digit_at numbers front n (values ts) h in
    let rest = counts_with numbers (front ++ n ∷ []) ts (h ∙ sym (append_assoc front (n ∷ []) (values ts))) in
    let more = length_more front n in
    let same = subst (λ k. tokens_with numbers (counted k ts) ≡ ts) more rest in
    let number : Number (digits_of (slice_get numbers (length front))) ≡ Number n = ap (λ v. Number v) first in
    cc (number, same)
counts_with numbers front (Word x ∷ ts) h = ap (λ us. Word x ∷ us) (counts_with numbers front ts h)
counts_with numbers front (Reserved k ∷ ts) h = ap (λ us. Reserved k ∷ us) (counts_with numbers front ts h)
counts_with numbers front (Sign m ∷ ts) h = ap (λ us. Sign m ∷ us) (counts_with numbers front ts h)

pub counted_with : (points : List ℕ) (tokens : List Token) (numbers : List Written) → noted points tokens ≡ Ok numbers
    → tokens_with numbers (counted 0 (kinds tokens)) ≡ kinds tokens
counted_with points tokens numbers h = counts_with numbers [] (kinds tokens) (noted_values points tokens numbers h)

-- numbers of a text
few_by : (misplaced many : Bool) (end point : ℕ) (f g : UnitFault) → (if misplaced then Some f else if many then Some g else None) ≡ None
    → nat_lt 18 (decimals_in end (Some point)) ≡ many → decimals_in end (Some point) ≤ 18
few_by true many end point f g h e = absurd (cc h)
few_by false true end point f g h e = absurd (cc h)
few_by false false end point f g h e = grind (arith, nat_tests)

few : (taken : ℕ) (token : Token) (point : Option ℕ) → point_fault taken token point ≡ None → decimals_in token.end point ≤ 18
few taken token None h = omega arith
few taken token (Some point) h =
    few_by (nat_lt point (first_place token.kind token.start token.end)) (nat_lt 18 (decimals_in token.end (Some point))) token.end point
    (fault.BadPoint (point + taken)) (fault.ManyDecimals (token.start + taken)) h refl

all_append : (xs ys : List Written) → AllByRecursion IsWritten xs → AllByRecursion IsWritten ys → AllByRecursion IsWritten (xs ++ ys)
all_append [] ys h g = g
all_append (x ∷ xs) ys h g = (h.0, all_append xs ys h.1 g)

written_in : (t : Tok) (decimals at : ℕ) → IsSound t → decimals ≤ 18 → AllByRecursion IsWritten (number_in t decimals at)
written_in (Number n) decimals at s h = (record { positive = s.0; few = h }, tt)
written_in (Word x) decimals at s h = tt
written_in (Reserved k) decimals at s h = tt
written_in (Sign m) decimals at s h = tt

more_written : (points : List ℕ) (so_far : Progress) (tokens : List Token) (all : Progress) → AreSound (kinds tokens)
    → AllByRecursion IsWritten so_far.numbers → more_noted points so_far tokens ≡ Ok all → AllByRecursion IsWritten all.numbers
more_written points so_far [] all s w h = let e : so_far ≡ all = cc h in subst (λ (p : Progress). AllByRecursion IsWritten p.numbers) e w
more_written points so_far (token ∷ tokens) all s w h =
    let point = slice_get points so_far.taken in
    after_then (noted_by so_far token point) (λ next. more_noted points next tokens) all h (λ next is rest.
    let new = number_in token.kind (decimals_in token.end point) (token.start + so_far.taken) in
    let made : Progress = record {
      numbers = so_far.numbers ++ new;
      taken = if nat_lt 0 (decimals_in token.end point) then so_far.taken + 1 else so_far.taken;
    } in
    let p = no_fault (point_fault so_far.taken token point) made next is in
    let more = written_in token.kind (decimals_in token.end point) (token.start + so_far.taken) s.0 (few so_far.taken token point p.0) in
    let both : AllByRecursion IsWritten made.numbers = all_append so_far.numbers new w more in
    more_written points next tokens all s.1 (subst (λ (q : Progress). AllByRecursion IsWritten q.numbers) p.1 both) rest)

pub noted_written : (points : List ℕ) (tokens : List Token) (numbers : List Written) → AreSound (kinds tokens)
    → noted points tokens ≡ Ok numbers → AllByRecursion IsWritten numbers
noted_written points tokens numbers s h =
    after_then (more_noted points (record { numbers = []; taken = 0 }) tokens)
    (λ all. unless (left_over all.taken (slice_get points all.taken)) all.numbers) numbers h (λ all is rest.
    subst (λ ns. AllByRecursion IsWritten ns) (no_fault (left_over all.taken (slice_get points all.taken)) all.numbers numbers rest).1
    (more_written points (record { numbers = []; taken = 0 }) tokens all s tt is))

-- counts are numbers that a text may have
pub counted_sound : (n : ℕ) (ts : List Tok) → AreSound ts → n + length ts < 9223372036854775808 → AreSound (counted n ts)
counted_sound n [] s h = tt
counted_sound n (Number m ∷ ts) s h = ((omega (arith, ints), omega (arith, ints)), counted_sound (suc n) ts s.1 (omega arith))
counted_sound n (Word x ∷ ts) s h = (s.0, counted_sound n ts s.1 (omega arith))
counted_sound n (Reserved k ∷ ts) s h = (s.0, counted_sound n ts s.1 (omega arith))
counted_sound n (Sign m ∷ ts) s h = (s.0, counted_sound n ts s.1 (omega arith))

map_same : (ts : List Token) → map (λ (t : Token). t) ts ≡ ts
map_same [] = refl
map_same (t ∷ ts) = ap (λ us. t ∷ us) (map_same ts)

pub counted_all : (counts : List Tok) (count : ℕ) (ys ts : List Token) → map (λ (t : Token). t) ys ≡ ts
    → ((rest : List Tok) → counts ++ counted count rest ≡ counted 0 (kinds ys ++ rest)) → counts ≡ counted 0 (kinds ts)
counted_all counts count ys ts e h =
    sym (append-nil counts) ∙ h [] ∙ ap (counted 0) (append-nil (kinds ys) ∙ ap kinds (sym (map_same ys) ∙ e))
