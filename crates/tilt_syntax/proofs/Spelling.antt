-- Texts that spell tokens, with blanks between them or none, and that they are read as these tokens.
use Rattle.std.proofs.Common.{◌≡◌, ◌⊎◌, inl, inr, ℕ, ◌+◌, ◌^◌, ◌<◌, ◌≤◌, pos, negsuc}
use Rattle.std.proofs.Common.{Bool, true, false, ◌&&◌, ◌||◌, ◌==◌, not, IsTrue, List, [], ◌∷◌, ◌++◌, length, get_or, take, drop, refl, sym, ap, ◌∙◌, subst, arith}
use Rattle.std.specs.Prelude.{⊤}
use Rattle.std.specs.Bool.{IsFalse}
use Rattle.std.specs.Char.{is_ascii_digit}
use Rattle.std.specs.Fmt.{decimal}
use Rattle.std.specs.List.{list_all, prefix_len}
use Rattle.std.specs.Str.Parse.{digits_value}
use Rattle.std.proofs.lemmas.Bool.{and_parts, false≢true, not-true, or_parts}
use Rattle.std.proofs.lemmas.Fmt.{decimal_nonempty, digits_decimal, digits_value-decimal}
use Rattle.std.proofs.lemmas.Int.{ints}
use Rattle.std.proofs.lemmas.List.{get_or_append_left, take_at, drop_at}
use Rattle.tilt_lexer.specs.declared.mark.Mark.{Mark}
use Rattle.tilt_lexer.specs.declared.mark.Mark.TheVariants as mark
use Rattle.tilt_lexer.specs.declared.token.Tok.{Tok}
use Rattle.tilt_lexer.specs.declared.token.Tok.TheVariants as tok
use Rattle.tilt_lexer.specs.declared.token.Token.{Token}
use Rattle.tilt_lexer.specs.Front.{BeginsWithSign, IsFront}
use Rattle.tilt_lexer.specs.Tokens.{is_blank, mark_text, IsTextOf, IsWithin, Begins, IsSound, AreTokens, nothing, blank as then_blank, token as then_token}
use Rattle.tilt_lexer.specs.Word.{begins_word, goes_on_word, IsWord, key_text}
use Rattle.tilt_lexer.proofs.Fronts.{word_goes_on, word_is_front, number_is_front, sign_is_front}
use Rattle.tilt_lexer.proofs.Numbers.{numerals}
use Rattle.tilt_lexer.proofs.Texts.{word_first, digits_first, sign_first, key_is_word}
use Rattle.tilt_syntax.specs.Printing.{sign_text}
use Rattle.tilt_syntax.specs.Query.{kinds, AreSound}

-- no token goes on with the first byte: it is none of a word, and no `=`
abbrev pub closes : List ℕ → Bool
closes [] = true
closes (b ∷ bytes) = not (goes_on_word b) && not (b == 61)

-- a sign with which no longer sign begins
abbrev pub begins_pair : ℕ → Bool
begins_pair b = b == 61 || b == 33 || b == 60 || b == 62

abbrev pub is_alone : Tok → Bool
is_alone (tok.Mark m) = not (begins_pair (get_or (mark_text m) 0 0))
is_alone (tok.Word x) = false
is_alone (tok.Number n) = false
is_alone (tok.Key k) = false

-- the token ends where these bytes begin
abbrev pub ends_before : Tok → List ℕ → Bool
ends_before k rest = is_alone k || closes rest

-- the bytes are the texts of the tokens, with blanks before each of them or none
pub data Spells : List ℕ → List Tok → Type 0 where
  end : Spells [] []
  blank : {b : ℕ} {bytes : List ℕ} {ks : List Tok} → IsTrue (is_blank b) → Spells bytes ks → Spells (b ∷ bytes) ks
  token : {rest : List ℕ} {ks : List Tok} (k : Tok) → IsTrue (ends_before k rest) → Spells rest ks → Spells (sign_text k ++ rest) (k ∷ ks)

-- the bytes don't go on with one that passes
abbrev Stops : (ℕ → Bool) → List ℕ → Type 0
Stops p [] = ⊤
Stops p (b ∷ bytes) = IsFalse (p b)

front_length : (p : ℕ → Bool) (text rest : List ℕ) → list_all p text ≡ true → Stops p rest → prefix_len p (text ++ rest) ≡ length text
front_length p [] [] h s = refl
front_length p [] (b ∷ rest) h s = rw s refl
front_length p (b ∷ text) rest h s =
    let parts = and_parts (p b) (list_all p text) h in
    let more = front_length p text rest parts.1 s in
    rw parts.0 (omega (arith, more))

-- what closes a token doesn't go on a word, nor digits, and is no `=`
stops_word : (rest : List ℕ) → IsTrue (closes rest) → Stops goes_on_word rest
stops_word [] h = tt
stops_word (b ∷ rest) h = not-true (goes_on_word b) (and_parts (not (goes_on_word b)) (not (b == 61)) h).0

stops_digits : (rest : List ℕ) → IsTrue (closes rest) → Stops is_ascii_digit rest
stops_digits [] h = tt
stops_digits (b ∷ rest) h = (or_parts (begins_word b) (is_ascii_digit b) (stops_word (b ∷ rest) h)).1

-- what is at the beginning begins the bytes
front_begins : (k : Tok) (text rest : List ℕ) (n : ℕ) → length text ≡ n → IsFront k n (text ++ rest) → Begins k (text ++ rest) text rest
front_begins k text rest n e front =
    let text_is : take n (text ++ rest) ≡ text = take_at text rest n e in
    let rest_is : drop n (text ++ rest) ≡ rest = drop_at text rest n e in
    subst (λ l. Begins k (text ++ rest) l rest) text_is (subst (λ l. Begins k (text ++ rest) (take n (text ++ rest)) l) rest_is front.begins)

word_begins : (k : Tok) (text rest : List ℕ) → IsWord text → IsTextOf k text → IsWithin k → Stops goes_on_word rest
    → Begins k (text ++ rest) text rest
word_begins k text rest w is within stops =
    let first = word_first text w in
    let n = prefix_len goes_on_word (text ++ rest) in
    let same : n ≡ length text = front_length goes_on_word text rest (word_goes_on text w) stops in
    let begins : IsTrue (begins_word (get_or (text ++ rest) 0 0)) = ap begins_word (get_or_append_left text rest 0 0 first.0) ∙ first.1 in
    let front_is : take n (text ++ rest) ≡ text = take_at text rest n (sym same) in
    front_begins k text rest n (sym same) (word_is_front (text ++ rest) k begins (subst (IsTextOf k) (sym front_is) is) within)

number_begins : (m : ℕ) (rest : List ℕ) → m < 2 ^ 63 → Stops is_ascii_digit rest
    → Begins (tok.Number (pos m)) (decimal m ++ rest) (decimal m) rest
number_begins m rest below stops =
    let text = decimal m in
    let some : 0 < length text = decimal_nonempty m (omega arith) in
    let digits : list_all is_ascii_digit text ≡ true = digits_decimal numerals m (omega arith) in
    let value : digits_value 10 text ≡ m = digits_value-decimal numerals m (omega arith) in
    let n = prefix_len is_ascii_digit (text ++ rest) in
    let same : n ≡ length text = front_length is_ascii_digit text rest digits stops in
    let front_is : take n (text ++ rest) ≡ text = take_at text rest n (sym same) in
    let value_is : digits_value 10 (take n (text ++ rest)) ≡ m = ap (digits_value 10) front_is ∙ value in
    let first_is : get_or (text ++ rest) 0 0 ≡ get_or text 0 0 = get_or_append_left text rest 0 0 some in
    let first : IsTrue (is_ascii_digit (get_or (text ++ rest) 0 0)) = ap is_ascii_digit first_is ∙ digits_first text (some, digits) in
    front_begins (tok.Number (pos m)) text rest n (sym same) (number_is_front (text ++ rest) (pos m) first (omega arith) (ap pos (sym value_is)))

-- a sign is one byte, or a byte of a few and then `=`
abbrev IsPair : List ℕ → Type 0
IsPair text = (a : ℕ) × (IsTrue (begins_pair a) × (text ≡ a ∷ 61 ∷ []))

one_or_two : (m : Mark) → (length (mark_text m) ≡ 1) ⊎ IsPair (mark_text m)
one_or_two mark.Equal = inr (61, (refl, refl))
one_or_two mark.NotEqual = inr (33, (refl, refl))
one_or_two mark.AtMost = inr (60, (refl, refl))
one_or_two mark.AtLeast = inr (62, (refl, refl))
one_or_two m = inl refl

no_equals : (rest more : List ℕ) → IsTrue (closes rest) → rest ≡ 61 ∷ more → ⊥
no_equals rest more h e = false≢true (ap closes (sym e) ∙ h)

-- no longer sign is there than one that ends before the rest
no_longer_pair : (m : Mark) (rest more : List ℕ) (a : ℕ) → IsTrue (ends_before (tok.Mark m) rest) → IsTrue (begins_pair a)
    → length (mark_text m) ≡ 1 → mark_text m ++ rest ≡ a ∷ 61 ∷ more → ⊥
no_longer_pair m rest more a ends pair one e =
    let first : get_or (mark_text m) 0 0 ≡ a = sym (get_or_append_left (mark_text m) rest 0 0 (sign_first m).some) ∙ ap (λ l. get_or l 0 0) e in
    let behind : rest ≡ 61 ∷ more = sym (drop_at (mark_text m) rest 1 one) ∙ ap (drop 1) e in
    let not_alone : is_alone (tok.Mark m) ≡ false = ap (λ b. not (begins_pair b)) first ∙ ap not pair in
    let closed : IsTrue (closes rest) = ap (λ b. b || closes rest) (sym not_alone) ∙ ends in
    no_equals rest more closed behind

same_length : (m other : Mark) (b a : ℕ) → mark_text m ≡ b ∷ 61 ∷ [] → mark_text other ≡ a ∷ 61 ∷ [] → length (mark_text other) ≤ length (mark_text m)
same_length m other b a e f =
    let two : length (mark_text m) ≡ 2 = ap length e in
    let two_too : length (mark_text other) ≡ 2 = ap length f in
    omega arith

longest_sign : (m other : Mark) (rest more : List ℕ) → IsTrue (ends_before (tok.Mark m) rest)
    → mark_text m ++ rest ≡ mark_text other ++ more → length (mark_text other) ≤ length (mark_text m)
longest_sign m other rest more ends e =
    let some = (sign_first m).some in
    elim (one_or_two other) [
      | inl short ↦ omega arith
      | inr (a, (pair, is)) ↦ elim (one_or_two m) [
        | inl one ↦ absurd (no_longer_pair m rest more a ends pair one (e ∙ ap (λ l. l ++ more) is))
        | inr (b, (other_pair, long)) ↦ same_length m other b a long is
      ]
    ]

sign_begins : (m : Mark) (rest : List ℕ) → IsTrue (ends_before (tok.Mark m) rest)
    → Begins (tok.Mark m) (mark_text m ++ rest) (mark_text m) rest
sign_begins m rest ends =
    let first = sign_first m in
    let bytes = mark_text m ++ rest in
    let same : get_or bytes 0 0 ≡ get_or (mark_text m) 0 0 = get_or_append_left (mark_text m) rest 0 0 first.some in
    let sign : BeginsWithSign m bytes = record { begins = (rest, refl); longest = λ other more e. longest_sign m other rest more ends e } in
    front_begins (tok.Mark m) (mark_text m) rest (length (mark_text m)) refl
    (sign_is_front bytes (ap begins_word same ∙ first.no_word) (ap is_ascii_digit same ∙ first.no_digit) m sign)

-- a token's text is read as the token if it ends before the rest
token_begins : (k : Tok) (rest : List ℕ) → IsSound k → IsTrue (ends_before k rest) → Begins k (sign_text k ++ rest) (sign_text k) rest
token_begins (tok.Word x) rest s ends = word_begins (tok.Word x) x rest s.0 (s.0, s.1, refl) tt (stops_word rest ends)
token_begins (tok.Number (pos n)) rest s ends = number_begins n rest (omega (arith, ints, s.1)) (stops_digits rest ends)
token_begins (tok.Number (negsuc n)) rest s ends = absurd (omega (arith, ints, s.0))
token_begins (tok.Key k) rest s ends = word_begins (tok.Key k) (key_text k) rest (key_is_word k) refl tt (stops_word rest ends)
token_begins (tok.Mark m) rest s ends = sign_begins m rest ends

within : (k : Tok) → IsSound k → IsWithin k
within (tok.Word x) s = tt
within (tok.Number n) s = s.1
within (tok.Key k) s = tt
within (tok.Mark m) s = tt

pub record Lexed (at : ℕ) (bytes : List ℕ) (ks : List Tok) : Type 0 where
  pub tokens : List Token
  pub are : AreTokens at bytes tokens
  pub kinds_are : kinds tokens ≡ ks

-- bytes that spell sound tokens are read as these
pub lexed : {bytes : List ℕ} {ks : List Tok} → Spells bytes ks → AreSound ks → (at : ℕ) → Lexed at bytes ks
lexed end s at = record { tokens = []; are = nothing; kinds_are = refl }
lexed (blank is more) s at =
    let l = lexed more s (at + 1) in
    record { tokens = l.tokens; are = then_blank is l.are; kinds_are = l.kinds_are }
lexed (token {rest = rest} k ends more) s at =
    let l = lexed more s.1 (at + length (sign_text k)) in
    record {
      tokens = record { kind = k; start = at; end = at + length (sign_text k) } ∷ l.tokens;
      are = then_token (token_begins k rest s.0 ends) (within k s.0) l.are;
      kinds_are = ap (λ ks. k ∷ ks) l.kinds_are;
    }
