-- The longest token at the beginning: a word as far as letters, digits and `_` go, a number as far as digits go, a sign where none is longer.
use Rattle.std.proofs.Common.{◌≡◌, inl, inr, ℕ, ◌^◌, ◌<◌, ◌≤◌, ℤ, pos, Bool, true}
use Rattle.std.proofs.Common.{List, [], ◌∷◌, ◌++◌, length, get_or, take, drop, refl, sym, ap, ◌∙◌, arith, IsTrue, one-add, take-append-drop, length-append}
use Rattle.std.specs.Bool.{IsFalse}
use Rattle.std.specs.Char.{is_ascii_digit}
use Rattle.std.specs.List.{list_all, prefix_len}
use Rattle.std.specs.Str.Parse.{digits_value}
use Rattle.std.proofs.lemmas.Bool.{and_parts, or_left, false≢true, cases_Bool}
use Rattle.std.proofs.lemmas.Int.{ints}
use Rattle.std.proofs.lemmas.List.{take_at, drop_at}
use Rattle.std.proofs.lemmas.List.Folds.{length-prefix_len}
use Rattle.tilt_lexer.specs.declared.mark.Mark.{Mark}
use Rattle.tilt_lexer.specs.declared.token.Tok.{Tok}
use Rattle.tilt_lexer.specs.declared.token.Tok.TheVariants as tok
use Rattle.tilt_lexer.specs.Front.{BeginsWithSign, IsFront}
use Rattle.tilt_lexer.specs.Tokens.{mark_text, IsDigits, IsTextOf, Begins, BeginsBig, IsWithin}
use Rattle.tilt_lexer.specs.Word.{begins_word, goes_on_word, IsWord}
use Rattle.tilt_lexer.proofs.Texts.{word_from_first, digits_from_first, sign_from_first}

module _ (p : ℕ → Bool) where
  -- a list that passes throughout is no longer than the prefix that passes
  all_fits : (xs ys : List ℕ) → list_all p xs ≡ true → length xs ≤ prefix_len p (xs ++ ys)
  all_fits [] ys h = omega arith
  all_fits (x ∷ xs) ys h =
      let parts = and_parts (p x) (list_all p xs) h in
      rw parts.0 (omega (arith, all_fits xs ys parts.1))

  -- the prefix that passes passes throughout
  all_front : (xs : List ℕ) → list_all p (take (prefix_len p xs) xs) ≡ true
  all_front [] = refl
  all_front (x ∷ xs) =
      elim (cases_Bool (p x)) [ inl passes ↦ rw (passes, one-add, passes, all_front xs) | inr stops ↦ rw stops ]

  prefix_fits : (xs : List ℕ) → prefix_len p xs ≤ length xs
  prefix_fits [] = omega arith
  prefix_fits (x ∷ xs) =
      elim (cases_Bool (p x)) [ inl passes ↦ rw passes (omega (arith, prefix_fits xs)) | inr stops ↦ rw stops (omega arith) ]

-- a word goes on as far as letters, digits and `_` go
pub word_goes_on : (text : List ℕ) → IsWord text → list_all goes_on_word text ≡ true
word_goes_on [] h = refl
word_goes_on (b ∷ bs) h =
    let parts = and_parts (begins_word b) (list_all goes_on_word bs) h in
    rw (or_left (begins_word b) (is_ascii_digit b) parts.0, parts.1)

-- the letters, digits and `_` at the beginning are a word, where the first begins one
pub front_is_word : (bytes : List ℕ) → IsTrue (begins_word (get_or bytes 0 0)) → IsWord (take (prefix_len goes_on_word bytes) bytes)
front_is_word [] h = absurd (false≢true h)
front_is_word (b ∷ bs) h =
    let goes_on : goes_on_word b ≡ true = or_left (begins_word b) (is_ascii_digit b) h in
    rw (goes_on, one-add, h, all_front goes_on_word bs)

-- the digits at the beginning are one or more, where the first is a digit
pub front_is_digits : (bytes : List ℕ) → IsTrue (is_ascii_digit (get_or bytes 0 0)) → IsDigits (take (prefix_len is_ascii_digit bytes) bytes)
front_is_digits [] h = absurd (false≢true h)
front_is_digits (b ∷ bs) h = (rw (h, one-add) (omega arith), all_front is_ascii_digit (b ∷ bs))

module _ (bytes : List ℕ) where
  -- the word at the beginning
  pub word_is_front : (kind : Tok) → IsTrue (begins_word (get_or bytes 0 0)) → IsTextOf kind (take (prefix_len goes_on_word bytes) bytes)
      → IsWithin kind → IsFront kind (prefix_len goes_on_word bytes) bytes
  word_is_front kind first is_text within =
      let n = prefix_len goes_on_word bytes in
      record {
        fits = prefix_fits goes_on_word bytes;
        begins = record {
          whole = sym (take-append-drop n bytes);
          is_text = is_text;
          longest = λ front more e h.
              let fits = all_fits goes_on_word front more (word_goes_on front (word_from_first bytes front more e h first)) in
              rw length-prefix_len (rw e fits);
        };
        within = within;
      }

  -- the number at the beginning
  pub number_begins : IsTrue (is_ascii_digit (get_or bytes 0 0))
      → let n = prefix_len is_ascii_digit bytes in Begins (tok.Number (pos (digits_value 10 (take n bytes)))) bytes (take n bytes) (drop n bytes)
  number_begins first =
      let n = prefix_len is_ascii_digit bytes in
      record {
        whole = sym (take-append-drop n bytes);
        is_text = (front_is_digits bytes first, refl);
        longest = λ front more e h.
            let fits = all_fits is_ascii_digit front more (digits_from_first bytes front more e h first).1 in
            rw length-prefix_len (rw e fits);
      }

  pub number_is_front : (v : ℤ) → IsTrue (is_ascii_digit (get_or bytes 0 0))
      → let n = prefix_len is_ascii_digit bytes in digits_value 10 (take n bytes) < 2 ^ 63 → v ≡ pos (digits_value 10 (take n bytes)) → IsFront (tok.Number v) n bytes
  number_is_front v first below is =
      let n = prefix_len is_ascii_digit bytes in
      rw is (record { fits = prefix_fits is_ascii_digit bytes; begins = number_begins first; within = omega (arith, ints) })

  pub number_is_big : IsTrue (is_ascii_digit (get_or bytes 0 0)) → ¬ (digits_value 10 (take (prefix_len is_ascii_digit bytes) bytes) < 2 ^ 63) → BeginsBig bytes
  number_is_big first big =
      let n = prefix_len is_ascii_digit bytes in
      record { number = pos (digits_value 10 (take n bytes)); text = take n bytes; rest = drop n bytes; begins = number_begins first; above = omega (arith, ints) }

  module _ (no_word : IsFalse (begins_word (get_or bytes 0 0))) (no_digit : IsFalse (is_ascii_digit (get_or bytes 0 0))) where
    -- the sign at the beginning
    pub sign_is_front : (m : Mark) → BeginsWithSign m bytes → IsFront (tok.Mark m) (length (mark_text m)) bytes
    sign_is_front m sign =
        let more = sign.begins.0 in
        let whole = sign.begins.1 in
        let front : take (length (mark_text m)) bytes ≡ mark_text m = rw whole (take_at (mark_text m) more (length (mark_text m)) refl) in
        let back : drop (length (mark_text m)) bytes ≡ more = rw whole (drop_at (mark_text m) more (length (mark_text m)) refl) in
        record {
          fits = omega (arith, ap length whole, length-append (mark_text m) more);
          begins = record {
            whole = sym (take-append-drop (length (mark_text m)) bytes);
            is_text = front;
            longest = λ front_text others e h.
                let is_sign = sign_from_first bytes front_text others e h no_word no_digit in
                omega (arith, ap length front, ap length is_sign.1, sign.longest is_sign.0 others (e ∙ ap (λ l. l ++ others) is_sign.1));
          };
          within = tt;
        }
