-- A line with a key before it.
use Rattle.std.proofs.Common.{◌≡◌, ℕ, true, false, ◌==◌, List, [], ◌∷◌, ◌++◌, Ok, refl, sym, ◌∙◌, append_assoc, append-nil}
use Rattle.std.specs.Prelude.{not}
use Rattle.std.specs.List.{list_any}
use Rattle.std.proofs.lemmas.Bool.{and_parts, not-true, or_from, or_parts}
use Rattle.tilt_feed_line.specs.Lines.{fields_said, keyed_fields_said, keyed_line_said, line_said}
use Rattle.tilt_feed_line.specs.Plain.{is_plain, is_plain_field, is_special, words, words_from}
use Rattle.tilt_feed_line.specs.declared.line.KeyedLine.TheVariants as keyed
use Rattle.tilt_feed_line.specs.declared.line.Line.{Line}
use Rattle.tilt_feed_line.proofs.PlainLines.{plain_bytes, plain_tests}

-- bytes without a comma, and a comma after them
key_word : (word key bytes : List ℕ) → list_any (λ byte. byte == 44) key ≡ false
    → words_from word (key ++ 44 ∷ bytes) ≡ (word ++ key) ∷ words bytes
key_word word [] bytes lone = rw append-nil refl
key_word word (c ∷ key) bytes lone =
    let parts = or_parts (c == 44) (list_any (λ byte. byte == 44) key) lone in
    rw parts.0 (rw append_assoc at (key_word (word ++ (c ∷ [])) key bytes parts.1))

-- no special byte comes in between
pub special_append : (key bytes : List ℕ) → list_any is_special key ≡ false → list_any is_special bytes ≡ false
    → list_any is_special (key ++ 44 ∷ bytes) ≡ false
special_append [] bytes k b = b
special_append (c ∷ key) bytes k b =
    let parts = or_parts (is_special c) (list_any is_special key) k in
    or_from (is_special c) (list_any is_special (key ++ 44 ∷ bytes)) parts.0 (special_append key bytes parts.1 b)

-- a plain line says what its words say
said_words : (inputs : List (List ℕ)) (bytes : List ℕ) → is_plain bytes ≡ true → line_said inputs bytes ≡ fields_said inputs (words bytes)
said_words inputs bytes plain = rw (plain_bytes bytes plain) refl

-- one field more
pub fields_keyed : (inputs fields : List (List ℕ)) (c : ℕ) (cs : List ℕ) (said : Line) → fields_said inputs fields ≡ Ok said
    → keyed_fields_said inputs ((c ∷ cs) ∷ fields) ≡ Ok (keyed.OfKey (c ∷ cs) said)
fields_keyed inputs [] c cs said e = cc e
fields_keyed inputs (x ∷ []) c cs said e = cc e
fields_keyed inputs (x ∷ y ∷ []) c cs said e = cc e
fields_keyed inputs (x ∷ y ∷ z ∷ []) c cs said e = cc e
fields_keyed inputs (x ∷ y ∷ z ∷ w ∷ []) c cs said e = rw e refl
fields_keyed inputs (x ∷ y ∷ z ∷ w ∷ v ∷ more) c cs said e = cc e

-- what a line says in a feed without keys, it says of a key with the key before it
pub key_before_line : (inputs : List (List ℕ)) (key bytes : List ℕ) (said : Line) → is_plain_field key ≡ true → is_plain bytes ≡ true
    → line_said inputs bytes ≡ Ok said → keyed_line_said inputs (key ++ 44 ∷ bytes) ≡ Ok (keyed.OfKey key said)
key_before_line inputs [] bytes said field plain e = cc field
key_before_line inputs (c ∷ cs) [] said field plain e = cc plain
key_before_line inputs (c ∷ cs) (b ∷ bs) said field plain e =
    let lone = and_parts (is_plain (c ∷ cs)) (not (list_any (λ byte. byte == 44) (c ∷ cs))) field in
    let tests = plain_tests c cs lone.0 in
    let whole = special_append (c ∷ cs) (b ∷ bs) tests.1 (plain_tests b bs plain).1 in
    let all_plain : is_plain ((c ∷ cs) ++ 44 ∷ b ∷ bs) ≡ true = rw (tests.0, whole) refl in
    let both = key_word [] (c ∷ cs) (b ∷ bs) (not-true (list_any (λ byte. byte == 44) (c ∷ cs)) lone.1) in
    rw (plain_bytes ((c ∷ cs) ++ 44 ∷ b ∷ bs) all_plain, both)
    (fields_keyed inputs (words (b ∷ bs)) c cs said (sym (said_words inputs (b ∷ bs) plain) ∙ e))
