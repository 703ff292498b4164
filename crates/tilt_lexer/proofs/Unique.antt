-- Bytes have one list of tokens or one fault, and not both.
use Rattle.std.proofs.Common.{◌≡◌, ℕ, ◌+◌, List, [], ◌∷◌, ◌++◌, length, get_or, take, drop, refl, sym, ap, ◌∙◌, subst, arith, length-append, IsTrue}
use Rattle.std.specs.Char.{is_ascii_digit}
use Rattle.std.proofs.lemmas.Bool.{false≢true, both_ways}
use Rattle.std.proofs.lemmas.Int.{ints}
use Rattle.std.proofs.lemmas.List.{take_at, drop_at}
use Rattle.tilt_lexer.specs.declared.fault.LexFault.{LexFault}
use Rattle.tilt_lexer.specs.declared.fault.LexFault.TheVariants as fault
use Rattle.tilt_lexer.specs.declared.mark.Mark.{Mark}
use Rattle.tilt_lexer.specs.declared.token.Tok.{Tok}
use Rattle.tilt_lexer.specs.declared.token.Tok.TheVariants as tok
use Rattle.tilt_lexer.specs.declared.token.Token.{Token}
use Rattle.tilt_lexer.specs.Tokens.{is_blank, mark_text, IsDigits, IsTextOf, Begins, BeginsBig, IsWithin}
use Rattle.tilt_lexer.specs.Tokens.{AreTokens, nothing, blank, token, IsFaultyAt, bad_byte, big_number, after_blank, after_token}
use Rattle.tilt_lexer.specs.Word.{is_word, IsWord, begins_word}
use Rattle.tilt_lexer.proofs.Differ.{same_key, same_sign}
use Rattle.tilt_lexer.proofs.Texts.{digit_no_word, word_first, digits_first, sign_first, key_is_word, token_first, first_same}

-- no text is of two of the three
word_no_digits : (text : List ℕ) → IsWord text → IsDigits text → ⊥
word_no_digits text w d = false≢true (sym (digit_no_word (get_or text 0 0) (digits_first text d)) ∙ (word_first text w).1)

word_no_sign : (text : List ℕ) (m : Mark) → IsWord text → text ≡ mark_text m → ⊥
word_no_sign text m w e = false≢true (sym (sign_first m).no_word ∙ ap (λ l. begins_word (get_or l 0 0)) (sym e) ∙ (word_first text w).1)

digits_no_sign : (text : List ℕ) (m : Mark) → IsDigits text → text ≡ mark_text m → ⊥
digits_no_sign text m d e = false≢true (sym (sign_first m).no_digit ∙ ap (λ l. is_ascii_digit (get_or l 0 0)) (sym e) ∙ digits_first text d)

-- a text is that of one token
same_kind : (k j : Tok) (text : List ℕ) → IsTextOf k text → IsTextOf j text → k ≡ j
same_kind (tok.Word a) (tok.Word b) text g h = ap tok.Word (g.2 ∙ sym h.2)
same_kind (tok.Word a) (tok.Number n) text g h = absurd (word_no_digits text g.0 h.0)
same_kind (tok.Word a) (tok.Key k) text g h = absurd (g.1 (k, sym h))
same_kind (tok.Word a) (tok.Mark m) text g h = absurd (word_no_sign text m g.0 h)
same_kind (tok.Number n) (tok.Word b) text g h = absurd (word_no_digits text h.0 g.0)
same_kind (tok.Number n) (tok.Number v) text g h = ap tok.Number (g.1 ∙ sym h.1)
same_kind (tok.Number n) (tok.Key k) text g h = absurd (word_no_digits text (ap is_word h ∙ key_is_word k) g.0)
same_kind (tok.Number n) (tok.Mark m) text g h = absurd (digits_no_sign text m g.0 h)
same_kind (tok.Key k) (tok.Word b) text g h = absurd (h.1 (k, sym g))
same_kind (tok.Key k) (tok.Number n) text g h = absurd (word_no_digits text (ap is_word g ∙ key_is_word k) h.0)
same_kind (tok.Key k) (tok.Key j) text g h = ap tok.Key (same_key k j (sym g ∙ h))
same_kind (tok.Key k) (tok.Mark m) text g h = absurd (word_no_sign text m (ap is_word g ∙ key_is_word k) h)
same_kind (tok.Mark m) (tok.Word b) text g h = absurd (word_no_sign text m h.0 g)
same_kind (tok.Mark m) (tok.Number n) text g h = absurd (digits_no_sign text m h.0 g)
same_kind (tok.Mark m) (tok.Key k) text g h = absurd (word_no_sign text m (ap is_word h ∙ key_is_word k) g)
same_kind (tok.Mark m) (tok.Mark n) text g h = ap tok.Mark (same_sign m n (sym g ∙ h))

-- one token at the beginning, and one rest
record Same (k j : Tok) (text other rest others : List ℕ) : Type 0 where
  kinds : k ≡ j
  texts : text ≡ other
  rests : rest ≡ others

-- bytes begin with one token
same_begin : (k j : Tok) (bytes bytes' text other rest others : List ℕ) → bytes ≡ bytes' → Begins k bytes text rest → Begins j bytes' other others → Same k j text other rest others
same_begin k j bytes bytes' text other rest others e b c =
    let no_longer = b.longest other others (e ∙ c.whole) (j, c.is_text) in
    let no_shorter = c.longest text rest (sym e ∙ b.whole) (k, b.is_text) in
    let lengths : length other ≡ length text = omega arith in
    let wholes : text ++ rest ≡ other ++ others = sym b.whole ∙ e ∙ c.whole in
    let texts : text ≡ other = sym (take_at text rest (length text) refl) ∙ ap (take (length text)) wholes ∙ take_at other others (length text) lengths in
    let rests : rest ≡ others = sym (drop_at text rest (length text) refl) ∙ ap (drop (length text)) wholes ∙ drop_at other others (length text) lengths in
    record { kinds = same_kind k j text b.is_text (subst (IsTextOf j) (sym texts) c.is_text); texts = texts; rests = rests }

-- no bytes begin with no token
no_begin : (k : Tok) (bytes text rest : List ℕ) → [] ≡ bytes → Begins k bytes text rest → ⊥
no_begin k bytes text rest e b =
    let first = token_first text (k, b.is_text) in
    omega (arith, first.some, ap length (e ∙ b.whole), length-append text rest)

-- and no token begins with a blank
no_blank_begin : (k : Tok) (b : ℕ) (bs bytes text rest : List ℕ) → IsTrue (is_blank b) → b ∷ bs ≡ bytes → Begins k bytes text rest → ⊥
no_blank_begin k b bs bytes text rest p e begins =
    let first = token_first text (k, begins.is_text) in
    let same = first_same bytes text rest begins.whole (k, begins.is_text) in
    false≢true (sym first.no_blank ∙ ap is_blank (sym same ∙ ap (λ l. get_or l 0 0) (sym e)) ∙ p)

-- a token that is within 64 bits is none of a number that is too big
no_big : (k : Tok) (bytes bytes' text rest : List ℕ) → bytes ≡ bytes' → Begins k bytes text rest → IsWithin k → BeginsBig bytes' → ⊥
no_big k bytes bytes' text rest e b within big =
    let same = same_begin k (tok.Number big.number) bytes bytes' text big.text rest big.rest e b big.begins in
    let fits = subst IsWithin same.kinds within in
    omega (arith, ints, fits, big.above)

-- the tokens of bytes are the only ones
pub same_tokens : {at at' : ℕ} {bytes bytes' : List ℕ} {ts us : List Token} → AreTokens at bytes ts → AreTokens at' bytes' us → at ≡ at' → bytes ≡ bytes' → ts ≡ us
same_tokens nothing nothing a e = refl
same_tokens nothing (blank q c) a e = cc
same_tokens nothing (token {kind = j} {bytes = bytes'} {text = other} {rest = others} c w r) a e = absurd (no_begin j bytes' other others e c)
same_tokens (blank p b) nothing a e = cc
same_tokens (blank {bytes = bs} p b) (blank {bytes = cs} q c) a e = let tails : bs ≡ cs = cc in same_tokens b c (ap (λ n. n + 1) a) tails
same_tokens (blank {b = x} {bytes = bs} p b) (token {kind = j} {bytes = bytes'} {text = other} {rest = others} c w r) a e = absurd (no_blank_begin j x bs bytes' other others p e c)
same_tokens (token {kind = k} {bytes = bytes} {text = text} {rest = rest} b v r) nothing a e = absurd (no_begin k bytes text rest (sym e) b)
same_tokens (token {kind = k} {bytes = bytes} {text = text} {rest = rest} b v r) (blank {b = y} {bytes = cs} q c) a e = absurd (no_blank_begin k y cs bytes text rest q (sym e) b)
same_tokens (token {kind = k} {bytes = bytes} {text = text} {rest = rest} b v r) (token {kind = j} {bytes = bytes'} {text = other} {rest = others} c w s) a e =
    let same = same_begin k j bytes bytes' text other rest others e b c in
    let tails = same_tokens r s (λ i. a i + length (same.texts i)) same.rests in
    λ i. record { kind = same.kinds i; start = a i; end = a i + length (same.texts i) } ∷ tails i

-- bytes that have tokens have no fault
pub tokens_or_fault : {at at' : ℕ} {bytes bytes' : List ℕ} {ts : List Token} {f : LexFault} → AreTokens at bytes ts → IsFaultyAt at' bytes' f → bytes ≡ bytes' → ⊥
tokens_or_fault nothing (bad_byte q n) e = cc
tokens_or_fault nothing (big_number {bytes = bytes'} big) e = no_begin (tok.Number big.number) bytes' big.text big.rest e big.begins
tokens_or_fault nothing (after_blank q f) e = cc
tokens_or_fault nothing (after_token {kind = j} {bytes = bytes'} {text = other} {rest = others} c w f) e = no_begin j bytes' other others e c
tokens_or_fault (blank {b = x} p b) (bad_byte {b = y} q n) e = let heads : x ≡ y = cc in both_ways (is_blank y) q (ap is_blank (sym heads) ∙ p)
tokens_or_fault (blank {b = x} {bytes = bs} p b) (big_number {bytes = bytes'} big) e = no_blank_begin (tok.Number big.number) x bs bytes' big.text big.rest p e big.begins
tokens_or_fault (blank {bytes = bs} p b) (after_blank {bytes = cs} q f) e = let tails : bs ≡ cs = cc in tokens_or_fault b f tails
tokens_or_fault (blank {b = x} {bytes = bs} p b) (after_token {kind = j} {bytes = bytes'} {text = other} {rest = others} c w f) e = no_blank_begin j x bs bytes' other others p e c
tokens_or_fault (token {kind = k} {text = text} {rest = rest} b v r) (bad_byte q n) e = n text rest (sym e ∙ b.whole) (k, b.is_text)
tokens_or_fault (token {kind = k} {bytes = bytes} {text = text} {rest = rest} b v r) (big_number {bytes = bytes'} big) e = no_big k bytes bytes' text rest e b v big
tokens_or_fault (token {kind = k} {bytes = bytes} {text = text} {rest = rest} b v r) (after_blank {b = y} {bytes = cs} q f) e = no_blank_begin k y cs bytes text rest q (sym e) b
tokens_or_fault (token {kind = k} {bytes = bytes} {text = text} {rest = rest} b v r) (after_token {kind = j} {bytes = bytes'} {text = other} {rest = others} c w f) e =
    tokens_or_fault r f (same_begin k j bytes bytes' text other rest others e b c).rests

-- and those that have a fault have no other
pub same_fault : {at at' : ℕ} {bytes bytes' : List ℕ} {f g : LexFault} → IsFaultyAt at bytes f → IsFaultyAt at' bytes' g → at ≡ at' → bytes ≡ bytes' → f ≡ g
same_fault (bad_byte p m) (bad_byte q n) a e = ap fault.BadByte a
same_fault (bad_byte p m) (big_number big) a e = absurd (m big.text big.rest (e ∙ big.begins.whole) (tok.Number big.number, big.begins.is_text))
same_fault (bad_byte {b = x} p m) (after_blank {b = y} q g) a e = let heads : x ≡ y = cc in absurd (both_ways (is_blank x) p (ap is_blank heads ∙ q))
same_fault (bad_byte p m) (after_token {kind = j} {text = other} {rest = others} c w g) a e = absurd (m other others (e ∙ c.whole) (j, c.is_text))
same_fault (big_number big) (bad_byte q n) a e = absurd (n big.text big.rest (sym e ∙ big.begins.whole) (tok.Number big.number, big.begins.is_text))
same_fault (big_number big) (big_number other) a e = ap fault.BigNumber a
same_fault (big_number {bytes = bytes} big) (after_blank {b = y} {bytes = cs} q g) a e = absurd (no_blank_begin (tok.Number big.number) y cs bytes big.text big.rest q (sym e) big.begins)
same_fault (big_number {bytes = bytes} big) (after_token {kind = j} {bytes = bytes'} {text = other} {rest = others} c w g) a e = absurd (no_big j bytes' bytes other others (sym e) c w big)
same_fault (after_blank {b = x} p f) (bad_byte {b = y} q n) a e = let heads : x ≡ y = cc in absurd (both_ways (is_blank y) q (ap is_blank (sym heads) ∙ p))
same_fault (after_blank {b = x} {bytes = bs} p f) (big_number {bytes = bytes'} big) a e = absurd (no_blank_begin (tok.Number big.number) x bs bytes' big.text big.rest p e big.begins)
same_fault (after_blank {bytes = bs} p f) (after_blank {bytes = cs} q g) a e = let tails : bs ≡ cs = cc in same_fault f g (ap (λ n. n + 1) a) tails
same_fault (after_blank {b = x} {bytes = bs} p f) (after_token {kind = j} {bytes = bytes'} {text = other} {rest = others} c w g) a e = absurd (no_blank_begin j x bs bytes' other others p e c)
same_fault (after_token {kind = k} {text = text} {rest = rest} b v f) (bad_byte q n) a e = absurd (n text rest (sym e ∙ b.whole) (k, b.is_text))
same_fault (after_token {kind = k} {bytes = bytes} {text = text} {rest = rest} b v f) (big_number {bytes = bytes'} big) a e = absurd (no_big k bytes bytes' text rest e b v big)
same_fault (after_token {kind = k} {bytes = bytes} {text = text} {rest = rest} b v f) (after_blank {b = y} {bytes = cs} q g) a e = absurd (no_blank_begin k y cs bytes text rest q (sym e) b)
same_fault (after_token {kind = k} {bytes = bytes} {text = text} {rest = rest} b v f) (after_token {kind = j} {bytes = bytes'} {text = other} {rest = others} c w g) a e =
    let same = same_begin k j bytes bytes' text other rest others e b c in
    same_fault f g (λ i. a i + length (same.texts i)) same.rests
