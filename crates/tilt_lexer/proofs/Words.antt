-- What a word's first byte and its other bytes say.
use Rattle.std.proofs.Common.{◌≡◌, ℕ, ◌<◌, ◌&&◌, List, [], ◌∷◌, length, get_or, drop, refl, arith}
use Rattle.std.specs.List.{list_all}
use Rattle.tilt_lexer.specs.Word.{begins_word, goes_on_word, is_word}

-- whether bytes are a word, by the first and the rest
pub is_word_split : (bs : List ℕ) → 0 < length bs → is_word bs ≡ (begins_word (get_or bs 0 0) && list_all goes_on_word (drop 1 bs))
is_word_split [] some = absurd (omega arith)
is_word_split (b ∷ bs) some = refl
