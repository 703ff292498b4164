-- What is spelled as a line is read back.
use Rattle.std.proofs.Common.{◌≡◌, ℕ, ◌<◌, Bool, true, false, ◌==◌, List, [], ◌∷◌, ◌++◌, length, Option, Some, None, Ok}
use Rattle.std.proofs.Common.{ℤ, pos, negsuc, FitsSigned, refl, sym, ap, ◌∙◌, arith, inl, inr}
use Rattle.std.specs.Prelude.{IfSome}
use Rattle.std.specs.Fmt.{signed_decimal}
use Rattle.std.specs.Int.{w64}
use Rattle.std.specs.List.{list_all, list_any}
use Rattle.std.proofs.lemmas.Bool.{and_parts, cases_Bool, eqb-true, false≢true}
use Rattle.std.proofs.lemmas.Fmt.{decimal_nonempty}
use Rattle.tilt_base.specs.Number.{cell_spelled, number_spelled}
use Rattle.tilt_base.proofs.Decimals.{number_spelled-signed_decimal}
use Rattle.tilt_feed.specs.declared.update.Update.{Update}
use Rattle.tilt_feed.specs.declared.update.Update.TheVariants as update
use Rattle.tilt_feed_line.specs.Lines.{all_known_said, form_said, input_named, known_said, line_said, no_value_said, row_said, value_said}
use Rattle.tilt_feed_line.specs.Plain.{is_plain, is_special, words}
use Rattle.tilt_feed_line.specs.Texts.{FitsUpdate, fields_text, update_text}
use Rattle.tilt_feed_line.specs.declared.line.Line.TheVariants as line
use Rattle.tilt_feed_line.proofs.PlainLines.{plain_bytes}
use Rattle.tilt_feed_line.proofs.Words.{cut_word, lone_word}
use Rattle.tilt_lexer.specs.Word.{IsWord, begins_word, goes_on_word}
use Rattle.tilt_stream.specs.Text.{cell_text}
use Rattle.tilt_text.proofs.Lacks.{Lacks, all_lack, lacks-append, lacks-more, lacks-parts, signed_lacks}

-- a byte that passes a test which the mark fails is another
pub other_byte : (mark : ℕ) (test : ℕ → Bool) (b : ℕ) → test mark ≡ false → test b ≡ true → (b == mark) ≡ false
other_byte mark test b fails passes =
    elim (cases_Bool (b == mark)) [
      | inl same ↦ absurd (false≢true (sym fails ∙ ap test (sym (eqb-true b mark same)) ∙ passes))
      | inr other ↦ other
    ]

-- a field that needs no quotes
pub record IsClean (field : List ℕ) : Type 0 where
  pub quote : Lacks 34 field
  pub comma : Lacks 44 field
  pub feed : Lacks 10 field
  pub return : Lacks 13 field

pub nothing_clean : IsClean []
nothing_clean = record { quote = refl; comma = refl; feed = refl; return = refl }

decimal_clean : (z : ℤ) → FitsSigned w64 z → IsClean (signed_decimal z)
decimal_clean z fits = record {
  quote = signed_lacks 34 (omega arith) z fits;
  comma = signed_lacks 44 (omega arith) z fits;
  feed = signed_lacks 10 (omega arith) z fits;
  return = signed_lacks 13 (omega arith) z fits;
}

cell_clean : (value : Option ℤ) → IfSome value (FitsSigned w64) → IsClean (cell_text value)
cell_clean None fits = nothing_clean
cell_clean (Some z) fits = decimal_clean z fits

word_lacks : (mark : ℕ) → begins_word mark ≡ false → goes_on_word mark ≡ false → (name : List ℕ) → IsWord name → Lacks mark name
word_lacks mark begins goes [] word = cc
word_lacks mark begins goes (c ∷ cs) word =
    let parts = and_parts (begins_word c) (list_all goes_on_word cs) word in
    lacks-more mark c cs (other_byte mark begins_word c begins parts.0) (all_lack mark goes_on_word goes cs parts.1)

pub word_clean : (name : List ℕ) → IsWord name → IsClean name
word_clean name word = record {
  quote = word_lacks 34 refl refl name word;
  comma = word_lacks 44 refl refl name word;
  feed = word_lacks 10 refl refl name word;
  return = word_lacks 13 refl refl name word;
}

-- its first byte, if it has one, isn't that of a byte order mark
abbrev pub NoMark : List ℕ → Type 0
NoMark [] = Unit {0}
NoMark (c ∷ cs) = (c == 0xEF) ≡ false

pub word_no_mark : (name : List ℕ) → IsWord name → NoMark name
word_no_mark [] word = tt
word_no_mark (c ∷ cs) word = other_byte 0xEF begins_word c refl (and_parts (begins_word c) (list_all goes_on_word cs) word).0

-- bytes without quotes, LF and CR
none_special : (bytes : List ℕ) → Lacks 34 bytes → Lacks 10 bytes → Lacks 13 bytes → list_any is_special bytes ≡ false
none_special [] quote feed return = refl
none_special (c ∷ cs) quote feed return =
    let q = lacks-parts 34 c cs quote in
    let f = lacks-parts 10 c cs feed in
    let r = lacks-parts 13 c cs return in
    rw (q.0, f.0, r.0) (none_special cs q.1 f.1 r.1)

-- a mark other than a comma is in none of the fields
fields_lack : (mark : ℕ) → (44 == mark) ≡ false → (name start end value : List ℕ)
    → Lacks mark name → Lacks mark start → Lacks mark end → Lacks mark value → Lacks mark (fields_text name start end value)
fields_lack mark other name start end value n s e v =
    lacks-append mark name _ n (lacks-more mark 44 _ other
    (lacks-append mark start _ s (lacks-more mark 44 _ other (lacks-append mark end _ e (lacks-more mark 44 value other v)))))

fields_plain : (name rest : List ℕ) → NoMark name → list_any is_special (name ++ 44 ∷ rest) ≡ false → is_plain (name ++ 44 ∷ rest) ≡ true
fields_plain [] rest other plain = rw plain refl
fields_plain (c ∷ cs) rest other plain = rw (other, plain) refl

-- clean fields with commas need no quotes
pub clean_plain : (name start end value : List ℕ) → IsClean name → IsClean start → IsClean end → IsClean value → NoMark name
    → is_plain (fields_text name start end value) ≡ true
clean_plain name start end value n s e v other =
    let quotes = fields_lack 34 refl name start end value n.quote s.quote e.quote v.quote in
    let feeds = fields_lack 10 refl name start end value n.feed s.feed e.feed v.feed in
    let returns = fields_lack 13 refl name start end value n.return s.return e.return v.return in
    let none = none_special (fields_text name start end value) quotes feeds returns in
    fields_plain name (start ++ 44 ∷ (end ++ 44 ∷ value)) other none

-- and their words are these fields
pub clean_words : (name start end value : List ℕ) → IsClean name → IsClean start → IsClean end → IsClean value
    → words (fields_text name start end value) ≡ name ∷ start ∷ end ∷ value ∷ []
clean_words name start end value n s e v =
    rw (
      cut_word name (start ++ 44 ∷ (end ++ 44 ∷ value)) n.comma,
      cut_word start (end ++ 44 ∷ value) s.comma,
      cut_word end value e.comma,
      lone_word value v.comma,
    ) refl

-- so they are read as these fields
said_fields : (inputs : List (List ℕ)) (name start end value : List ℕ)
    → IsClean name → IsClean start → IsClean end → IsClean value → NoMark name
    → line_said inputs (fields_text name start end value) ≡ form_said inputs name start end value
said_fields inputs name start end value n s e v other =
    let plain = clean_plain name start end value n s e v other in
    rw (plain_bytes (fields_text name start end value) plain, clean_words name start end value n s e v) refl

-- a word and a shortest decimal aren't empty
pub word_some : (name : List ℕ) → IsWord name → 0 < length name
word_some [] word = cc word
word_some (c ∷ cs) word = omega arith

decimal_some : (z : ℤ) → FitsSigned w64 z → 0 < length (signed_decimal z)
decimal_some (pos n) fits = decimal_nonempty n (omega (arith, fits.sfits))
decimal_some (negsuc n) fits = omega arith

-- the forms of what isn't empty
pub row_form : (inputs : List (List ℕ)) (name start end value : List ℕ) → 0 < length name → 0 < length start → 0 < length end
    → form_said inputs name start end value ≡ row_said inputs name start end value
row_form inputs [] start end value n s e = absurd (omega arith)
row_form inputs (c ∷ cs) [] end value n s e = absurd (omega arith)
row_form inputs (c ∷ cs) (d ∷ ds) [] value n s e = absurd (omega arith)
row_form inputs (c ∷ cs) (d ∷ ds) (f ∷ fs) value n s e = refl

pub value_form : (inputs : List (List ℕ)) (name start value : List ℕ) → 0 < length name → 0 < length start → 0 < length value
    → form_said inputs name start [] value ≡ value_said inputs name start value
value_form inputs [] start value n s v = absurd (omega arith)
value_form inputs (c ∷ cs) [] value n s v = absurd (omega arith)
value_form inputs (c ∷ cs) (d ∷ ds) [] n s v = absurd (omega arith)
value_form inputs (c ∷ cs) (d ∷ ds) (f ∷ fs) n s v = refl

pub no_value_form : (inputs : List (List ℕ)) (name start : List ℕ) → 0 < length name → 0 < length start
    → form_said inputs name start [] [] ≡ no_value_said inputs name start
no_value_form inputs [] start n s = absurd (omega arith)
no_value_form inputs (c ∷ cs) [] n s = absurd (omega arith)
no_value_form inputs (c ∷ cs) (d ∷ ds) n s = refl

pub known_form : (inputs : List (List ℕ)) (name end : List ℕ) → 0 < length name → 0 < length end
    → form_said inputs name [] end [] ≡ known_said inputs name end
known_form inputs [] end n e = absurd (omega arith)
known_form inputs (c ∷ cs) [] n e = absurd (omega arith)
known_form inputs (c ∷ cs) (d ∷ ds) n e = refl

all_known_form : (inputs : List (List ℕ)) (end : List ℕ) → 0 < length end → form_said inputs [] [] end [] ≡ all_known_said end
all_known_form inputs [] e = absurd (omega arith)
all_known_form inputs (d ∷ ds) e = refl

-- a value is read back, too
number_cell : (bytes : List ℕ) (z : ℤ) → 0 < length bytes → number_spelled bytes ≡ Some z → cell_spelled bytes ≡ Some (Some z)
number_cell [] z some spelled = absurd (omega arith)
number_cell (c ∷ cs) z some spelled = rw spelled refl

cell_spelled-cell_text : (value : Option ℤ) → IfSome value (FitsSigned w64) → cell_spelled (cell_text value) ≡ Some value
cell_spelled-cell_text None fits = refl
cell_spelled-cell_text (Some z) fits = number_cell (signed_decimal z) z (decimal_some z fits) (number_spelled-signed_decimal z fits)

-- each update has a line
pub update_read : (inputs : List (List ℕ)) (name : List ℕ) (input : ℕ) (said : Update) → IsWord name → input_named inputs name ≡ Ok input
    → FitsUpdate said → line_said inputs (update_text name said) ≡ Ok (line.Update input said)
update_read inputs name input (update.Row start end value) word named fits =
    let read = said_fields inputs name (signed_decimal start) (signed_decimal end) (cell_text value) (word_clean name word)
    (decimal_clean start fits.0) (decimal_clean end fits.1) (cell_clean value fits.2) (word_no_mark name word) in
    let form = row_form inputs name (signed_decimal start) (signed_decimal end) (cell_text value) (word_some name word)
    (decimal_some start fits.0) (decimal_some end fits.1) in
    read ∙ form
    ∙ rw (
      named,
      number_spelled-signed_decimal start fits.0,
      number_spelled-signed_decimal end fits.1,
      cell_spelled-cell_text value fits.2,
    ) refl
update_read inputs name input (update.Value start value) word named fits =
    let read = said_fields inputs name (signed_decimal start) [] (signed_decimal value) (word_clean name word)
    (decimal_clean start fits.0) nothing_clean (decimal_clean value fits.1) (word_no_mark name word) in
    let form = value_form inputs name (signed_decimal start) (signed_decimal value) (word_some name word)
    (decimal_some start fits.0) (decimal_some value fits.1) in
    read ∙ form ∙ rw (named, number_spelled-signed_decimal start fits.0, number_spelled-signed_decimal value fits.1) refl
update_read inputs name input (update.NoValue start) word named fits =
    let read = said_fields inputs name (signed_decimal start) [] [] (word_clean name word)
    (decimal_clean start fits) nothing_clean nothing_clean (word_no_mark name word) in
    read ∙ no_value_form inputs name (signed_decimal start) (word_some name word) (decimal_some start fits)
    ∙ rw (named, number_spelled-signed_decimal start fits) refl
update_read inputs name input (update.KnownUpTo watermark) word named fits =
    let read = said_fields inputs name [] (signed_decimal watermark) [] (word_clean name word)
    nothing_clean (decimal_clean watermark fits) nothing_clean (word_no_mark name word) in
    read ∙ known_form inputs name (signed_decimal watermark) (word_some name word) (decimal_some watermark fits)
    ∙ rw (named, number_spelled-signed_decimal watermark fits) refl

-- and so have the watermark of all inputs and the end
pub all_known_read : (inputs : List (List ℕ)) (watermark : ℤ) → FitsSigned w64 watermark
    → line_said inputs (fields_text [] [] (signed_decimal watermark) []) ≡ Ok (line.AllKnownUpTo watermark)
all_known_read inputs watermark fits =
    said_fields inputs [] [] (signed_decimal watermark) [] nothing_clean nothing_clean (decimal_clean watermark fits) nothing_clean tt
    ∙ all_known_form inputs (signed_decimal watermark) (decimal_some watermark fits)
    ∙ rw (number_spelled-signed_decimal watermark fits) refl

pub finish_read : (inputs : List (List ℕ)) → line_said inputs (fields_text [] [] [] []) ≡ Ok line.Finish
finish_read inputs = said_fields inputs [] [] [] [] nothing_clean nothing_clean nothing_clean nothing_clean tt
