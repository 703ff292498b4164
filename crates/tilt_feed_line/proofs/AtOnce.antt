-- What is read in one pass is what the definitions say.
use Rattle.std.proofs.Common.{◌≡◌, ℕ, zero, suc, ◌+◌, ◌-◌, ◌*◌, ◌<◌, ◌≤◌, add-one, Bool, true, false, if◌then◌else◌, ◌==◌, List, [], ◌∷◌, ◌++◌, length, take, drop, get_or}
use Rattle.std.proofs.Common.{Option, Some, None, option_map, Result, Ok, ℤ, pos, refl, sym, ap, subst, ◌∙◌, arith}
use Rattle.std.specs.Prelude.{◌^◌, IfSome, neg_ℤ}
use Rattle.std.specs.Char.{is_ascii_digit}
use Rattle.std.specs.List.{position}
use Rattle.std.specs.Option.{ok_or}
use Rattle.std.specs.Str.{all_ascii_digits, bytes_eq}
use Rattle.std.specs.Str.Parse.{digits_value}
use Rattle.std.proofs.lemmas.Bool.{and_parts, eqb-true}
use Rattle.std.proofs.lemmas.Bool.Decides.{nat_tests}
use Rattle.std.proofs.lemmas.List.{take_rest}
use Rattle.std.proofs.lemmas.List.Quantifiers.{position-Some}
use Rattle.std.proofs.lemmas.Slice.Eq.{bytes_eq-Decides}
use Rattle.std.proofs.lemmas.Option.{cond_some, option_and_then_some, same_Some}
use Rattle.tilt_base.specs.Number.{cell_spelled, integer_spelled, natural_spelled, number_spelled, within_64_bits}
use Rattle.tilt_base.proofs.Spelling.{natural_spelled_digits}
use Rattle.tilt_feed.specs.declared.update.Update.{Update}
use Rattle.tilt_feed.specs.declared.update.Update.TheVariants as update
use Rattle.tilt_feed_line.specs.Lines.{fields_said, form_said, input_named, keyed_fields_said, keyed_line_said, line_said}
use Rattle.tilt_feed_line.specs.Plain.{is_plain, without_return, words}
use Rattle.tilt_feed_line.specs.Quick.{CellBefore, DigitsBefore, PlainlySays, update_said}
use Rattle.tilt_feed_line.specs.Texts.{fields_text}
use Rattle.tilt_feed_line.specs.declared.fault.LineFault.{LineFault}
use Rattle.tilt_feed_line.specs.declared.fault.LineFault.TheVariants.{UnknownInput}
use Rattle.tilt_feed_line.specs.declared.line.KeyedLine.TheVariants as keyed
use Rattle.tilt_feed_line.specs.declared.line.Line.{Line}
use Rattle.tilt_feed_line.specs.declared.line.Line.TheVariants as line
use Rattle.tilt_feed_line.proofs.Keyed.{fields_keyed, special_append}
use Rattle.tilt_feed_line.proofs.PlainLines.{plain_line, plain_tests}
use Rattle.tilt_feed_line.proofs.Spelled.{IsClean, clean_plain, clean_words, known_form, no_value_form, nothing_clean, other_byte, row_form}
use Rattle.tilt_feed_line.proofs.Spelled.{value_form, word_clean, word_no_mark, word_some}
use Rattle.tilt_feed_line.proofs.Words.{first_word}
use Rattle.tilt_lexer.specs.Word.{IsWord}
use Rattle.tilt_text.specs.Cut.{until_at}
use Rattle.tilt_text.proofs.Lacks.{Lacks, lacks-more}
use Rattle.tilt_text.proofs.Words.{front-until}

-- one digit more
pub digits_more : (bytes : List ℕ) (at : ℕ) → at < length bytes → is_ascii_digit (get_or bytes at 0) ≡ true
    → all_ascii_digits (take at bytes) ≡ true → all_ascii_digits (take (suc at) bytes) ≡ true
digits_more [] at h here before = absurd (omega arith)
digits_more (b ∷ bs) zero h here before = rw here refl
digits_more (b ∷ bs) (suc at) h here before =
    let parts = and_parts (is_ascii_digit b) (all_ascii_digits (take at bs)) before in
    rw (parts.0, digits_more bs at (omega arith) here parts.1) refl

pub digit_fits : (number digit at : ℕ) → number < 10 ^ at → digit < 10 → number * 10 + digit < 10 ^ (at + 1)
digit_fits number digit at small less = rw add-one (omega arith)

-- the comma after digits
comma_there : (bytes : List ℕ) (at : ℕ) → at < length bytes → get_or bytes at 0 ≡ 44 → bytes ≡ take at bytes ++ 44 ∷ drop (suc at) bytes
comma_there [] at h here = absurd (omega arith)
comma_there (b ∷ bs) zero h here = ap (λ (k : ℕ). k ∷ bs) here
comma_there (b ∷ bs) (suc at) h here = ap (λ (r : List ℕ). b ∷ r) (comma_there bs at (omega arith) here)

some_taken : (bytes : List ℕ) (at : ℕ) → 0 < at → at < length bytes → 0 < length (take at bytes)
some_taken [] at some h = absurd (omega arith)
some_taken (b ∷ bs) zero some h = absurd (omega arith)
some_taken (b ∷ bs) (suc at) some h = omega arith

pub digits_found : (bytes rest : List ℕ) (at number : ℕ) → 0 < at → at < length bytes → get_or bytes at 0 ≡ 44
    → all_ascii_digits (take at bytes) ≡ true → digits_value 10 (take at bytes) ≡ number → rest ≡ drop (suc at) bytes
    → DigitsBefore bytes number rest
digits_found bytes rest at number some h comma digits value is =
    let spelled : natural_spelled (take at bytes) ≡ Some number =
    natural_spelled_digits (take at bytes) digits (some_taken bytes at some h) ∙ ap Some value in
    (take at bytes, rw is (comma_there bytes at h comma), spelled)

same_Ok : (x y : ℕ) → ◌≡◌ {A = Result ℕ LineFault} (Ok x) (Ok y) → x ≡ y
same_Ok x y e = cc e

-- the input that has a name
pub named_input : (inputs : List (List ℕ)) (name : List ℕ) (input : ℕ) (other : List ℕ) → input_named inputs name ≡ Ok input
    → get_or inputs input other ≡ name
named_input inputs name input other is =
    by (position (bytes_eq name) inputs) (λ at found. (position-Some (bytes_eq name) inputs at other found).1) is
  where
    by : (found : Option ℕ) → ((at : ℕ) → found ≡ Some at → bytes_eq name (get_or inputs at other) ≡ true)
        → ok_or found UnknownInput ≡ Ok input → get_or inputs input other ≡ name
    by (Some at) same is =
        let here = subst (λ (k : ℕ). bytes_eq name (get_or inputs k other) ≡ true) (same_Ok at input is) (same at refl) in
        sym ((bytes_eq-Decides name (get_or inputs input other)).0 here)
    by None same is = cc is

-- a number after a minus
minus_within : (n : ℕ) → n < 2 ^ 63 → within_64_bits (neg_ℤ (pos n)) ≡ Some (neg_ℤ (pos n))
minus_within zero small = refl
minus_within (suc n) small = grind (arith, nat_tests)

pub minus_before : (digits rest : List ℕ) (n : ℕ) → n < 2 ^ 63 → DigitsBefore digits n rest
    → CellBefore (45 ∷ digits) (Some (neg_ℤ (pos n))) rest
minus_before digits rest n small found =
    (45 ∷ found.0, ap (λ (r : List ℕ). 45 ∷ r) found.1, rw (found.2, minus_within n small) refl)

pub minus_here : (bytes rest : List ℕ) (n : ℕ) → 1 ≤ length bytes → get_or bytes 0 0 ≡ 45 → n < 2 ^ 63
    → DigitsBefore (take (length bytes - 1) (drop 1 bytes)) n rest → CellBefore bytes (Some (neg_ℤ (pos n))) rest
minus_here [] rest n h sign small found = absurd (omega arith)
minus_here (b ∷ bs) rest n h sign small found =
    let after : DigitsBefore bs n rest = rw (take_rest (b ∷ bs) 1) at found in
    subst (λ (k : ℕ). CellBefore (k ∷ bs) (Some (neg_ℤ (pos n))) rest) (sym sign) (minus_before bs rest n small after)

-- digits are no marks
digits_lack : (mark : ℕ) → is_ascii_digit mark ≡ false → (ds : List ℕ) → all_ascii_digits ds ≡ true → Lacks mark ds
digits_lack mark fails [] all = refl
digits_lack mark fails (d ∷ ds) all =
    let parts = and_parts (is_ascii_digit d) (all_ascii_digits ds) all in
    lacks-more mark d ds (other_byte mark is_ascii_digit d fails parts.0) (digits_lack mark fails ds parts.1)

natural_digits : (ds : List ℕ) (n : ℕ) → natural_spelled ds ≡ Some n → all_ascii_digits ds ≡ true
natural_digits [] n e = cc
natural_digits (d ∷ ds) n e = (cond_some (all_ascii_digits (d ∷ ds)) (digits_value 10 (d ∷ ds)) n e).0

natural_clean : (ds : List ℕ) (n : ℕ) → natural_spelled ds ≡ Some n → IsClean ds
natural_clean ds n e =
    let all = natural_digits ds n e in
    record {
      quote = digits_lack 34 refl ds all;
      comma = digits_lack 44 refl ds all;
      feed = digits_lack 10 refl ds all;
      return = digits_lack 13 refl ds all;
    }

-- a sign isn't a mark either
sign_clean : (sign : ℕ) (ds : List ℕ) → (sign == 34) ≡ false → (sign == 44) ≡ false → (sign == 10) ≡ false → (sign == 13) ≡ false
    → IsClean ds → IsClean (sign ∷ ds)
sign_clean sign ds quote comma feed return clean = record {
  quote = lacks-more 34 sign ds quote clean.quote;
  comma = lacks-more 44 sign ds comma clean.comma;
  feed = lacks-more 10 sign ds feed clean.feed;
  return = lacks-more 13 sign ds return clean.return;
}

some_natural : (f : ℕ → ℤ) (found : Option ℕ) (y : ℤ) → option_map f found ≡ Some y → (n : ℕ) × (found ≡ Some n)
some_natural f None y e = cc e
some_natural f (Some n) y e = (n, refl)

integer_clean : (bytes : List ℕ) (y : ℤ) → integer_spelled bytes ≡ Some y → IsClean bytes
integer_clean [] y e = cc e
integer_clean (c ∷ cs) y e = by (c == 45) (c == 43) refl refl e
  where
    by : (minus plus : Bool) → (c == 45) ≡ minus → (c == 43) ≡ plus
        → (if minus then option_map (λ n. neg_ℤ (pos n)) (natural_spelled cs)
        else option_map pos (natural_spelled (if plus then cs else c ∷ cs))) ≡ Some y → IsClean (c ∷ cs)
    by true plus minus_is plus_is e =
        let found = some_natural (λ n. neg_ℤ (pos n)) (natural_spelled cs) y e in
        subst (λ k. IsClean (k ∷ cs)) (sym (eqb-true c 45 minus_is))
        (sign_clean 45 cs refl refl refl refl (natural_clean cs found.0 found.1))
    by false true minus_is plus_is e =
        let found = some_natural pos (natural_spelled cs) y e in
        subst (λ k. IsClean (k ∷ cs)) (sym (eqb-true c 43 plus_is))
        (sign_clean 43 cs refl refl refl refl (natural_clean cs found.0 found.1))
    by false false minus_is plus_is e =
        let found = some_natural pos (natural_spelled (c ∷ cs)) y e in
        natural_clean (c ∷ cs) found.0 found.1

number_clean : (bytes : List ℕ) (z : ℤ) → number_spelled bytes ≡ Some z → IsClean bytes
number_clean bytes z e = option_and_then_some within_64_bits (integer_spelled bytes) z e (λ y found _. integer_clean bytes y found)

-- cells, with and without a number
some_number : (found : Option ℤ) (cell : Option ℤ) → option_map Some found ≡ Some cell → (z : ℤ) × (found ≡ Some z) × (cell ≡ Some z)
some_number None cell e = cc e
some_number (Some z) cell e = (z, refl, sym (same_Some (Some z) cell e))

spelled_clean : (bytes : List ℕ) (cell : Option ℤ) → cell_spelled bytes ≡ Some cell → IsClean bytes
spelled_clean [] cell e = nothing_clean
spelled_clean (c ∷ cs) cell e =
    let found = some_number (number_spelled (c ∷ cs)) cell e in
    number_clean (c ∷ cs) found.0 found.1

null_cell : (bytes : List ℕ) → cell_spelled bytes ≡ Some None → bytes ≡ []
null_cell [] e = refl
null_cell (c ∷ cs) e =
    let found = some_number (number_spelled (c ∷ cs)) None e in
    cc found.2

number_cell : (bytes : List ℕ) (z : ℤ) → cell_spelled bytes ≡ Some (Some z) → (0 < length bytes) × (number_spelled bytes ≡ Some z)
number_cell [] z e = cc e
number_cell (c ∷ cs) z e =
    let found = some_number (number_spelled (c ∷ cs)) (Some z) e in
    (omega arith, found.1 ∙ sym found.2)

-- what is said by an input's name and three cells
cells_said : (inputs : List (List ℕ)) (name s e v : List ℕ) (input : ℕ) (start end value : Option ℤ) (said : Update)
    → IsWord name → input_named inputs name ≡ Ok input → cell_spelled s ≡ Some start → cell_spelled e ≡ Some end
    → cell_spelled v ≡ Some value → update_said start end value ≡ Some said
    → form_said inputs name s e v ≡ Ok (line.Update input said)
cells_said inputs name s e v input (Some a) (Some b) value said word named hs he hv is =
    let first = number_cell s a hs in
    let second = number_cell e b he in
    row_form inputs name s e v (word_some name word) first.0 second.0
    ∙ rw (named, first.1, second.1, hv) (ap (λ (u : Update). Ok (line.Update input u)) (same_Some (update.Row a b value) said is))
cells_said inputs name s e v input (Some a) None (Some z) said word named hs he hv is =
    let first = number_cell s a hs in
    let last = number_cell v z hv in
    rw (null_cell e he) (value_form inputs name s v (word_some name word) first.0 last.0
    ∙ rw (named, first.1, last.1) (ap (λ (u : Update). Ok (line.Update input u)) (same_Some (update.Value a z) said is)))
cells_said inputs name s e v input (Some a) None None said word named hs he hv is =
    let first = number_cell s a hs in
    rw (null_cell e he, null_cell v hv) (no_value_form inputs name s (word_some name word) first.0
    ∙ rw (named, first.1) (ap (λ (u : Update). Ok (line.Update input u)) (same_Some (update.NoValue a) said is)))
cells_said inputs name s e v input None (Some b) None said word named hs he hv is =
    let second = number_cell e b he in
    rw (null_cell s hs, null_cell v hv) (known_form inputs name e (word_some name word) second.0
    ∙ rw (named, second.1) (ap (λ (u : Update). Ok (line.Update input u)) (same_Some (update.KnownUpTo b) said is)))
cells_said inputs name s e v input None (Some b) (Some z) said word named hs he hv is = cc is
cells_said inputs name s e v input None None value said word named hs he hv is = cc is

-- and by the bytes in which they are
pub update_read_at_once : (inputs : List (List ℕ)) (bytes name rest after last : List ℕ) (input : ℕ) (start end value : Option ℤ) (said : Update)
    → until_at 44 bytes ≡ Some (name, rest) → IsWord name → input_named inputs name ≡ Ok input → CellBefore rest start after
    → CellBefore after end last → cell_spelled last ≡ Some value → update_said start end value ≡ Some said
    → PlainlySays inputs bytes (line.Update input said)
update_read_at_once inputs bytes name rest after last input start end value said cut word named first second third is =
    let s = first.0 in
    let e = second.0 in
    let whole : bytes ≡ fields_text name s e last =
    front-until 44 bytes name rest cut ∙ ap (λ (r : List ℕ). name ++ 44 ∷ r) (first.1 ∙ ap (λ (r : List ℕ). s ++ 44 ∷ r) second.1) in
    let n_clean = word_clean name word in
    let s_clean = spelled_clean s start first.2 in
    let e_clean = spelled_clean e end second.2 in
    let v_clean = spelled_clean last value third in
    let plain = clean_plain name s e last n_clean s_clean e_clean v_clean (word_no_mark name word) in
    let form = cells_said inputs name s e last input start end value said word named first.2 second.2 third is in
    let read : fields_said inputs (words (fields_text name s e last)) ≡ Ok (line.Update input said) =
    ap (fields_said inputs) (clean_words name s e last n_clean s_clean e_clean v_clean) ∙ form in
    subst (λ (b : List ℕ). PlainlySays inputs b (line.Update input said)) (sym whole) (plain, read)

-- a line says what its bytes without a CR say
line_read_at_once : (inputs : List (List ℕ)) (bytes : List ℕ) (said : Line) → PlainlySays inputs (without_return bytes) said
    → line_said inputs bytes ≡ Ok said
line_read_at_once inputs bytes said says = rw (plain_line bytes says.0) says.1

pub quick_line : (inputs : List (List ℕ)) (bytes : List ℕ) (found : Option Line) → IfSome found (PlainlySays inputs (without_return bytes))
    → IfSome found (λ said. line_said inputs bytes ≡ Ok said)
quick_line inputs bytes None says = tt
quick_line inputs bytes (Some said) says = line_read_at_once inputs bytes said says

-- plain bytes with a comma and more plain bytes are plain
plain_append : (key rest : List ℕ) → is_plain key ≡ true → is_plain rest ≡ true → is_plain (key ++ 44 ∷ rest) ≡ true
plain_append [] rest k r = cc k
plain_append (c ∷ cs) [] k r = cc r
plain_append (c ∷ cs) (b ∷ bs) k r =
    let tests = plain_tests c cs k in
    rw (tests.0, special_append (c ∷ cs) (b ∷ bs) tests.1 (plain_tests b bs r).1) refl

key_read : (inputs : List (List ℕ)) (key : List ℕ) (fields : List (List ℕ)) (said : Line) → is_plain key ≡ true
    → fields_said inputs fields ≡ Ok said → keyed_fields_said inputs (key ∷ fields) ≡ Ok (keyed.OfKey key said)
key_read inputs [] fields said plain e = cc plain
key_read inputs (c ∷ cs) fields said plain e = fields_keyed inputs fields c cs said e

-- and so does a line with a key before them
pub keyed_read_at_once : (inputs : List (List ℕ)) (line key rest : List ℕ) (said : Line)
    → until_at 44 (without_return line) ≡ Some (key, rest) → is_plain key ≡ true → PlainlySays inputs rest said
    → keyed_line_said inputs line ≡ Ok (keyed.OfKey key said)
keyed_read_at_once inputs line key rest said cut plain says =
    let part = without_return line in
    let whole : part ≡ key ++ 44 ∷ rest = front-until 44 part key rest cut in
    let all : is_plain part ≡ true = ap is_plain whole ∙ plain_append key rest plain says.0 in
    let cut_words : words part ≡ key ∷ words rest = rw cut at (first_word [] part) in
    rw (plain_line line all, cut_words) (key_read inputs key (words rest) said plain says.1)
