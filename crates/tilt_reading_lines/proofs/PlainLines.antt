-- A line without quotes is read as the fields between its delimiters.
use Rattle.std.proofs.Common.{◌≡◌, ℕ, Bool, true, false, if◌then◌else◌, ◌==◌, List, [], ◌∷◌, ◌++◌, Option, Some, None, refl, ◌∙◌}
use Rattle.std.proofs.Common.{◌⊎◌, inl, inr, sym, ap, map, append_assoc, append-nil}
use Rattle.std.specs.Prelude.{◌||◌, not}
use Rattle.std.specs.List.{list_any}
use Rattle.std.proofs.lemmas.Bool.{and_parts, cases_Bool, eqb-true, not-true, or_parts}
use Rattle.csv.specs.Machine.{Read, after_end, field_after, fields_after, in_field, is_end, next_record, start_field, start_record, step}
use Rattle.csv.specs.Reading.{records, strip_bom}
use Rattle.csv.specs.Records.{trimmed}
use Rattle.csv.specs.declared.parser.Action.{Action}
use Rattle.csv.specs.declared.parser.Action.TheVariants as act
use Rattle.csv.specs.declared.parser.State.{State}
use Rattle.csv.specs.declared.parser.State.TheVariants as st
use Rattle.csv.specs.declared.parser.Terminator.TheVariants as term
use Rattle.tilt_reading_lines.specs.Plain.{is_plain, is_special, without_return, words, words_from}
use Rattle.tilt_reading_lines.specs.Records.{config_of, fields_of_line, only_fields}
use Rattle.tilt_reading_lines.proofs.Only.{one_found}

-- in a field without quotes, before or after its first byte
abbrev inside : Bool → State
inside true = st.StartField
inside false = st.InField

-- what a byte does there, unless it's special
abbrev plain_step : ℕ → ℕ → State × Action
plain_step delimiter c = if c == delimiter then (st.StartField, act.EndField) else (st.InField, act.Copy)

in_field_plain : (delimiter c : ℕ) → is_special c ≡ false → in_field (config_of delimiter) c ≡ plain_step delimiter c
in_field_plain delimiter c e = by (c == delimiter) (c == 34) (c == 10) (c == 13) e
  where
    by : (here quote feed return : Bool) → (quote || feed || return) ≡ false
        → ◌≡◌ {A = State × Action}
        (if here then (st.StartField, act.EndField) else if return || feed then (after_end term.CRLF c, act.EndRecord)
        else (st.InField, act.Copy))
        (if here then (st.StartField, act.EndField) else (st.InField, act.Copy))
    by true quote feed return e = refl
    by false false false false e = refl
    by false true feed return e = cc e
    by false false true return e = cc e
    by false false false true e = cc e

start_field_plain : (delimiter c : ℕ) → is_special c ≡ false → start_field (config_of delimiter) c ≡ plain_step delimiter c
start_field_plain delimiter c plain = by (c == 34) (c == 10) (c == 13) plain
  where
    by : (quote feed return : Bool) → (quote || feed || return) ≡ false
        → (if quote then (st.InQuoted, act.Skip) else in_field (config_of delimiter) c) ≡ plain_step delimiter c
    by true feed return e = cc e
    by false feed return e = in_field_plain delimiter c plain

start_record_plain : (delimiter c : ℕ) → is_special c ≡ false → start_record (config_of delimiter) c ≡ plain_step delimiter c
start_record_plain delimiter c plain = by (c == 34) (c == 10) (c == 13) plain
  where
    by : (quote feed return : Bool) → (quote || feed || return) ≡ false
        → (if return || feed then (st.StartRecord, act.Skip) else start_field (config_of delimiter) c) ≡ plain_step delimiter c
    by true feed return e = cc e
    by false true return e = cc e
    by false false true e = cc e
    by false false false e = start_field_plain delimiter c plain

inside_plain : (delimiter : ℕ) (first : Bool) (c : ℕ) → is_special c ≡ false
    → step (config_of delimiter) (inside first) c ≡ plain_step delimiter c
inside_plain delimiter true c plain = start_field_plain delimiter c plain
inside_plain delimiter false c plain = in_field_plain delimiter c plain

-- a field's first byte reads at the start of a record as at the start of a field
at_start : (delimiter c : ℕ) (bytes : List ℕ) → is_special c ≡ false
    → next_record (config_of delimiter) st.StartRecord [] [] (c ∷ bytes) ≡ next_record (config_of delimiter) st.StartField [] [] (c ∷ bytes)
unfolding next_record
at_start delimiter c bytes plain = rw (start_record_plain delimiter c plain, start_field_plain delimiter c plain) refl

-- what ends a record without a field's further byte: the end of the bytes, or a CR
record Ends (delimiter : ℕ) (end : List ℕ) (after : State) : Type 0 where
  pub ends : (first : Bool) (fields : List (List ℕ)) (field : List ℕ)
      → next_record (config_of delimiter) (inside first) fields field end ≡ Some (fields ++ (field ∷ []), after, [])
  pub last : next_record (config_of delimiter) after [] [] [] ≡ None

ends_at_the_end : (delimiter : ℕ) → Ends delimiter [] st.StartRecord
unfolding next_record
ends_at_the_end delimiter = record { ends = by; last = refl }
  where
    by : (first : Bool) (fields : List (List ℕ)) (field : List ℕ)
        → next_record (config_of delimiter) (inside first) fields field [] ≡ Some (fields ++ (field ∷ []), st.StartRecord, [])
    by true fields field = refl
    by false fields field = refl

-- a CR ends a record unless it's the delimiter
ends_at_return : (delimiter : ℕ) → (13 == delimiter) ≡ false → Ends delimiter (13 ∷ []) st.AfterCr
unfolding next_record
ends_at_return delimiter other = record { ends = by; last = refl }
  where
    by : (first : Bool) (fields : List (List ℕ)) (field : List ℕ)
        → next_record (config_of delimiter) (inside first) fields field (13 ∷ []) ≡ Some (fields ++ (field ∷ []), st.AfterCr, [])
    by true fields field = rw other refl
    by false fields field = rw other refl

-- what is read from a byte on, by the step that it makes
abbrev after_step : ℕ → State × Action → List (List ℕ) → List ℕ → ℕ → List ℕ → Option Read
after_step delimiter made fields field c bytes =
    if is_end made.1 then Some (fields_after made.1 fields field, made.0, bytes)
    else next_record (config_of delimiter) made.0 (fields_after made.1 fields field) (field_after made.1 c field) bytes

-- what is between delimiters is the fields of a record, from within a field on
words_read : (delimiter : ℕ) (end : List ℕ) (after : State) → Ends delimiter end after → (first : Bool) (fields : List (List ℕ))
    (field bytes : List ℕ) → list_any is_special bytes ≡ false
    → next_record (config_of delimiter) (inside first) fields field (bytes ++ end)
    ≡ Some (fields ++ words_from delimiter field bytes, after, [])
unfolding next_record
words_read delimiter end after ends first fields field [] plain = ends.ends first fields field
words_read delimiter end after ends first fields field (c ∷ bytes) plain =
    let parts = or_parts (is_special c) (list_any is_special bytes) plain in
    rw (inside_plain delimiter first c parts.0)
    (by (c == delimiter) (words_read delimiter end after ends true (fields ++ (field ∷ [])) [] bytes parts.1)
    (words_read delimiter end after ends false fields (field ++ (c ∷ [])) bytes parts.1))
  where
    by : (here : Bool)
        → next_record (config_of delimiter) st.StartField (fields ++ (field ∷ [])) [] (bytes ++ end)
        ≡ Some ((fields ++ (field ∷ [])) ++ words_from delimiter [] bytes, after, [])
        → next_record (config_of delimiter) st.InField fields (field ++ (c ∷ [])) (bytes ++ end)
        ≡ Some (fields ++ words_from delimiter (field ++ (c ∷ [])) bytes, after, [])
        → after_step delimiter (if here then (st.StartField, act.EndField) else (st.InField, act.Copy)) fields field c (bytes ++ end)
        ≡ Some (fields ++ (if here then field ∷ words_from delimiter [] bytes else words_from delimiter (field ++ (c ∷ [])) bytes), after, [])
    by true here other = rw append_assoc at here
    by false here other = other

-- a byte order mark isn't at the start of other bytes
no_mark : (c : ℕ) (bytes : List ℕ) → (c == 0xEF) ≡ false → strip_bom (c ∷ bytes) ≡ c ∷ bytes
unfolding strip_bom
no_mark c [] other = refl
no_mark c (d ∷ []) other = refl
no_mark c (d ∷ e ∷ bytes) other = rw other refl

-- the only record of plain bytes is the fields between delimiters
plain_record : (delimiter : ℕ) (end : List ℕ) (after : State) → Ends delimiter end after → (c : ℕ) (bytes : List ℕ) → (c == 0xEF) ≡ false
    → list_any is_special (c ∷ bytes) ≡ false
    → records (config_of delimiter) (strip_bom ((c ∷ bytes) ++ end)) ≡ words delimiter (c ∷ bytes) ∷ []
plain_record delimiter end after ends c bytes other plain =
    let parts = or_parts (is_special c) (list_any is_special bytes) plain in
    let first : next_record (config_of delimiter) st.StartRecord [] [] (c ∷ (bytes ++ end)) ≡ Some (words delimiter (c ∷ bytes), after, []) =
    at_start delimiter c (bytes ++ end) parts.0 ∙ words_read delimiter end after ends true [] [] (c ∷ bytes) plain in
    rw (no_mark c (bytes ++ end) other)
    (one_found delimiter (c ∷ (bytes ++ end)) (words delimiter (c ∷ bytes)) [] false None None (rw (first, ends.last) (refl, refl, refl)) refl)

-- what plain bytes are
plain_tests : (c : ℕ) (bytes : List ℕ) → is_plain (c ∷ bytes) ≡ true → ((c == 0xEF) ≡ false) × (list_any is_special (c ∷ bytes) ≡ false)
plain_tests c bytes plain =
    let tests = and_parts (not (c == 0xEF)) (not (list_any is_special (c ∷ bytes))) plain in
    (not-true (c == 0xEF) tests.0, not-true (list_any is_special (c ∷ bytes)) tests.1)

plain_bytes : (delimiter : ℕ) (bytes : List ℕ) → is_plain bytes ≡ true
    → records (config_of delimiter) (strip_bom bytes) ≡ words delimiter bytes ∷ []
plain_bytes delimiter [] plain = cc plain
plain_bytes delimiter (c ∷ bytes) plain =
    let tests = plain_tests c bytes plain in
    rw append-nil at (plain_record delimiter [] st.StartRecord (ends_at_the_end delimiter) c bytes tests.0 tests.1)

-- and so with a CR after them
returned_bytes : (delimiter : ℕ) (bytes : List ℕ) → (13 == delimiter) ≡ false → is_plain bytes ≡ true
    → records (config_of delimiter) (strip_bom (bytes ++ 13 ∷ [])) ≡ words delimiter bytes ∷ []
returned_bytes delimiter [] other plain = cc plain
returned_bytes delimiter (c ∷ bytes) other plain =
    let tests = plain_tests c bytes plain in
    plain_record delimiter (13 ∷ []) st.AfterCr (ends_at_return delimiter other) c bytes tests.0 tests.1

-- a line is without a CR at its end, or has one there
with_or_without : (line : List ℕ) → (line ≡ without_return line) ⊎ (line ≡ without_return line ++ 13 ∷ [])
with_or_without [] = inl refl
with_or_without (c ∷ []) = by (c == 13) refl
  where
    by : (b : Bool) → (c == 13) ≡ b → (c ∷ [] ≡ (if b then [] else c ∷ [])) ⊎ (c ∷ [] ≡ (if b then [] else c ∷ []) ++ 13 ∷ [])
    by true same = inr (ap (λ (last : ℕ). last ∷ []) (eqb-true c 13 same))
    by false other = inl refl
with_or_without (c ∷ d ∷ bytes) =
    elim (with_or_without (d ∷ bytes)) [
      | inl same ↦ inl (ap (λ (rest : List ℕ). c ∷ rest) same)
      | inr return ↦ inr (ap (λ (rest : List ℕ). c ∷ rest) return)
    ]

-- the only record of a plain line is the fields between delimiters
plain_line : (delimiter : ℕ) (line : List ℕ) → (13 == delimiter) ≡ false → is_plain (without_return line) ≡ true
    → records (config_of delimiter) (strip_bom line) ≡ words delimiter (without_return line) ∷ []
plain_line delimiter line other plain =
    elim (with_or_without line) [
      | inl same ↦
          ap (λ (bytes : List ℕ). records (config_of delimiter) (strip_bom bytes)) same ∙ plain_bytes delimiter (without_return line) plain
      | inr return ↦
          ap (λ (bytes : List ℕ). records (config_of delimiter) (strip_bom bytes)) return
          ∙ returned_bytes delimiter (without_return line) other plain
    ]

-- and so they are its fields
pub plain_fields : (delimiter : ℕ) (line part : List ℕ) → (13 == delimiter) ≡ false → part ≡ without_return line → is_plain part ≡ true
    → fields_of_line delimiter line ≡ Some (map trimmed (words delimiter part))
plain_fields delimiter line part other same plain =
    ap only_fields (plain_line delimiter line other (rw same at plain))
    ∙ ap (λ (bytes : List ℕ). Some (map trimmed (words delimiter bytes))) (sym same)

-- what is left of bytes whose last one is given
without_last : (front : List ℕ) (last : ℕ) → without_return (front ++ last ∷ []) ≡ (if last == 13 then front else front ++ last ∷ [])
without_last [] last = refl
without_last (c ∷ []) last = by (last == 13)
  where
    by : (b : Bool) → ◌≡◌ {A = List ℕ} (c ∷ (if b then [] else last ∷ [])) (if b then c ∷ [] else c ∷ last ∷ [])
    by true = refl
    by false = refl
without_last (c ∷ d ∷ front) last = ap (λ (rest : List ℕ). c ∷ rest) (without_last (d ∷ front) last) ∙ by (last == 13)
  where
    by : (b : Bool) → ◌≡◌ {A = List ℕ} (c ∷ (if b then d ∷ front else d ∷ (front ++ last ∷ [])))
        (if b then c ∷ d ∷ front else c ∷ d ∷ (front ++ last ∷ []))
    by true = refl
    by false = refl

-- a CR there is left out
pub return_last : (bytes front : List ℕ) (last : ℕ) → bytes ≡ front ++ last ∷ [] → last ≡ 13 → front ≡ without_return bytes
return_last bytes front last is return = rw (is, return) (sym (without_last front 13))

-- and nothing else is
pub other_last : (bytes front : List ℕ) (last : ℕ) → bytes ≡ front ++ last ∷ [] → (last ≡ 13 → ⊥) → bytes ≡ without_return bytes
other_last bytes front last is other =
    elim (cases_Bool (last == 13)) [
      | inl same ↦ absurd (other (eqb-true last 13 same))
      | inr differs ↦ rw is (sym (rw differs at (without_last front last)))
    ]
