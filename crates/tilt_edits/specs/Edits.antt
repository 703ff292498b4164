-- The edits that a text says: one in each line (our own rule).
use Rattle.std.specs.Prelude.{◌≡◌, ◌≢◌, ℕ, suc, ℤ, neg_ℤ, pos, ◌==◌, ◌&&◌, ◌||◌, if◌then◌else◌, int_lt, int_le, ⊤, refl}
use Rattle.std.specs.Prelude.{List, [], ◌∷◌, ◌++◌, codes, length, Option, Some, None, option_map}
use Rattle.std.specs.List.{position}
use Rattle.std.specs.Str.{bytes_eq}
use Rattle.tilt_base.specs.Number.{cell_spelled, number_spelled}
use Rattle.tilt_base.specs.declared.limits.TheConstants.{T}
use Rattle.tilt_edits.specs.declared.edit.Edit.{Edit}
use Rattle.tilt_edits.specs.declared.edit.Edit.TheVariants.{Add, Remove, Set}
use Rattle.tilt_stream.specs.Snap.{Snapshot}
use Rattle.tilt_text.specs.Cut.{onto, until_at}
use Rattle.tilt_text.specs.Step.{◌>>=◌}

-- the word up to the first blank, which is a space or a tab, and what follows that blank
abbrev pub until_blank : List ℕ → Option (List ℕ × List ℕ)
until_blank [] = None
until_blank (byte ∷ bytes) = if byte == 32 || byte == 9 then Some ([], bytes) else (until_blank bytes >>= onto byte)

-- the row of these times and this value, if the times are in `-T..T` and in order
abbrev pub row_of : ℤ → ℤ → Option ℤ → Option Snapshot
row_of start end value =
    if int_le (neg_ℤ T) start && int_lt start end && int_le end T then Some (record { start = start; end = end; value = value }) else None

-- `s,e`: the row of these times, which is null
abbrev pub times_of : List ℕ → Option Snapshot
times_of fields = until_at 44 fields >>= λ s. number_spelled s.0 >>= λ start. number_spelled s.1 >>= λ end. row_of start end None

-- `s,e,v`: the row of these times and this value
abbrev pub fields_of : List ℕ → Option Snapshot
fields_of fields =
    until_at 44 fields >>= λ s. until_at 44 s.1 >>= λ e.
    number_spelled s.0 >>= λ start. number_spelled e.0 >>= λ end. cell_spelled e.1 >>= row_of start end

-- the edit of an input, by the word that says which one it is, and the fields of its row
abbrev pub edit_by : List ℕ → ℕ → List ℕ → Option Edit
edit_by word input fields =
    if bytes_eq word (codes "add") then option_map (Add input) (fields_of fields)
    else if bytes_eq word (codes "remove") then option_map (λ row. Remove input row.start row.end) (times_of fields)
    else if bytes_eq word (codes "set") then option_map (Set input) (fields_of fields)
    else None

-- a line without its end: a word, the name of an input and the fields of a row, with one blank between two of them
abbrev pub edit_of : List (List ℕ) → List ℕ → Option Edit
edit_of inputs line =
    until_blank line >>= λ word. until_blank word.1 >>= λ name.
    position (bytes_eq name.0) inputs >>= λ input. edit_by word.0 input name.1

-- lines, each with its end
abbrev pub text_of_lines : List (List ℕ) → List ℕ
text_of_lines [] = []
text_of_lines (line ∷ lines) = line ++ 10 ∷ text_of_lines lines

-- these lines say these edits
abbrev pub Say : List (List ℕ) → List (List ℕ) → List Edit → Type 0
Say inputs [] [] = ⊤
Say inputs (line ∷ lines) (edit ∷ edits) = (until_at 10 line ≡ None) × (edit_of inputs line ≡ Some edit) × Say inputs lines edits
Say inputs lines edits = ⊥

-- the text says these edits of inputs with these names, and nothing else
pub record AreEdits (inputs : List (List ℕ)) (bytes : List ℕ) (edits : List Edit) : Type 0 where
  pub lines : List (List ℕ)
  pub is : bytes ≡ text_of_lines lines
  pub say : Say inputs lines edits

-- a text begins with a line that is no edit, or that isn't ended
pub record BeginsBadly (inputs : List (List ℕ)) (bytes : List ℕ) : Type 0 where
  pub some : bytes ≢ []
  pub bad : (line more : List ℕ) → until_at 10 bytes ≡ Some (line, more) → edit_of inputs line ≡ None

-- the first line that is no edit, or that isn't ended, has this number, counted from 1
pub record IsBadLine (inputs : List (List ℕ)) (bytes : List ℕ) (number : ℕ) : Type 0 where
  pub good : List (List ℕ)
  pub edits : List Edit
  pub rest : List ℕ
  pub is : bytes ≡ text_of_lines good ++ rest
  pub say : Say inputs good edits
  pub bad : BeginsBadly inputs rest
  pub number_is : number ≡ suc (length good)

-- an edit, read aloud
edit_by_name : edit_of (codes "x" ∷ codes "y" ∷ []) (codes "set y 0,5,7")
    ≡ Some (Set 1 (record { start = pos 0; end = pos 5; value = Some (pos 7) }))
edit_by_name = refl
