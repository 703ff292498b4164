-- How a line is read, word by word. What it gives is said by the lines' words alone: `Line`.
use Rattle.std.specs.Prelude.{ℕ, ◌^◌, ◌==◌, ℤ, pos, negsuc, neg_ℤ, int_lt, int_le, nat_lt, Bool, not, ◌&&◌}
use Rattle.std.specs.Prelude.{if◌then◌else◌, List, [], ◌∷◌, Option, Some, None, MatchOption, codes, ◌≡◌}
use Rattle.std.specs.List.{find, list_any, slice_split}
use Rattle.std.specs.Str.{bytes_eq}
use Rattle.tilt_base.specs.Grid.{GridPoints, is_grid}
use Rattle.tilt_base.specs.Reduce.{reducer_with}
use Rattle.tilt_base.specs.declared.limits.TheConstants.{OFFSET, WIDE}
use Rattle.tilt_base.specs.declared.operator.Op1.{Op1}
use Rattle.tilt_base.specs.declared.reducer.Reducer.{Reducer}
use Rattle.tilt_text.specs.Spelled.{shortest}
use Rattle.tilt_text.specs.Step.{◌>>=◌}
use Rattle.tilt_lexer.specs.Word.{is_word, key_text, keys}
use Rattle.tilt_code.specs.Line.{one_word, two_word}
use Rattle.tilt_code.specs.declared.instr.Instr.{Instr}
use Rattle.tilt_code.specs.declared.instr.Instr.TheVariants as instr
use Rattle.tilt_code.specs.declared.line.Line.{Line}
use Rattle.tilt_code.specs.declared.line.Line.TheVariants as line
use Rattle.tilt_code.specs.declared.word.TheConstants.{ONES, TWOS}

-- the pieces of bytes between those that are the mark, of which there is at least one
abbrev pub pieces : ℕ → List ℕ → List (List ℕ)
pieces mark = slice_split (λ byte. byte == mark)

-- the pieces of what is left, if anything is
abbrev pub pieces_left : ℕ → Option (List ℕ) → List (List ℕ)
pieces_left mark None = []
pieces_left mark (Some bytes) = pieces mark bytes

-- the number, if 32 bits without a sign hold it
abbrev pub within_u32 : ℤ → Option ℕ
within_u32 (pos n) = if nat_lt n (2 ^ 32) then Some n else None
within_u32 (negsuc n) = None

-- the number after a letter
abbrev pub named : ℕ → List ℕ → Option ℕ
named letter [] = None
named letter (byte ∷ bytes) = if byte == letter then shortest bytes >>= within_u32 else None

-- the next word, and those after it
abbrev pub word_at : List (List ℕ) → Option (List ℕ × List (List ℕ))
word_at [] = None
word_at (word ∷ words) = Some (word, words)

-- the number that the next word is
abbrev pub number_at : List (List ℕ) → Option (ℤ × List (List ℕ))
number_at words = do
  word ← word_at words
  number ← shortest word.0
  Some (number, word.1)

-- the number after a letter in the next word
abbrev pub named_at : ℕ → List (List ℕ) → Option (ℕ × List (List ℕ))
named_at letter words = do
  word ← word_at words
  number ← named letter word.0
  Some (number, word.1)

-- whether an offset lies within its bounds
abbrev pub is_offset : ℤ → Bool
is_offset offset = int_le (neg_ℤ OFFSET) offset && int_le offset OFFSET

-- the offset that the next word is
abbrev pub offset_at : List (List ℕ) → Option (ℤ × List (List ℕ))
offset_at words = do
  number ← number_at words
  if is_offset number.0 then Some number else None

-- the reducer that the next word is
abbrev pub reducer_at : List (List ℕ) → Option (Reducer × List (List ℕ))
reducer_at words = do
  word ← word_at words
  reducer ← reducer_with word.0
  Some (reducer, word.1)

-- the number of the map, if there is a word
abbrev pub map_at : List (List ℕ) → Option (Option ℕ × List (List ℕ))
map_at [] = Some (None, [])
map_at (word ∷ words) = do
  number ← named_at 109 (word ∷ words)
  Some (Some number.0, number.1)

-- a constant
abbrev pub const_at : List (List ℕ) → Option (Instr × List (List ℕ))
const_at words = do
  number ← number_at words
  Some (instr.Const number.0, number.1)

-- the reading of a buffer
abbrev pub port_at : List (List ℕ) → Option (Instr × List (List ℕ))
port_at words = do
  buffer ← named_at 98 words
  offset ← offset_at buffer.1
  Some (instr.Port buffer.0 offset.0, offset.1)

-- a window
abbrev pub win_at : List (List ℕ) → Option (Instr × List (List ℕ))
win_at words = do
  reducer ← reducer_at words
  buffer ← named_at 98 reducer.1
  from ← offset_at buffer.1
  to ← offset_at from.1
  map ← map_at to.1
  if int_lt from.0 to.0 then Some (instr.Win reducer.0 buffer.0 from.0 to.0 map.0, map.1) else None

-- a choice
abbrev pub if_at : List (List ℕ) → Option (Instr × List (List ℕ))
if_at words = do
  c ← named_at 114 words
  a ← named_at 114 c.1
  b ← named_at 114 a.1
  Some (instr.If c.0 a.0 b.0, b.1)

-- an operator on two registers
abbrev pub two_at : List ℕ → List (List ℕ) → Option (Instr × List (List ℕ))
two_at form words = do
  op ← find (λ o. bytes_eq (two_word o) form) TWOS
  a ← named_at 114 words
  b ← named_at 114 a.1
  Some (instr.Two op a.0 b.0, b.1)

-- an operator on one register, if there is one, or else on two
abbrev pub one_at : Option Op1 → List ℕ → List (List ℕ) → Option (Instr × List (List ℕ))
one_at None form words = two_at form words
one_at (Some op) form words = do
  a ← named_at 114 words
  Some (instr.One op a.0, a.1)

-- the instruction of a form
abbrev pub form_at : List ℕ → List (List ℕ) → Option (Instr × List (List ℕ))
form_at form words =
    if bytes_eq form (codes "const") then const_at words
    else if bytes_eq form (codes "null") then Some (instr.Null, words)
    else if bytes_eq form (codes "cell") then Some (instr.Argument, words)
    else if bytes_eq form (codes "port") then port_at words
    else if bytes_eq form (codes "win") then win_at words
    else if bytes_eq form (codes "if") then if_at words
    else one_at (find (λ o. bytes_eq (one_word o) form) ONES) form words

-- an instruction
abbrev pub instr_at : List (List ℕ) → Option (Instr × List (List ℕ))
instr_at words = word_at words >>= λ form. form_at form.0 form.1

-- the first line
abbrev pub title_at : List (List ℕ) → Option (Line × List (List ℕ))
title_at words = do
  word ← word_at words
  if bytes_eq word.0 (codes "1") then Some (line.Title, word.1) else None

-- whether the ticks bound a stretch of time that a loop may fill
abbrev pub is_stretch : ℤ → ℤ → Bool
is_stretch lo hi = int_le (neg_ℤ WIDE) lo && int_lt lo hi && int_le hi WIDE

-- the grid, if the numbers bound one
abbrev pub grid_of : ℤ → ℤ → Option GridPoints
grid_of period offset =
    if is_grid (record { period = period; offset = offset }) then Some (record { period = period; offset = offset }) else None

-- the first line of a loop
abbrev pub head_at : List (List ℕ) → Option (Line × List (List ℕ))
head_at words = do
  lo ← number_at words
  hi ← number_at lo.1
  period ← number_at hi.1
  offset ← number_at period.1
  grid ← grid_of period.0 offset.0
  if is_stretch lo.0 hi.0 then Some (line.Head lo.0 hi.0 grid, offset.1) else None

-- the line of an instruction, of which the first word is given
abbrev pub step_at : List ℕ → List (List ℕ) → Option (Line × List (List ℕ))
step_at first words = do
  register ← named 114 first
  sign ← word_at words
  i ← instr_at sign.1
  if bytes_eq sign.0 (codes "=") then Some (line.Step register i.0, i.1) else None

-- a line other than an input's, of which the first word is given
abbrev pub other_at : List ℕ → List (List ℕ) → Option (Line × List (List ℕ))
other_at first words =
    if bytes_eq first (codes "tilt") then title_at words
    else if bytes_eq first (codes "loop") then head_at words
    else if bytes_eq first (codes "map") then Some (line.Map, words)
    else if bytes_eq first (codes "end") then Some (line.End, words)
    else step_at first words

-- what was read, if no words are left
abbrev pub only : {A : Type 0} → A × List (List ℕ) → Option A
only (x, []) = Some x
only (x, word ∷ words) = None

-- whether the bytes are a reserved word
abbrev pub is_reserved : List ℕ → Bool
is_reserved bytes = list_any (λ k. bytes_eq (key_text k) bytes) keys

-- whether an input may have the name
abbrev pub is_input_name : List ℕ → Bool
is_input_name name = is_word name && not (is_reserved name)

-- the input's line, if it may have the name
abbrev pub input_line : List ℕ → Option Line
input_line name = if is_input_name name then Some (line.Input name) else None

-- the next word, if it is the last
abbrev pub last_word : List (List ℕ) → Option (List ℕ)
last_word words = word_at words >>= only

-- a line other than an input's, of which the first word is given, and no words are left
abbrev pub whole_line : List ℕ → List (List ℕ) → Option Line
whole_line first words = other_at first words >>= only

-- the line with these words, of which the first is given
abbrev pub words_line : List ℕ → List (List ℕ) → Option Line
words_line first words = if bytes_eq first (codes "input") then last_word words >>= input_line else whole_line first words

-- the line with these words
abbrev pub line_of : List (List ℕ) → Option Line
line_of words = word_at words >>= λ first. words_line first.0 first.1

-- what was read, and those words that follow it; nothing says what is left if nothing was read
abbrev pub Reads : {A : Type 0} → Option (A × List (List ℕ)) → Option A → List (List ℕ) → Type 0
Reads read result left = MatchOption result (read ≡ None) (λ x. read ≡ Some (x, left))
