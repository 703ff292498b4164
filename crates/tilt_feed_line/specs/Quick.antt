-- What bytes are read as in one pass, without a look at them before.
use Rattle.std.specs.Prelude.{◌≡◌, ℕ, ℤ, List, ◌∷◌, ◌++◌, Option, Some, None, Ok, IsTrue}
use Rattle.tilt_base.specs.Number.{cell_spelled, natural_spelled}
use Rattle.tilt_feed.specs.declared.update.Update.{Update}
use Rattle.tilt_feed.specs.declared.update.Update.TheVariants as update
use Rattle.tilt_feed_line.specs.Lines.{fields_said}
use Rattle.tilt_feed_line.specs.Plain.{is_plain, words}
use Rattle.tilt_feed_line.specs.declared.line.Line.{Line}

-- a comma comes after digits that spell the number, and the rest after the comma
abbrev pub DigitsBefore : List ℕ → ℕ → List ℕ → Type 0
DigitsBefore bytes number rest = (digits : List ℕ) × (bytes ≡ digits ++ 44 ∷ rest) × (natural_spelled digits ≡ Some number)

-- a comma comes after a word that spells the cell, and the rest after the comma
abbrev pub CellBefore : List ℕ → Option ℤ → List ℕ → Type 0
CellBefore bytes cell rest = (word : List ℕ) × (bytes ≡ word ++ 44 ∷ rest) × (cell_spelled word ≡ Some cell)

-- the update that a start, an end and a value say
abbrev pub update_said : Option ℤ → Option ℤ → Option ℤ → Option Update
update_said (Some start) (Some end) value = Some (update.Row start end value)
update_said (Some start) None (Some value) = Some (update.Value start value)
update_said (Some start) None None = Some (update.NoValue start)
update_said None (Some watermark) None = Some (update.KnownUpTo watermark)
update_said None (Some watermark) (Some value) = None
update_said None None value = None

-- the bytes need no quotes, and say this in a feed without keys
abbrev pub PlainlySays : List (List ℕ) → List ℕ → Line → Type 0
PlainlySays inputs bytes said = IsTrue (is_plain bytes) × (fields_said inputs (words bytes) ≡ Ok said)
