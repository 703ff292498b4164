-- How edits are read, line after line.
use Rattle.std.specs.Prelude.{◌≡◌, ◌≢◌, ◌⊎◌, ℕ, suc, List, ◌++◌, length, Option, Some}
use Rattle.tilt_edits.specs.Edits.{edit_of, text_of_lines, AreEdits, IsBadLine, Say}
use Rattle.tilt_edits.specs.declared.edit.Edit.{Edit}
use Rattle.tilt_edits.specs.declared.fault.EditFault.{EditFault}
use Rattle.tilt_edits.specs.declared.fault.EditFault.TheVariants.{BadEdit, OutOfMemory}
use Rattle.tilt_text.specs.Cut.{until_at}
use Rattle.tilt_text.specs.Step.{◌>>=◌}

-- the edit in the first line, and what follows that line; none if it is no edit, or isn't ended
abbrev pub next_edit : List (List ℕ) → List ℕ → Option (Edit × List ℕ)
next_edit inputs bytes = until_at 10 bytes >>= λ parts. edit_of inputs parts.0 >>= λ edit. Some (edit, parts.1)

-- the lines before the one of that number say these edits, and this is left
pub record HasRead (inputs : List (List ℕ)) (bytes left : List ℕ) (edits : List Edit) (number : ℕ) : Type 0 where
  pub good : List (List ℕ)
  pub is : bytes ≡ text_of_lines good ++ left
  pub say : Say inputs good edits
  pub number_is : number ≡ suc (length good)

-- the fault is the first bad line of the text, or out of memory
abbrev pub Tells : List (List ℕ) → List ℕ → EditFault → Type 0
Tells inputs bytes fault = fault ≢ OutOfMemory → (line : ℕ) × (fault ≡ BadEdit line) × IsBadLine inputs bytes line

-- the outcome of a text
abbrev pub Outcome : List (List ℕ) → List ℕ → Type 0
Outcome inputs bytes = ((edits : List Edit) × AreEdits inputs bytes edits) ⊎ ((line : ℕ) × IsBadLine inputs bytes line)
