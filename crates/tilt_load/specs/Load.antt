-- Why a file isn't taken, and whose turn it is.
use Rattle.std.specs.Prelude.{◌≡◌, ◌<◌, ⊤, List, ℕ, length, Contains, Some}
use Rattle.tilt_base.specs.declared.limits.TheConstants.{FILE}
use Rattle.tilt_outside.specs.Faults.{Rose}
use Rattle.tilt_load.specs.Inputs.{faulty_name}
use Rattle.tilt_cli.specs.Binding.{Binding}
use Rattle.tilt_report.specs.Report.{Reason, input_names, file_too_long}
use Rattle.tilt_report.specs.Report.{Report, usage, refusal, read_fault, write_fault, save_fault, out_of_memory}
use Rattle.tilt_load.specs.SeriesFiles.{IsNextOfSession, no_bounds}
use Rattle.tilt_series.specs.Series.{Bounds}

-- why files aren't taken: a read of a file whose turn it is failed and the count rose, there is no memory, or it is one of the refusals
module _ (tells : Type 0) (is_refusal : Reason → Type 0) (has_turn : List ℕ → Type 0) (before after : ℕ) where
  abbrev pub IsLoadFault : Report → Type 0
  IsLoadFault usage = ⊥
  IsLoadFault (refusal why) = tells → is_refusal why
  IsLoadFault (read_fault name) = Rose before after × has_turn name
  IsLoadFault write_fault = ⊥
  IsLoadFault (save_fault name) = ⊥
  IsLoadFault out_of_memory = ⊤

-- the file of that name has more bytes than a file may have
abbrev pub IsTooLong : List ℕ → List ℕ → Reason → Type 0
IsTooLong name file why = (why ≡ file_too_long name) × (FILE < length file)

-- it is a file's turn: the turn of an input among these, each of which is read within the bounds of its place
pub record HasSessionTurn (tells : Type 0) (files : List ℕ → List ℕ) (binds : List Binding) (bounds : ℕ → Bounds)
    (inputs : List (List ℕ)) (file : List ℕ) : Type 0 where
  pub bind : Binding
  pub among : Contains binds bind
  pub is : bind.file ≡ file
  pub next : tells → IsNextOfSession files binds bounds inputs bind

-- the same of inputs without bounds
abbrev pub HasInputTurn : Type 0 → (List ℕ → List ℕ) → List Binding → List (List ℕ) → List ℕ → Type 0
HasInputTurn tells files binds inputs file = HasSessionTurn tells files binds (λ _. no_bounds) inputs file

-- a name is faulty, and it is reported, or there is no memory
abbrev pub IsNameFault : List (List ℕ) → List Binding → Report → Type 0
IsNameFault inputs binds usage = ⊥
IsNameFault inputs binds (refusal why) = (name : List ℕ) × (why ≡ input_names name) × (faulty_name inputs binds ≡ Some name)
IsNameFault inputs binds (read_fault name) = ⊥
IsNameFault inputs binds write_fault = ⊥
IsNameFault inputs binds (save_fault name) = ⊥
IsNameFault inputs binds out_of_memory = ⊤
