-- The options and the commands of the program `tilt`, as two tables (our own rule).
use Rattle.std.specs.Prelude.{ℕ, Bool, true, false, List, [], ◌∷◌, Option, codes, find, map}
use Rattle.std.specs.Str.{bytes_eq}
use Rattle.tilt_cli.specs.declared.command_table.CommandRow.{CommandRow}
use Rattle.tilt_cli.specs.declared.command_table.Form.{Form}
use Rattle.tilt_cli.specs.declared.command_table.Form.TheVariants as form
use Rattle.tilt_cli.specs.declared.option_table.OptionRow.{OptionRow}
use Rattle.tilt_cli.specs.declared.option_table.Shape.{Shape}
use Rattle.tilt_cli.specs.declared.option_table.Shape.TheVariants as shape

-- an option: its word, and the shape of its value
pub record OptionEntry : Type 0 where
  pub word : List ℕ
  pub shape : Shape

-- a command that has a file: its first word, the options that it must have and the others that it can have, and whether it can have binds
pub record CommandEntry : Type 0 where
  pub word : List ℕ
  pub form : Form
  pub required : List (List ℕ)
  pub allowed : List (List ℕ)
  pub takes_binds : Bool

-- all options
unfoldable pub options : List OptionEntry
options =
    record { word = codes "--plain"; shape = shape.Flag }
    ∷ record { word = codes "--cut"; shape = shape.Times }
    ∷ record { word = codes "--at"; shape = shape.RisingTimes }
    ∷ record { word = codes "--order"; shape = shape.Numbers }
    ∷ record { word = codes "--edits"; shape = shape.Text }
    ∷ record { word = codes "--upto"; shape = shape.Cuts }
    ∷ record { word = codes "--save"; shape = shape.Text }
    ∷ record { word = codes "--end"; shape = shape.Flag }
    ∷ []

-- a command by its first word, its form, the options that it must have, the others that it can have, and whether it can have binds
abbrev command : List ℕ → Form → List (List ℕ) → List (List ℕ) → Bool → CommandEntry
command word kind required allowed takes_binds =
    record { word = word; form = kind; required = required; allowed = allowed; takes_binds = takes_binds }

-- all commands that have a file
unfoldable pub commands : List CommandEntry
commands =
    command (codes "run") form.Run [] (codes "--plain" ∷ codes "--cut" ∷ []) true
    ∷ command (codes "watch") form.Watch [] (codes "--plain" ∷ []) true
    ∷ command (codes "pipe") form.Pipe [] (codes "--plain" ∷ []) true
    ∷ command (codes "parts") form.Parts (codes "--at" ∷ []) (codes "--order" ∷ codes "--plain" ∷ []) true
    ∷ command (codes "fix") form.Fix (codes "--edits" ∷ []) (codes "--plain" ∷ []) true
    ∷ command (codes "flow") form.Flow [] (codes "--plain" ∷ []) true
    ∷ command (codes "compile") form.Compile [] (codes "--plain" ∷ []) false
    ∷ command (codes "exec") form.Exec [] [] true
    ∷ command (codes "explain") form.Explain [] [] false
    ∷ command (codes "start") form.Start (codes "--upto" ∷ codes "--save" ∷ []) (codes "--plain" ∷ []) true
    ∷ command (codes "resume") form.ResumeUpto (codes "--upto" ∷ codes "--save" ∷ []) (codes "--plain" ∷ []) true
    ∷ command (codes "resume") form.ResumeEnd (codes "--end" ∷ []) (codes "--plain" ∷ []) true
    ∷ []

-- the option of a table that is this word
unfoldable pub option_of : List OptionEntry → List ℕ → Option OptionEntry
option_of table word = find (λ entry. bytes_eq entry.word word) table

-- a row of the program's tables, as bytes
abbrev pub option_entry : OptionRow → OptionEntry
option_entry row = record { word = row.word.now; shape = row.shape }

-- a table of options, as the program has it
abbrev pub option_entries : List OptionRow → List OptionEntry
option_entries rows = map option_entry rows

abbrev pub command_entry : CommandRow → CommandEntry
command_entry row = record {
  word = row.word.now;
  form = row.form;
  required = map (λ option. option.now) row.required.now;
  allowed = map (λ option. option.now) row.allowed.now;
  takes_binds = row.takes_binds;
}

-- the first row with this word, in rows of the program
unfoldable pub option_found : List OptionRow → List ℕ → Option OptionRow
option_found rows word = find (λ row. bytes_eq row.word.now word) rows
