-- The arguments of a command line after the program's name, and the command that they are (our own rule).
use Rattle.std.specs.Prelude.{◌≡◌, ◌≢◌, ℕ, ◌≤◌, ℤ, pos, neg_ℤ, Bool, false}
use Rattle.std.specs.Prelude.{List, [], ◌∷◌, ◌++◌, Option, Some, codes, map, option_and_then, option_map, String, string_bytes, ⊤}
use Rattle.std.specs.declared.alloc.Global.{Global}
use Rattle.tilt_base.specs.declared.limits.TheConstants.{T}
use Rattle.tilt_cli.specs.declared.command.Command.{Command}
use Rattle.tilt_cli.specs.declared.command.Command.TheVariants as variant
use Rattle.tilt_cli.specs.declared.command_table.Form.{Form}
use Rattle.tilt_cli.specs.declared.command_table.Form.TheVariants as form
use Rattle.tilt_cli.specs.Arguments.{ArgumentsValue, no_arguments, AreArguments}
use Rattle.tilt_cli.specs.Binding.{Binding, bindings_of}
use Rattle.tilt_cli.specs.Legal.{command_of_table}
use Rattle.tilt_cli.specs.Number.{IsNumber, RiseFrom, ClimbFrom}
use Rattle.tilt_cli.specs.Options.{cuts_of, is_set, numbers_of, set_to, text_of, times_of}
use Rattle.tilt_cli.specs.Tables.{options}
use Rattle.tilt_cli.specs.Upto.{IsUptoWithin, UptoValue, upto_of}

-- the bytes of each word
abbrev pub texts : List (String Global) → List (List ℕ)
texts words = map (λ w. string_bytes w) words

-- a command as bytes and numbers
pub data CommandValue : Type 0 where
  run : (query : List ℕ) (binds : List Binding) (plain : Bool) (cuts : List ℤ) → CommandValue
  compile : (query : List ℕ) (plain : Bool) → CommandValue
  exec : (code : List ℕ) (binds : List Binding) → CommandValue
  explain : (query : List ℕ) → CommandValue
  start : (query : List ℕ) (binds : List Binding) (plain : Bool) (upto : UptoValue) (save : List ℕ) → CommandValue
  resume_upto : (checkpoint : List ℕ) (binds : List Binding) (plain : Bool) (upto : UptoValue) (save : List ℕ) → CommandValue
  resume_end : (checkpoint : List ℕ) (binds : List Binding) (plain : Bool) → CommandValue
  pipe : (query : List ℕ) (binds : List Binding) (plain : Bool) → CommandValue
  watch : (query : List ℕ) (binds : List Binding) (plain : Bool) → CommandValue
  parts : (query : List ℕ) (binds : List Binding) (plain : Bool) (at : List ℤ) (order : List ℕ) → CommandValue
  flow : (flow : List ℕ) (binds : List Binding) (plain : Bool) → CommandValue
  fix : (query : List ℕ) (binds : List Binding) (plain : Bool) (edits : List ℕ) → CommandValue
  try : (seed count : ℕ) → CommandValue

-- whether `--plain` is among the arguments
abbrev pub plain_of : ArgumentsValue → Bool
plain_of arguments = is_set (codes "--plain") arguments.settings

-- a session's command, if both its cuts and the file that it is saved in are given
abbrev pub saved_with : (UptoValue → List ℕ → CommandValue) → Option UptoValue → Option (List ℕ) → Option CommandValue
saved_with session upto save = option_and_then (λ cuts. option_map (λ file. session cuts file) save) upto

-- the command of each form, with its file and its arguments
abbrev pub command_with : Form → List ℕ → ArgumentsValue → Option CommandValue
command_with form.Run file given = Some (run file given.binds (plain_of given) (times_of (set_to (codes "--cut") given.settings)))
command_with form.Compile file given = Some (compile file (plain_of given))
command_with form.Exec file given = Some (exec file given.binds)
command_with form.Explain file given = Some (explain file)
command_with form.Start file given =
    saved_with (λ upto save. start file given.binds (plain_of given) upto save)
    (cuts_of (set_to (codes "--upto") given.settings)) (text_of (set_to (codes "--save") given.settings))
command_with form.ResumeUpto file given =
    saved_with (λ upto save. resume_upto file given.binds (plain_of given) upto save)
    (cuts_of (set_to (codes "--upto") given.settings)) (text_of (set_to (codes "--save") given.settings))
command_with form.ResumeEnd file given = Some (resume_end file given.binds (plain_of given))
command_with form.Pipe file given = Some (pipe file given.binds (plain_of given))
command_with form.Watch file given = Some (watch file given.binds (plain_of given))
command_with form.Parts file given =
    Some (parts file given.binds (plain_of given) (times_of (set_to (codes "--at") given.settings))
    (numbers_of (set_to (codes "--order") given.settings)))
command_with form.Flow file given = Some (flow file given.binds (plain_of given))
command_with form.Fix file given =
    option_map (λ edits. fix file given.binds (plain_of given) edits) (text_of (set_to (codes "--edits") given.settings))

-- the command with this first word, this file and these arguments, by the table of commands
abbrev pub command_called : (name file : List ℕ) → ArgumentsValue → Option CommandValue
command_called name file given = option_and_then (λ command. command_with command.form file given) (command_of_table name given)

-- a file that may follow a command's first word: not empty, and it doesn't start with `--`
pub record IsFile (file : List ℕ) : Type 0 where
  pub named : file ≢ []
  pub no_option : (rest : List ℕ) → file ≢ codes "--" ++ rest

-- the arguments are a first word, a file and arguments after it, and the command is the one with these
pub record IsFileCommand (words : List (List ℕ)) (command : CommandValue) : Type 0 where
  pub name : List ℕ
  pub file : List ℕ
  pub rest : List (List ℕ)
  pub given : ArgumentsValue
  pub words_are : words ≡ name ∷ file ∷ rest
  pub is_file : IsFile file
  pub are_arguments : AreArguments options no_arguments rest given
  pub is_called : command_called name file given ≡ Some command

-- the arguments are `try`, a seed and a count, both within their bounds
pub record IsTry (words : List (List ℕ)) (seed count : ℕ) : Type 0 where
  pub seed_word : List ℕ
  pub count_word : List ℕ
  pub words_are : words ≡ codes "try" ∷ seed_word ∷ count_word ∷ []
  pub is_seed : IsNumber (pos 0) (pos 2147483647) seed_word (pos seed)
  pub is_count : IsNumber (pos 0) (pos 1000000) count_word (pos count)

-- the arguments are this command
pub data IsCommand : List (List ℕ) → CommandValue → Type 0 where
  -- one of the table, which has a file
  with_file : {words : List (List ℕ)} {command : CommandValue} → IsFileCommand words command → IsCommand words command
  -- `try`
  tries : {words : List (List ℕ)} {seed count : ℕ} → IsTry words seed count → IsCommand words (try seed count)

-- whether the loops of a command's query aren't to be merged
abbrev pub is_plain : CommandValue → Bool
is_plain (run query binds plain cuts) = plain
is_plain (compile query plain) = plain
is_plain (start query binds plain upto save) = plain
is_plain (resume_upto checkpoint binds plain upto save) = plain
is_plain (resume_end checkpoint binds plain) = plain
is_plain (pipe query binds plain) = plain
is_plain (watch query binds plain) = plain
is_plain (parts query binds plain at order) = plain
is_plain (flow pipeline binds plain) = plain
is_plain (fix query binds plain edits) = plain
is_plain command = false

-- the numbers of a command lie between their bounds, and its cuts are in order
abbrev pub IsWithin : CommandValue → Type 0
IsWithin (run query binds plain cuts) = RiseFrom (neg_ℤ T) T cuts
IsWithin (start query binds plain upto save) = IsUptoWithin upto
IsWithin (resume_upto checkpoint binds plain upto save) = IsUptoWithin upto
IsWithin (parts query binds plain at order) = ClimbFrom (neg_ℤ T) T at
IsWithin (try seed count) = (seed ≤ 2147483647) × (count ≤ 1000000)
IsWithin command = ⊤

-- a command, as bytes and numbers
abbrev pub command_of : Command → CommandValue
command_of (variant.Run query binds plain cuts) = run (string_bytes query) (bindings_of binds.items) plain cuts.items
command_of (variant.Compile query plain) = compile (string_bytes query) plain
command_of (variant.Exec code binds) = exec (string_bytes code) (bindings_of binds.items)
command_of (variant.Explain query) = explain (string_bytes query)
command_of (variant.Start query binds plain upto save) =
    start (string_bytes query) (bindings_of binds.items) plain (upto_of upto) (string_bytes save)
command_of (variant.ResumeUpto file binds plain upto save) =
    resume_upto (string_bytes file) (bindings_of binds.items) plain (upto_of upto) (string_bytes save)
command_of (variant.ResumeEnd file binds plain) = resume_end (string_bytes file) (bindings_of binds.items) plain
command_of (variant.Pipe query binds plain) = pipe (string_bytes query) (bindings_of binds.items) plain
command_of (variant.Watch query binds plain) = watch (string_bytes query) (bindings_of binds.items) plain
command_of (variant.Parts query binds plain at order) = parts (string_bytes query) (bindings_of binds.items) plain at.items order.items
command_of (variant.Flow pipeline binds plain) = flow (string_bytes pipeline) (bindings_of binds.items) plain
command_of (variant.Fix query binds plain edits) = fix (string_bytes query) (bindings_of binds.items) plain (string_bytes edits)
command_of (variant.Try seed count) = try seed count
